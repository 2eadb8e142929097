use Rattle.std.proofs.Common.{◌≡◌, ◌<◌, ◌∙◌, ℕ, [], List, ap, sym, subst, length, get_or, count_by}
use Rattle.std.specs.List.{IsDistinct}
use Rattle.std.specs.Prelude.{bytes_eq}
use Rattle.std.specs.Result.{IfOk}
use Rattle.std.proofs.lemmas.List.{length-map}
use Rattle.std.proofs.lemmas.List.Elements.{All-map}
use Rattle.lake_model.specs.Tables.{has_key, keys_at}
use Rattle.column_watch.specs.Held.{StateOf}
use Rattle.column_watch.specs.Hits.{hit_keys}
use Rattle.column_watch.specs.declared.overlaps.Hit.{Hit}
use Rattle.column_watch.proofs.CountLemmas.{counted_hits}
use Rattle.column_watch.proofs.HolderLemmas.{keys_of}
use Rattle.column_watch.proofs.overlaps.count_column.Goals as goal

pub returns : goal.returns
returns c =
    let queries = keys_of c.args.queries.now in
    let keys = keys_at c.args.table.now c.args.place in
    let different = All-map (IsDistinct bytes_eq) (λ (state : StateOf). state.keys) c.args.queries.now c.requires.different in
    let all = λ (w : ℕ) (h : w < length queries). ap (λ (hits : List Hit). count_by (has_key (get_or queries w [])) (hit_keys keys hits)) c.deref.ensures.value ∙ c.in_ok-hits.ensures.all queries w c.requires.indexed (different w [] h) in
    let wide : length c.args.queries.now ≡ length queries = sym (length-map c.args.queries.now (λ (state : StateOf). state.keys)) in
    counted_hits queries keys (hit_keys keys c.deref.result.now) c.count_hits.result all (subst (λ (n : ℕ). IfOk c.count_hits.result (λ counts. length counts.items ≡ n)) wide c.count_hits.ensures.len) c.count_hits.ensures.counted
