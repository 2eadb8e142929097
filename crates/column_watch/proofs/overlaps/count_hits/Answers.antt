use Rattle.std.proofs.Common.{◌≡◌, ◌<◌, ◌≤◌, ◌∙◌, ℕ, [], List, ap, sym, arith, length, take, drop, get_or, count_by}
use Rattle.std.proofs.Math.Seq.{take-length}
use Rattle.std.proofs.lemmas.List.{length-map}
use Rattle.lake_model.specs.Tables.{has_key, keys_at}
use Rattle.column_watch.specs.Held.{StateOf}
use Rattle.column_watch.specs.Hits.{hit_keys}
use Rattle.column_watch.specs.declared.overlaps.Hit.{Hit}
use Rattle.column_watch.proofs.CountLemmas.{count_few, counted_more, hit_key, written}
use Rattle.column_watch.proofs.HolderLemmas.{keys_of}
use Rattle.column_watch.proofs.overlaps.count_hits.Goals as goal

pub raise-requires-clause-few : goal.raise-requires-clause-few
raise-requires-clause-few c = omega (arith, ap length c.deref_mut.ensures.value, c.loop-hit.invariant.len, c.requires.narrow)

pub raise-requires-clause-small : goal.raise-requires-clause-small
raise-requires-clause-small c = λ w h.
    let queries = keys_of c.args.queries.now in
    let within : w < length queries = omega (arith, h, ap length c.deref_mut.ensures.value, c.loop-hit.invariant.len, length-map c.args.queries.now (λ (state : StateOf). state.keys)) in
    let low : get_or c.deref_mut.result.now w 0 ≤ c.loop-hit.hit-index = omega (arith, ap (λ (us : List ℕ). get_or us w 0) c.deref_mut.ensures.value, c.loop-hit.invariant.counted w within, count_few (has_key (get_or queries w [])) (hit_keys (keys_at c.args.table.now c.args.place) c.args.hits.now) c.loop-hit.hit-index) in
    omega (arith, low, c.loop-hit-test.true, c.requires.few)

pub loop-hit-preserved : goal.loop-hit-preserved
loop-hit-preserved c =
    let queries = keys_of c.args.queries.now in
    let keys = keys_at c.args.table.now c.args.place in
    let hits = c.args.hits.now in
    let i = c.loop-hit.hit-index in
    let key = c.key-key.result.now in
    let news = c.raise.new.counts in
    let olds = c.deref_mut.result.now in
    let all = written c.loop-hit.counts.len news (drop (length news) c.loop-hit.counts.items) (omega (arith, c.deref_mut.ensures.len, c.raise.ensures.len)) in
    let there : i < length hits = c.loop-hit-test.true in
    let within : i < length (hit_keys keys hits) = omega (arith, there, length-map hits (λ (hit : Hit). get_or keys hit.index [])) in
    let wide : length queries ≡ length olds = length-map c.args.queries.now (λ (state : StateOf). state.keys) ∙ sym (ap length c.deref_mut.ensures.value ∙ c.loop-hit.invariant.len) in
    record {
      len = ap length all ∙ c.raise.ensures.len ∙ ap length c.deref_mut.ensures.value ∙ c.loop-hit.invariant.len;
      counted = λ w h. ap (λ (us : List ℕ). get_or us w 0) all
          ∙ counted_more queries (hit_keys keys hits) i key c.holders_of.result olds news within (hit_key keys hits i _ key there c.key-key.ensures) c.holders_of.ensures
          (λ v k. ap (λ (us : List ℕ). get_or us v 0) c.deref_mut.ensures.value ∙ c.loop-hit.invariant.counted v k) (λ v k. c.raise.ensures.raised v (omega (arith, k, wide))) w h;
    }

pub returns-clause-counted : goal.returns-clause-counted
returns-clause-counted c = λ w h.
    let keys = hit_keys (keys_at c.args.table.now c.args.place) c.args.hits.now in
    let end : c.loop-hit.hit-index ≡ length keys = omega (arith, length-map c.args.hits.now (λ (hit : Hit). get_or (keys_at c.args.table.now c.args.place) hit.index [])) in
    let all : take c.loop-hit.hit-index keys ≡ keys = ap (λ (n : ℕ). take n keys) end ∙ take-length keys in
    c.loop-hit.invariant.counted w h ∙ ap (count_by (has_key (get_or (keys_of c.args.queries.now) w []))) all
