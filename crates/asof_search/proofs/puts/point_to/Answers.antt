use Rattle.std.proofs.Common.{◌∙◌, ap, cond, Some, List, ℕ, string_bytes}
use Rattle.std.specs.Prelude.{bytes_eq}
use Rattle.std.specs.BTreeMap.{get_by_text}
use Rattle.std.proofs.lemmas.Map.Text.{btree_map_updates_text}
use Rattle.asof_search.proofs.puts.point_to.Goals as goal

pub returns-clause-ok : goal.returns-clause-ok
returns-clause-ok c q =
    btree_map_updates_text (string_bytes c.in_ok-key.key) c.args.live.now c.insert.new.self _ c.in_ok-insert.ensures.updates q
    ∙ ap (λ (n : List ℕ). cond (bytes_eq n q) (Some c.args.index) (get_by_text c.args.live.now q)) (c.in_ok-key.ensures.ok ∙ c.text.ensures)
