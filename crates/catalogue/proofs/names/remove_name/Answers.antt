use Rattle.std.proofs.Common.{◌∙◌, ap, cond, None, List, ℕ}
use Rattle.std.specs.Prelude.{bytes_eq}
use Rattle.std.specs.BTreeMap.{get_by_text}
use Rattle.std.proofs.lemmas.Map.Text.{btree_map_updates_text}
use Rattle.catalogue.proofs.names.remove_name.Goals as goal

pub returns : goal.returns
returns c q =
    btree_map_updates_text c.text.result.now c.args.positions.now c.remove.new.self _ c.remove.ensures.updates q
    ∙ ap (λ (n : List ℕ). cond (bytes_eq n q) None (get_by_text c.args.positions.now q)) c.text.ensures
