use Rattle.std.proofs.Common.{◌≡◌, ◌∙◌, ap, cond, sym, true, false, Some, None, List, Option, ℕ, is_some}
use Rattle.std.specs.Prelude.{bytes_eq}
use Rattle.std.specs.BTreeMap.{get_by_text}
use Rattle.std.proofs.lemmas.Map.Text.{btree_map_updates_text}
use Rattle.catalogue.proofs.names.move_name.Goals as goal

pub unreachable-requires : goal.unreachable-requires
unreachable-requires c =
    let none : get_by_text c.args.positions.now c.args.name.now ≡ None = ap (λ (n : List ℕ). get_by_text c.args.positions.now n) (sym c.text.ensures) ∙ sym c.in_default.ensures.value in
    let never : true ≡ false = sym c.requires ∙ ap (λ (o : Option ℕ). is_some o) none in
    cc

pub returns : goal.returns
returns c q =
    let is : get_by_text c.args.positions.now c.text.result.now ≡ Some c.in-Some.position.now = sym c.in-Some.ensures.value in
    let some : is_some (get_by_text c.args.positions.now c.text.result.now) ≡ true = ap (λ (o : Option ℕ). is_some o) is in
    btree_map_updates_text c.text.result.now c.args.positions.now (c.get_mut.follows.lender c.args.at) (Some c.args.at) ((c.get_mut.follows.holds c.args.at).3 some) q
    ∙ ap (λ (n : List ℕ). cond (bytes_eq n q) (Some c.args.at) (get_by_text c.args.positions.now q)) c.text.ensures
