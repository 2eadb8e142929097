use Rattle.std.proofs.Common.{◌≡◌, ◌∙◌, sym, subst, List}
use Rattle.std.specs.List.{All}
use Rattle.segment_core.specs.Hashes.{KeyedToken, hash_of}
use Rattle.segment_core.proofs.HashLemmas.{denied}
use Rattle.segment_core.proofs.hashes.HashOrder.may_have_any.Goals as goal

pub returns : goal.returns
returns c none =
    let keys = c.self.inside.keys in
    let entries = c.self.inside.entries.items in
    subst (λ (order : List KeyedToken). All (λ hash. All (λ entry. hash_of entry.key ≡ hash → ⊥) order) c.args.hashes.now) c.self.view_is (denied keys entries c.self.inside.directory.filter c.args.hashes.now c.self.invariant.1 c.self.invariant.2.filter (sym c.may_have_any.ensures ∙ none))
