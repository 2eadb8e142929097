use Rattle.std.proofs.Common.{◌≡◌, subst, arith, ℕ, List, [], ◌∷◌}
use Rattle.std.specs.List.{All}
use Rattle.segment_core.specs.Hashes.{hash_of}
use Rattle.segment_core.proofs.hashes.HashOrder.may_have.Goals as goal

pub returns : goal.returns
returns c none =
    let one : c.as_slice.result.now ≡ c.args.hash ∷ [] = c.as_slice.ensures in
    let denied = subst (λ (hashes : List ℕ). All (λ hash. All (λ entry. hash_of entry.key ≡ hash → ⊥) c.args.self.now) hashes) one (c.may_have_any.ensures none) in
    denied 0 0 (omega arith)
