use Rattle.std.proofs.Common.{◌≡◌, ◌∙◌, ap, arith, length, take}
use Rattle.std.proofs.lemmas.List.{length-take-le, take-take}
use Rattle.script_text.proofs.HeldLemmas.{held_kept, held_same}
use Rattle.script_text.proofs.input.Input.give_back.Goals as goal

pub invariant_of-self : goal.invariant_of-self
invariant_of-self c =
    let f = c.self-2.inside.filled in
    let bytes = c.self-2.inside.bytes.items in
    let now = c.shrink_to_fit.new.self.items in
    let same : now ≡ take f bytes = c.shrink_to_fit.ensures.items ∙ c.truncate.ensures.items in
    let first : take f now ≡ take f bytes = ap (take f) same ∙ take-take f f bytes (omega arith) in
    held_kept c.self-2.inside.start f c.self-2.inside.searched bytes now c.self-2.invariant first (omega (arith, ap length same, length-take-le f bytes c.self-2.invariant.within))

pub returns : goal.returns
returns c =
    let f = c.self-2.inside.filled in
    let bytes = c.self-2.inside.bytes.items in
    let now = c.shrink_to_fit.new.self.items in
    let same : now ≡ take f bytes = c.shrink_to_fit.ensures.items ∙ c.truncate.ensures.items in
    let first : take f now ≡ take f bytes = ap (take f) same ∙ take-take f f bytes (omega arith) in
    held_same c.self-2.inside.start f bytes now (omega (arith, c.self-2.invariant.ordered)) first ∙ c.self-2.view_is ∙ c.move_to_front.ensures
