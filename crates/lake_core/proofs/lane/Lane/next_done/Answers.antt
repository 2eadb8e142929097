use Rattle.std.proofs.Common.{ap, arith, length, length-drop, List}
use Rattle.record_model.specs.Play.{Done}
use Rattle.lake_core.proofs.lane.Lane.next_done.Goals as goal

pub invariant_of-self : goal.invariant_of-self
invariant_of-self c =
    let done = c.self.inside.done.items in
    omega (arith, c.self.invariant, ap (λ (ds : List Done). length ds) c.next_answer.ensures.rest, length-drop 1 done, c.next_answer.ensures.capacity)
