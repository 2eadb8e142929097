use Rattle.lake_desk.proofs.Hands.{HandsTo}
use Rattle.lake_desk.proofs.gathering.hand_out.Given as goal

abbrev pub invariant-loop-lane : goal.invariant-loop-lane
invariant-loop-lane g l = HandsTo l.lane l.initial.desks l.desks
