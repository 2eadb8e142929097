use Rattle.lake_desk.proofs.Gathers.{GathersTo}
use Rattle.lake_desk.proofs.gathering.gather.Given as goal

abbrev pub invariant-loop-lane : goal.invariant-loop-lane
invariant-loop-lane g l = GathersTo l.lane l.initial.desks l.desks
