use Rattle.std.proofs.Common.{[]}
use Rattle.lake_core.specs.Lanes.{AreShared}
use Rattle.lake_core.proofs.driving.idle_lanes.Given as goal

abbrev pub invariant-loop-made : goal.invariant-loop-made
invariant-loop-made l = AreShared l._made [] l.all.items
