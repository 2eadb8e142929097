use Rattle.std.proofs.Common.{◌*◌, replicate}
use Rattle.lake_core.specs.Plays.{Goes, state_with}
use Rattle.lake_core.proofs.driving.play_lane.Given as goal

abbrev pub invariant-loop-taken : goal.invariant-loop-taken
invariant-loop-taken l = Goes l.keys (replicate (2 * l._taken) l.lane) (state_with l.initial.catalogue l.initial.past l.initial.lanes l.initial.out) (state_with l.catalogue l.past l.lanes l.out)
