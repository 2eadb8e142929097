use Rattle.std.proofs.Common.{take}
use Rattle.lake_core.specs.Plays.{Goes, state_with}
use Rattle.lake_core.proofs.driving.play_piece.Given as goal

abbrev pub invariant-loop-lane : goal.invariant-loop-lane
invariant-loop-lane l = Goes l.keys (take l.lane-index l.piece) (state_with l.initial.catalogue l.initial.past l.initial.lanes l.initial.out) (state_with l.catalogue l.past l.lanes l.out)
