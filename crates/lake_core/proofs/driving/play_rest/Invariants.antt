use Rattle.std.proofs.Common.{◌*◌, replicate}
use Rattle.std.specs.List.{flat_map, range_with_len}
use Rattle.lake_core.specs.Plays.{Goes, state_with}
use Rattle.lake_core.proofs.driving.play_rest.Given as goal

abbrev pub invariant-loop-before : goal.invariant-loop-before
invariant-loop-before l = Goes l.keys (flat_map (λ lane. replicate (2 * l.works) lane) (range_with_len 1 l.before)) (state_with l.initial.catalogue l.initial.past l.initial.lanes l.initial.out) (state_with l.catalogue l.past l.lanes l.out)
