use Rattle.std.specs.List.{AllByRecursion}
use Rattle.script_model.specs.Lanes.{IsOfLanes}
use Rattle.trace_tests.proofs.trace_numbers_tests.tells.Given as goal

abbrev pub invariant-loop-of_batch : goal.invariant-loop-of_batch
invariant-loop-of_batch g l = AllByRecursion (IsOfLanes 2) l.batches.items
