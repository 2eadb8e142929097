use Rattle.script_model.specs.Lanes.{IsOfLanes}
use Rattle.trace_tests.proofs.trace_numbers_tests.drops.Given as goal

abbrev pub invariant-loop-index : goal.invariant-loop-index
invariant-loop-index l = IsOfLanes 2 l.commands.items
