use Rattle.script_model.specs.Lanes.{IsOfLanes}
use Rattle.answer_tests.proofs.making.batch.Given as goal

abbrev pub invariant-loop-index : goal.invariant-loop-index
invariant-loop-index l = IsOfLanes l.fn.lanes l.commands.items
