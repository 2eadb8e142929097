use Rattle.std.proofs.Common.{◌≡◌, ◌++◌, take}
use Rattle.segment_core.specs.Plans.{loads_without}
use Rattle.segment_core.proofs.plan.add_loads.Given as goal

abbrev pub invariant-loop-i : goal.invariant-loop-i
invariant-loop-i l = l.loads.items ≡ l.fn.loads.items ++ loads_without (take l.i l.positions) (take l.i l.tables) (take l.i l.marks)
