use Rattle.std.proofs.Common.{drop, length}
use Rattle.column_set.specs.Slots.{IsSlotted}
use Rattle.column_set.proofs.slots.slots_of.Given as goal

abbrev pub invariant-loop-i : goal.invariant-loop-i
invariant-loop-i l = IsSlotted (length l.slots.items) l.slots.items (drop l.from l.keys) l.i
