use Rattle.std.proofs.Common.{◌<◌, length}
use Rattle.column_set.specs.Slots.{Passes, home_of}
use Rattle.column_set.proofs.slots.free_slot.Given as goal

-- the slots passed so far are taken
abbrev pub invariant-loop-probe : goal.invariant-loop-probe
invariant-loop-probe l = record {
  within : l.at < length l.slots;
  passed : Passes (length l.slots) l.slots (home_of (length l.slots) l.hash) l.at l.probe;
}
