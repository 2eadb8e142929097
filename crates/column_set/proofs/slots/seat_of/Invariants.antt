use Rattle.std.proofs.Common.{◌<◌, drop, length}
use Rattle.column_set.proofs.SlotLemmas.{AllAhead}
use Rattle.column_set.specs.Slots.{Passes, home_of}
use Rattle.column_set.proofs.slots.seat_of.Given as goal

-- the slots passed so far are taken, and if the key is one of the keys, its slot is still ahead
abbrev pub invariant-loop-step : goal.invariant-loop-step
invariant-loop-step l = record {
  within : l.at < length l.slots;
  passed : Passes (length l.slots) l.slots (home_of (length l.slots) l.hash) l.at l.step;
  ahead : AllAhead (length l.slots) l.slots (drop l.from l.keys) l.key l.at l.step;
}
