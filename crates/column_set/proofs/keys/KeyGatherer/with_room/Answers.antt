use Rattle.std.proofs.Common.{arith}
use Rattle.column_set.proofs.SlotLemmas.{no_keys_slotted}
use Rattle.column_set.proofs.keys.KeyGatherer.with_room.Goals as goal

pub invariant_of-result : goal.invariant_of-result
invariant_of-result c = (omega arith, no_keys_slotted c.in_ok-slots.slots.items c.in_ok-keys.keys c.in_ok-slots.ensures c.in_ok-keys.ensures)
