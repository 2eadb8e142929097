use Rattle.std.proofs.Common.{arith, drop}
use Rattle.column_set.proofs.GatherLemmas.{none_behind}
use Rattle.column_set.proofs.SlotLemmas.{no_keys_slotted}
use Rattle.column_set.proofs.keys.KeyGatherer.close.Goals as goal

pub invariant_of-self-2 : goal.invariant_of-self-2
invariant_of-self-2 c =
    let keys = c.settle.new.keys in
    let end = c.len-end.result in
    (omega (arith, c.len-end.ensures.value), no_keys_slotted c.in_ok-free_slots.field-0.items (drop end keys) c.in_ok-free_slots.ensures (none_behind keys end c.len-end.ensures.value))
