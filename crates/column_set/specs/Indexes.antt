-- The indexes that find keys.
use Rattle.std.specs.Prelude.{List, length}
use Rattle.lake_model.specs.Texts.{Text}
use Rattle.column_set.specs.declared.index.KeyIndex.{KeyIndex}
use Rattle.column_set.specs.declared.index.KeyIndex.TheVariants.{Sorted, Slots}
use Rattle.column_set.specs.Slots.{IsSlotted}
use Rattle.column_set.specs.Sorted.{IsHashOrder}

-- each key is in a slot, or the indices of all keys are sorted by the hashes of the keys
abbrev pub IsIndexOf : KeyIndex → List Text → Type 0
IsIndexOf (Slots slots) keys = IsSlotted (length slots.items) slots.items keys (length keys)
IsIndexOf (Sorted order) keys = IsHashOrder keys 0 order.items
