use Rattle.std.proofs.Common.{◌≡◌, ◌∙◌, ◌+◌, ℕ, ap, arith, drop, length, length-drop, refl, slice_set, subst}
use Rattle.column_set.specs.Slots.{IsSlotted, hash_of}
use Rattle.column_set.proofs.SlotLemmas.{slotted_more, slotted_none}
use Rattle.column_set.proofs.slots.slots_of.Goals as goal

pub loop-i-init : goal.loop-i-init
loop-i-init c = slotted_none c.in_ok-slots.slots.items (drop c.args.from c.args.keys.now) c.in_ok-slots.ensures

pub loop-i-preserved : goal.loop-i-preserved
loop-i-preserved c =
    slotted_more c.loop-i.slots.items (drop c.args.from c.args.keys.now) c.loop-i.i c.in-Some.at c.hash_key.result c.loop-i.invariant (c.hash_key.ensures ∙ ap hash_of c.text_behind.ensures)
    c.deref.result.now c.deref.ensures.value c.in-Some.ensures (slice_set c.loop-i.slots.items c.in-Some.at (c.loop-i.i + 1)) refl

pub returns : goal.returns
returns c =
    let slots = c.loop-i.slots.items in
    let keys = drop c.args.from c.args.keys.now in
    let all : c.loop-i.i ≡ length keys = omega (arith, length-drop c.args.from c.args.keys.now, c.len.ensures.value) in
    subst (λ (n : ℕ). IsSlotted (length slots) slots keys n) all c.loop-i.invariant
