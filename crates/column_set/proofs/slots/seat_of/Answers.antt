use Rattle.std.proofs.Common.{◌≡◌, ◌∙◌, ◌-◌, [], add-one, ap, arith, drop, false, get_or, length, refl, sym, true}
use Rattle.std.specs.Prelude.{bytes_eq}
use Rattle.lake_model.specs.Texts.{Text}
use Rattle.column_set.specs.Slots.{home_of}
use Rattle.column_set.proofs.SlotLemmas.{ahead_first, ahead_more, found_ahead, none_ahead, none_left, none_slotted, passes_more}
use Rattle.column_set.proofs.slots.seat_of.Goals as goal

pub returns-then-size-eq0 : goal.returns-then-size-eq0
returns-then-size-eq0 c =
    let slots = c.args.slots.now in
    none_slotted slots (drop c.args.from c.args.keys.now) c.args.key.now (length slots) c.requires.slotted (omega (arith, c.if-size-eq0.true))

pub loop-step-init : goal.loop-step-init
loop-step-init c =
    let slots = c.args.slots.now in
    record {
      within = c.home-at.ensures.within;
      passed = sym c.home-at.ensures.value;
      ahead = ahead_first (length slots) slots (drop c.args.from c.args.keys.now) c.args.key.now c.args.hash c.home-at.result c.requires.slotted c.requires.hashed c.home-at.ensures.value;
    }

pub returns-then-number-eq0 : goal.returns-then-number-eq0
returns-then-number-eq0 c =
    let slots = c.args.slots.now in (
      none_ahead (length slots) slots (drop c.args.from c.args.keys.now) c.args.key.now c.loop-step.at c.loop-step.step c.loop-step.invariant.ahead c.if-number-eq0.true,
      record {
        within = c.loop-step.invariant.within;
        free = c.if-number-eq0.true;
        reached = record { steps = c.loop-step.step; few = omega (arith, c.loop-step-test.true); passes = c.loop-step.invariant.passed };
      },
    )

pub returns-then-eq : goal.returns-then-eq
returns-then-eq c =
    let keys = drop c.args.from c.args.keys.now in
    let number = get_or c.args.slots.now c.loop-step.at 0 in
    let same : bytes_eq (get_or keys (number - 1) []) c.args.key.now ≡ true = ap (λ (t : Text). bytes_eq t c.args.key.now) (sym c.text_behind.ensures) ∙ sym c.eq.ensures ∙ c.if-eq.true in
    found_ahead keys c.args.key.now number (omega (arith, c.if-number-eq0.false)) (c.requires.slotted.numbers c.loop-step.at) same

pub loop-step-preserved : goal.loop-step-preserved
loop-step-preserved c =
    let slots = c.args.slots.now in
    let keys = drop c.args.from c.args.keys.now in
    let number = get_or slots c.loop-step.at 0 in
    let other : bytes_eq (get_or keys (number - 1) []) c.args.key.now ≡ false = ap (λ (t : Text). bytes_eq t c.args.key.now) (sym c.text_behind.ensures) ∙ sym c.eq.ensures ∙ c.if-eq.false in
    let ahead = ahead_more (length slots) slots keys c.args.key.now c.loop-step.at c.loop-step.step number c.loop-step.invariant.ahead refl other in
    let passed = passes_more (length slots) slots (home_of (length slots) c.args.hash) c.loop-step.at c.loop-step.step c.loop-step.invariant.passed (omega (arith, c.if-number-eq0.false)) in
    record {
      within = c.behind-at.ensures.within;
      passed = rw (c.behind-at.ensures.value, add-one c.loop-step.step) passed;
      ahead = rw c.behind-at.ensures.value ahead;
    }

pub returns : goal.returns
returns c =
    let slots = c.args.slots.now in
    none_left (length slots) slots (drop c.args.from c.args.keys.now) c.args.key.now c.loop-step.at c.loop-step.step c.loop-step.invariant.ahead (omega arith)
