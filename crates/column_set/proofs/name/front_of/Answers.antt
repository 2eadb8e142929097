use Rattle.std.proofs.Common.{◌≡◌, ◌∙◌, ap, sym, ℕ, ◌+◌, ◌*◌, arith}
use Rattle.list_laws.specs.Digits.{digits}
use Rattle.list_laws.proofs.DigitLemmas.{digits_more, digits_none, one_digit_more}
use Rattle.column_set.proofs.NameLemmas.{front_fits}
use Rattle.column_set.proofs.name.front_of.Goals as goal

pub loop-i-init : goal.loop-i-init
loop-i-init c = record { value = sym (digits_none 129 c.args.bytes.now); small = omega arith }

pub loop-i-preserved : goal.loop-i-preserved
loop-i-preserved c =
    let bytes = c.args.bytes.now in
    let i = c.loop-i.i in
    record {
      value = ap (λ (n : ℕ). n * 129 + c.digit_at.result) c.loop-i.invariant.value ∙ ap (λ (n : ℕ). digits 129 i bytes * 129 + n) c.digit_at.ensures.value ∙ sym (digits_more 129 i bytes);
      small = one_digit_more 129 i c.loop-i.front c.digit_at.result c.loop-i.invariant.small c.digit_at.ensures.small;
    }

pub overflow_mul-front : goal.overflow_mul-front
overflow_mul-front c =
    let small = front_fits (c.loop-i.i + 1) (c.loop-i.front * 129 + 0) (omega (arith, c.loop-i-test.true)) (one_digit_more 129 c.loop-i.i c.loop-i.front 0 c.loop-i.invariant.small (omega arith)) in
    omega (arith, small)

pub overflow_add-front : goal.overflow_add-front
overflow_add-front c =
    let small = front_fits (c.loop-i.i + 1) (c.loop-i.front * 129 + c.digit_at.result) (omega (arith, c.loop-i-test.true)) (one_digit_more 129 c.loop-i.i c.loop-i.front c.digit_at.result c.loop-i.invariant.small c.digit_at.ensures.small) in
    omega (arith, small)

pub returns : goal.returns
returns c =
    let end : c.loop-i.i ≡ 9 = omega (arith, c.loop-i-test.false, c.loop-i.auto.i-end) in
    c.loop-i.invariant.value ∙ ap (λ (n : ℕ). digits 129 n c.args.bytes.now) end
