use Rattle.std.proofs.Common.{◌≡◌, ◌∙◌, ap, sym, drop, ℕ, ◌+◌, ◌*◌, ◌<◌, ◌^◌, subst, arith}
use Rattle.list_laws.specs.Digits.{digits}
use Rattle.list_laws.proofs.DigitLemmas.{digits_more, digits_none, one_digit_more}
use Rattle.token_order.proofs.FrontLemmas.{five_fit, later_digit}
use Rattle.token_order.proofs.fronts.five_digits.Goals as goal

pub loop-i-init : goal.loop-i-init
loop-i-init c = record { value = sym (digits_none 257 (drop c.args.from c.args.bytes.now)); small = omega arith }

pub loop-i-preserved : goal.loop-i-preserved
loop-i-preserved c =
    let later = drop c.args.from c.args.bytes.now in
    let i = c.loop-i.i in
    record {
      value =
          ap (λ (n : ℕ). n * 257 + c.digit_at.result) c.loop-i.invariant.value
          ∙ ap (λ (n : ℕ). digits 257 i later * 257 + n) (c.digit_at.ensures.value ∙ sym (later_digit c.args.from i c.args.bytes.now))
          ∙ sym (digits_more 257 i later);
      small = one_digit_more 257 i c.loop-i.digits c.digit_at.result c.loop-i.invariant.small c.digit_at.ensures.small;
    }

pub overflow_mul-digits : goal.overflow_mul-digits
overflow_mul-digits c =
    let small = five_fit (c.loop-i.i + 1) (c.loop-i.digits * 257 + 0) (omega (arith, c.loop-i-test.true)) (one_digit_more 257 c.loop-i.i c.loop-i.digits 0 c.loop-i.invariant.small (omega arith)) in
    omega (arith, small)

pub overflow_add-digits : goal.overflow_add-digits
overflow_add-digits c =
    let small = five_fit (c.loop-i.i + 1) (c.loop-i.digits * 257 + c.digit_at.result) (omega (arith, c.loop-i-test.true)) (one_digit_more 257 c.loop-i.i c.loop-i.digits c.digit_at.result c.loop-i.invariant.small c.digit_at.ensures.small) in
    omega (arith, small)

pub returns-clause-value : goal.returns-clause-value
returns-clause-value c =
    let end : c.loop-i.i ≡ 5 = omega (arith, c.loop-i-test.false, c.loop-i.auto.i-end) in
    c.loop-i.invariant.value ∙ ap (λ (n : ℕ). digits 257 n (drop c.args.from c.args.bytes.now)) end

pub returns-clause-small : goal.returns-clause-small
returns-clause-small c =
    let end : c.loop-i.i ≡ 5 = omega (arith, c.loop-i-test.false, c.loop-i.auto.i-end) in
    let P : ℕ → Type 0 = λ n. c.loop-i.digits < 257 ^ n in
    subst P end c.loop-i.invariant.small
