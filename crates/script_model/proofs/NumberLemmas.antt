-- The value of a number.
use Rattle.std.proofs.Common.{◌≡◌, ℕ, ◌+◌, ◌-◌, ◌*◌, ◌<◌, ◌≤◌, [], ◌∷◌, true, arith}
use Rattle.std.specs.Prelude.{◌==◌, fold, nat_le, not}
use Rattle.std.specs.List.{list_all}
use Rattle.std.proofs.lemmas.Bool.{and_parts, eqb-false, leb-true, not-true}
use Rattle.lake_model.specs.Texts.{Text}
use Rattle.script_model.specs.Words.{digits_value, is_digit, is_number}

-- more digits do not make a number less
more_digits : (n : ℕ) (digits : Text) → n ≤ fold (λ n digit. n * 10 + (digit - 48)) n digits
more_digits n [] = omega arith
more_digits n (digit ∷ digits) = omega (arith, more_digits (n * 10 + (digit - 48)) digits)

-- decimal digits, the first of which is not 0, have a value of at least 1
pub positive : (text : Text) → is_number text ≡ true → 1 ≤ digits_value text
positive [] h = cc h
positive (digit ∷ digits) h =
    let parts = and_parts (list_all is_digit (digit ∷ digits)) (not (digit == 48)) h in
    let digit_is = (and_parts (is_digit digit) (list_all is_digit digits) parts.0).0 in
    let low : 48 ≤ digit = leb-true 48 digit (and_parts (nat_le 48 digit) (nat_le digit 57) digit_is).0 in
    let other = eqb-false digit 48 (not-true (digit == 48) parts.1) in
    let some : 48 < digit = omega (arith, low, other) in
    omega (arith, some, more_digits (0 * 10 + (digit - 48)) digits)
