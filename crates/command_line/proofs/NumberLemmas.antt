-- Clap reads a number in decimal digits as that number.
use Rattle.std.proofs.Common.{◌≡◌, ◌≤◌, ◌<◌, ◌+◌, ◌-◌, ◌*◌, ◌^◌, refl, ap, ap₂, sym, ◌∙◌, subst, ℕ, [], ◌∷◌, Bool, true, false, ◌&&◌, cond, Some, None, arith, drop, length}
use Rattle.std.specs.Prelude.{◌==◌, bytes_eq, fold, nat_le, nat_lt, option_and_then}
use Rattle.std.specs.List.{list_all}
use Rattle.std.specs.Char.{digit_value}
use Rattle.std.specs.Str.Parse.{digits_value as parsed_value, digits_value_after, without_leading_plus}
use Rattle.std.proofs.lemmas.Bool.{and_parts, le-leb, leb-true, lt-ltb, ne_eqb, not-true}
use Rattle.std.proofs.lemmas.Slice.Eq.{bytes_eq-Decides}
use Rattle.std.proofs.lemmas.Str.{digit_value_digit}
use Rattle.clap.specs.Lexer.{short_of, short_of_rest, without_minus}
use Rattle.clap.specs.ValueTests.{accepts, is_numeral}
use Rattle.lake_model.specs.Texts.{Text}
use Rattle.option_model.specs.Plain.{is_path}
use Rattle.script_model.specs.Words.{digits_value, is_digit, is_number, number, number_or_zero}
use Rattle.command_line.specs.Words.{between, number_read}
use Rattle.script_model.proofs.NumberLemmas.{positive}

-- the word is no flag, and it is not empty
abbrev pub IsValue : Text → Type 0
IsValue [] = ⊥
IsValue (byte ∷ bytes) = (byte == 45) ≡ false

-- clap takes the text for a number in the range, which is n
pub record IsRead (least most : ℕ) (text : Text) (n : ℕ) : Type 0 where
  pub word : IsValue text
  pub accepted : accepts false (between least most) text ≡ true
  pub read : number_read (without_minus text) ≡ Some n

-- such a word is no short flag
pub not_short : (byte : ℕ) (bytes : Text) → IsValue (byte ∷ bytes) → short_of (byte ∷ bytes) ≡ None
not_short byte bytes value = ap (λ (b : Bool). option_and_then short_of_rest (cond b (Some bytes) None)) value

-- a path is such a word
pub path_is_value : (text : Text) → is_path text ≡ true → IsValue text
path_is_value [] e = cc e
path_is_value (byte ∷ bytes) e = not-true (byte == 45) e

digit_is : (byte : ℕ) → is_digit byte ≡ true → (48 ≤ byte) × (byte ≤ 57)
digit_is byte e =
    let parts = and_parts (nat_le 48 byte) (nat_le byte 57) e in
    (leb-true 48 byte parts.0, leb-true byte 57 parts.1)

value_is : (byte : ℕ) → is_digit byte ≡ true → digit_value byte ≡ byte - 48
value_is byte e =
    let bounds = digit_is byte e in
    omega (arith, digit_value_digit byte (digit_is byte e))

same_value : (n : ℕ) (digits : Text) → list_all is_digit digits ≡ true → digits_value_after 10 n digits ≡ fold (λ n digit. n * 10 + (digit - 48)) n digits
same_value n [] all = refl
same_value n (digit ∷ digits) all =
    let parts = and_parts (is_digit digit) (list_all is_digit digits) all in
    ap (λ (ones : ℕ). digits_value_after 10 (n * 10 + ones) digits) (value_is digit parts.0) ∙ same_value (n * 10 + (digit - 48)) digits parts.1

all_numerals : (digits : Text) → list_all is_digit digits ≡ true → list_all (λ d. nat_lt (digit_value d) 10) digits ≡ true
all_numerals [] all = refl
all_numerals (digit ∷ digits) all =
    let parts = and_parts (is_digit digit) (list_all is_digit digits) all in
    let bounds = digit_is digit parts.0 in
    let small : nat_lt (digit_value digit) 10 ≡ true = lt-ltb (digit_value digit) 10 (omega (arith, bounds, value_is digit parts.0)) in
    ap₂ (λ (a b : Bool). a && b) small (all_numerals digits parts.1)

-- without a sign before it
read_plainly : (digit : ℕ) (digits : Text) → is_digit digit ≡ true → (without_minus (digit ∷ digits) ≡ digit ∷ digits) × (without_leading_plus (digit ∷ digits) ≡ digit ∷ digits)
read_plainly digit digits e =
    let bounds = digit_is digit e in
    let minus : (digit == 45) ≡ false = ne_eqb digit 45 (λ same. omega (arith, bounds, same)) in
    let plus : (digit == 43) ≡ false = ne_eqb digit 43 (λ same. omega (arith, bounds, same)) in
    (rw minus refl, ap (λ (b : Bool). drop (cond b 1 0) (digit ∷ digits)) plus)

number_at : (least most : ℕ) (digit : ℕ) (digits : Text) → least ≤ 1 → most < 2 ^ 32 → is_number (digit ∷ digits) ≡ true → digits_value (digit ∷ digits) ≤ most
    → IsRead least most (digit ∷ digits) (digits_value (digit ∷ digits))
number_at least most digit digits low high is fits =
    let text = digit ∷ digits in
    let all = (and_parts (list_all is_digit text) _ is).0 in
    let first = (and_parts (is_digit digit) (list_all is_digit digits) all).0 in
    let bounds = digit_is digit first in
    let minus : (digit == 45) ≡ false = ne_eqb digit 45 (λ same. omega (arith, bounds, same)) in
    let plus : (digit == 43) ≡ false = ne_eqb digit 43 (λ same. omega (arith, bounds, same)) in
    let value : parsed_value 10 text ≡ digits_value text = same_value 0 text all in
    let numeral : is_numeral text ≡ true = ap₂ (λ (a b : Bool). a && b) (lt-ltb 0 (length text) (omega arith)) (all_numerals text all) in
    let small : nat_lt (parsed_value 10 text) (2 ^ 32) ≡ true = lt-ltb _ _ (omega (arith, value, fits, high)) in
    let fits_64 : nat_lt (parsed_value 10 text) (2 ^ 63) ≡ true = lt-ltb _ _ (omega (arith, value, fits, high)) in
    let at_least : nat_le least (parsed_value 10 text) ≡ true = le-leb _ _ (omega (arith, value, low, positive text is)) in
    let at_most : nat_le (parsed_value 10 text) most ≡ true = le-leb _ _ (omega (arith, value, fits)) in
    let plainly = read_plainly digit digits first in
    record {
      word = minus;
      accepted = rw (minus, plus, numeral, fits_64, at_least, at_most) refl;
      read = rw (plainly.0, plainly.1, numeral, small) (ap (λ (v : ℕ). Some v) value);
    }

-- a number in decimal digits of which the first is not 0
pub number_is_read : (least most : ℕ) (text : Text) (n : ℕ) → least ≤ 1 → most < 2 ^ 32 → number most text ≡ Some n → IsRead least most text n
number_is_read least most [] n low high e = cc e
number_is_read least most (digit ∷ digits) n low high e = by (is_number (digit ∷ digits)) refl (nat_le (digits_value (digit ∷ digits)) most) refl e
  where
    by : (is : Bool) → is_number (digit ∷ digits) ≡ is → (fits : Bool) → nat_le (digits_value (digit ∷ digits)) most ≡ fits
        → cond (is && fits) (Some (digits_value (digit ∷ digits))) None ≡ Some n → IsRead least most (digit ∷ digits) n
    by true is true fits e =
        let value : digits_value (digit ∷ digits) ≡ n = cc e in
        subst (IsRead least most (digit ∷ digits)) value (number_at least most digit digits low high is (leb-true _ _ fits))
    by true is false fits e = cc e
    by false is fits _ e = cc e

-- the same, or the single digit 0
pub number_or_zero_is_read : (most : ℕ) (text : Text) (n : ℕ) → most < 2 ^ 32 → number_or_zero most text ≡ Some n → IsRead 0 most text n
number_or_zero_is_read most text n high e = by (bytes_eq text (48 ∷ [])) refl e
  where
    by : (zero : Bool) → bytes_eq text (48 ∷ []) ≡ zero → cond zero (Some 0) (number most text) ≡ Some n → IsRead 0 most text n
    by true is e =
        let value : 0 ≡ n = cc e in
        subst (IsRead 0 most text) value (subst (λ (t : Text). IsRead 0 most t 0) (sym ((bytes_eq-Decides text (48 ∷ [])).0 is)) (record { word = refl; accepted = le-leb 0 most (omega arith); read = refl }))
    by false is e = number_is_read 0 most text n (omega arith) high e

-- ---- bounds

pub number_bounds : (most : ℕ) (text : Text) (n : ℕ) → number most text ≡ Some n → (1 ≤ n) × (n ≤ most)
number_bounds most text n e = by (is_number text) refl (nat_le (digits_value text) most) refl e
  where
    by : (is : Bool) → is_number text ≡ is → (fits : Bool) → nat_le (digits_value text) most ≡ fits → cond (is && fits) (Some (digits_value text)) None ≡ Some n → (1 ≤ n) × (n ≤ most)
    by true is true fits e =
        let value : digits_value text ≡ n = cc e in
        let high : digits_value text ≤ most = leb-true _ _ fits in
        (omega (arith, value, positive text is), omega (arith, value, high))
    by true is false fits e = cc e
    by false is fits _ e = cc e

pub number_or_zero_bounds : (most : ℕ) (text : Text) (n : ℕ) → number_or_zero most text ≡ Some n → n ≤ most
number_or_zero_bounds most text n e = by (bytes_eq text (48 ∷ [])) e
  where
    by : (zero : Bool) → cond zero (Some 0) (number most text) ≡ Some n → n ≤ most
    by true e =
        let value : 0 ≡ n = cc e in
        omega (arith, value)
    by false e = (number_bounds most text n e).1
