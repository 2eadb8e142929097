-- Numbers in decimal, as they read back.
use Rattle.std.proofs.Common.{◌≡◌, refl, ap, sym, ◌∙◌, subst, ℕ, zero, suc, ◌+◌, ◌-◌, ◌*◌, ◌/◌, ◌%◌, ◌^◌, ◌<◌, ◌≤◌, List, [], ◌∷◌, ◌++◌, Bool, true, false, decimal, length, get_or, arith}
use Rattle.std.specs.Prelude.{◌==◌, ◌&&◌, bytes_eq, if◌then◌else◌, nat_le, not, None, Some}
use Rattle.std.specs.List.{AllByRecursion, list_all}
use Rattle.std.proofs.lemmas.Bool.{false_from_ne_true, le-leb}
use Rattle.std.proofs.lemmas.Bool.Decides.{nat_tests}
use Rattle.std.proofs.lemmas.Fmt.{decimal_by_steps, decimal_digit, decimal_nonempty, first_decimal}
use Rattle.std.proofs.lemmas.List.Sums.{fold-append}
use Rattle.std.proofs.lemmas.Slice.Eq.{bytes_eq-Decides}
use Rattle.lake_model.specs.Texts.{Text}
use Rattle.script_model.specs.Words.{digits_value, is_digit, is_number, is_space, number, number_of, number_or_zero}
use Rattle.script_laws.proofs.WordFacts.{IsWord}

-- a byte of a decimal number
abbrev IsDigit : ℕ → Type 0
IsDigit byte = (48 ≤ byte) × (byte ≤ 57)

digits_push : (P : ℕ → Type 0) (xs : List ℕ) (x : ℕ) → AllByRecursion P xs → P x → AllByRecursion P (xs ++ x ∷ [])
digits_push P [] x h k = (k, tt)
digits_push P (y ∷ xs) x h k = (h.0, digits_push P xs x h.1 k)

abbrev step : ℕ → ℕ → ℕ
step n digit = n * 10 + (digit - 48)

record Reads (n : ℕ) (text : Text) : Type 0 where
  pub value : digits_value text ≡ n
  pub digits : AllByRecursion IsDigit text

reads : (n : ℕ) → n < 2 ^ 64 → Reads n (decimal n)
reads = decimal_by_steps Reads one more
  where
    one : (n : ℕ) → n < 10 → Reads n ((48 + n) ∷ [])
    one n small = record { value = omega arith; digits = ((omega arith, omega (arith, small)), tt) }

    more : (n : ℕ) (ds : List ℕ) → 10 ≤ n → Reads (n / 10) ds → Reads n (ds ++ ((48 + n % 10) ∷ []))
    more n ds large h = record {
      value = fold-append step 0 ds ((48 + n % 10) ∷ []) ∙ ap (λ (m : ℕ). m * 10 + ((48 + n % 10) - 48)) h.value ∙ omega arith;
      digits = digits_push IsDigit ds (48 + n % 10) h.digits (omega arith, omega arith);
    }

all_digits : (text : Text) → AllByRecursion IsDigit text → list_all is_digit text ≡ true
all_digits [] h = refl
all_digits (byte ∷ text) h =
    ap (λ (b : Bool). (b && nat_le byte 57) && list_all is_digit text) (le-leb 48 byte h.0.0)
    ∙ ap (λ (b : Bool). b && list_all is_digit text) (le-leb byte 57 h.0.1) ∙ all_digits text h.1

no_spaces : (text : Text) → AllByRecursion IsDigit text → AllByRecursion (λ byte. is_space byte ≡ false) text
no_spaces [] h = tt
no_spaces (byte ∷ text) h = (no_space byte h.0, no_spaces text h.1)
  where
    no_space : (byte : ℕ) → IsDigit byte → is_space byte ≡ false
    no_space byte h = grind (arith, nat_tests)

no_feeds : (text : Text) → AllByRecursion IsDigit text → AllByRecursion (λ byte. (byte == 0x0A) ≡ false) text
no_feeds [] h = tt
no_feeds (byte ∷ text) h = (no_feed byte h.0, no_feeds text h.1)
  where
    no_feed : (byte : ℕ) → IsDigit byte → (byte == 0x0A) ≡ false
    no_feed byte h = grind (arith, nat_tests)

no_zero : (text : Text) → 0 < length text → 48 < get_or text 0 0 → not (get_or text 0 48 == 48) ≡ true
no_zero [] some high = absurd (omega (arith, some))
no_zero (byte ∷ text) some high = grind (arith, nat_tests)

is_number_of : (n : ℕ) → 0 < n → n < 2 ^ 64 → is_number (decimal n) ≡ true
is_number_of n some small =
    ap (λ (b : Bool). b && not (get_or (decimal n) 0 48 == 48)) (all_digits (decimal n) (reads n small).digits)
    ∙ no_zero (decimal n) (decimal_nonempty n small) (first_decimal n some small)

-- A number reads back as itself.
pub number_back : (n : ℕ) → 0 < n → n < 2 ^ 64 → number_of (decimal n) ≡ Some n
number_back n some small =
    ap (λ (b : Bool). if b then Some (digits_value (decimal n)) else None) (is_number_of n some small) ∙ ap (λ (m : ℕ). Some m) (reads n small).value

pub number_within : (most n : ℕ) → 0 < n → n ≤ most → n < 2 ^ 64 → number most (decimal n) ≡ Some n
number_within most n some low small =
    ap (λ (b : Bool). if b && nat_le (digits_value (decimal n)) most then Some (digits_value (decimal n)) else None) (is_number_of n some small)
    ∙ ap (λ (m : ℕ). if nat_le m most then Some m else None) (reads n small).value
    ∙ ap (λ (b : Bool). if b then Some n else None) (le-leb n most low)

-- So does a number that may be 0.
pub number_or_zero_within : (most n : ℕ) → n ≤ most → n < 2 ^ 64 → number_or_zero most (decimal n) ≡ Some n
number_or_zero_within most zero low small = ap (number_or_zero most) (decimal_digit 0 (omega arith))
number_or_zero_within most (suc n) low small =
    let other : bytes_eq (decimal (suc n)) (48 ∷ []) ≡ false =
    false_from_ne_true (bytes_eq (decimal (suc n)) (48 ∷ [])) (λ same. omega (arith, first_decimal (suc n) (omega arith) small, ap (λ (t : Text). get_or t 0 0) ((bytes_eq-Decides (decimal (suc n)) (48 ∷ [])).0 same))) in
    ap (λ (b : Bool). if b then Some 0 else number most (decimal (suc n))) other ∙ number_within most (suc n) (omega arith) low small

-- Its digits are a word of a line.
pub number_word : (n : ℕ) → n < 2 ^ 64 → IsWord (decimal n)
number_word n small = (decimal_nonempty n small, no_spaces (decimal n) (reads n small).digits)

pub number_no_feed : (n : ℕ) → n < 2 ^ 64 → AllByRecursion (λ byte. (byte == 0x0A) ≡ false) (decimal n)
number_no_feed n small = no_feeds (decimal n) (reads n small).digits

pub last_of : (P : ℕ → Type 0) (text : Text) → 0 < length text → AllByRecursion P text → P (get_or text (length text - 1) 0)
last_of P [] some h = absurd (omega (arith, some))
last_of P (byte ∷ []) some h = h.0
last_of P (byte ∷ other ∷ text) some h =
    let at : length (byte ∷ other ∷ text) - 1 ≡ suc (length (other ∷ text) - 1) = omega arith in
    subst (λ (n : ℕ). P (get_or (byte ∷ other ∷ text) n 0)) (sym at) (last_of P (other ∷ text) (omega arith) h.1)

pub number_no_return : (n : ℕ) → n < 2 ^ 64 → (get_or (decimal n) (length (decimal n) - 1) 0 == 0x0D) ≡ false
number_no_return n small = no_return (last_of IsDigit (decimal n) (decimal_nonempty n small) (reads n small).digits)
  where
    no_return : {byte : ℕ} → IsDigit byte → (byte == 0x0D) ≡ false
    no_return h = grind (arith, nat_tests)
