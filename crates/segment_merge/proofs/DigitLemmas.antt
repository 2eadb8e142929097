-- The number of binary digits, from the number of leading zeros.
use Rattle.std.proofs.Common.{◌≡◌, refl, ap, sym, ◌∙◌, ℕ, zero, suc, ◌+◌, ◌-◌, ◌*◌, ◌^◌, ◌<◌, ◌≤◌, Bool, true, false, cond, List, inl, inr, arith}
use Rattle.std.specs.Prelude.{◌⊎◌, nat_le, count_by}
use Rattle.std.specs.List.{range_with_len}
use Rattle.std.specs.Int.Count.{count_leading_zeros}
use Rattle.std.proofs.Math.Pow.{pow_mono}
use Rattle.std.proofs.lemmas.Bool.{leb-true, leb-false, cases_lt}
use Rattle.std.proofs.lemmas.List.Sums.{sum_by-cons}
use Rattle.std.proofs.lemmas.Nat.{leading_length}
use Rattle.lake_model.specs.Plan.{binary_digits}

abbrev once : Bool → ℕ
once b = cond b 1 0

pow_more : (a : ℕ) → 2 ^ suc a ≡ 2 * 2 ^ a
pow_more a = omega arith

-- the exponent of a power of two that is at most n is below the number of digits
is_below : (n m a : ℕ) → n < 2 ^ m → 2 ^ a ≤ n → a < m
is_below n m a h k = by (cases_lt a m)
  where
    by : (a < m) ⊎ (m ≤ a) → a < m
    by (inl lt) = lt
    by (inr le) = let up : 2 ^ m ≤ 2 ^ a = pow_mono le in absurd (omega arith)

is_past : (n m a : ℕ) → 2 ^ m ≤ 2 * n + 1 → n < 2 ^ a → m ≤ a
is_past n m a h k = by (cases_lt a m)
  where
    by : (a < m) ⊎ (m ≤ a) → m ≤ a
    by (inl lt) =
        let next : suc a ≤ m = omega arith in
        let up : 2 ^ suc a ≤ 2 ^ m = pow_mono next in
        absurd (omega (arith, pow_more a))
    by (inr le) = le

counted : (n m a k : ℕ) → n < 2 ^ m → 2 ^ m ≤ 2 * n + 1 → m ≤ a + k → count_by (λ power. nat_le (2 ^ power) n) (range_with_len a k) ≡ m - a
counted n m a zero h j l = omega arith
counted n m a (suc k) h j l = by (nat_le (2 ^ a) n) refl (counted n m (a + 1) k h j (omega arith))
  where
    step : count_by (λ power. nat_le (2 ^ power) n) (range_with_len a (suc k)) ≡ once (nat_le (2 ^ a) n) + count_by (λ power. nat_le (2 ^ power) n) (range_with_len (a + 1) k)
    step = sum_by-cons (λ power. cond (nat_le (2 ^ power) n) 1 0) a (range_with_len (a + 1) k)

    by : (b : Bool) → nat_le (2 ^ a) n ≡ b → count_by (λ power. nat_le (2 ^ power) n) (range_with_len (a + 1) k) ≡ m - (a + 1) → count_by (λ power. nat_le (2 ^ power) n) (range_with_len a (suc k)) ≡ m - a
    by true e rest =
        let one : once (nat_le (2 ^ a) n) ≡ once true = ap once e in
        omega (arith, step, one, rest, is_below n m a h (leb-true (2 ^ a) n e))
    by false e rest =
        let none : once (nat_le (2 ^ a) n) ≡ once false = ap once e in
        omega (arith, step, none, rest, is_past n m a j (leb-false (2 ^ a) n e))

pub digits_by_zeros : (n : ℕ) → n < 2 ^ 32 → 32 - count_leading_zeros 32 n ≡ binary_digits n
digits_by_zeros n h =
    let l = leading_length 32 n h in
    let within : l.0 ≤ 0 + 32 = omega (arith, l.1) in
    let digits : binary_digits n ≡ l.0 - 0 = counted n l.0 0 32 l.2 l.3 within in
    omega (arith, l.1, digits)
