-- If as many positions are filled as answers are accepted, each of these answers is at one of the positions.
use Rattle.std.proofs.Common.{◌≡◌, refl, ap, ℕ, zero, suc, ◌+◌, ◌<◌, ◌≤◌, List, [], ◌∷◌, get_or, Bool, true, false, Some, arith}
use Rattle.std.specs.Prelude.{◌==◌, nat_le}
use Rattle.std.proofs.lemmas.Bool.Decides.{nat_tests}
use Rattle.record_model.specs.Answered.{Nowhere, Saw, Added, PlannedAndSaw, PlannedAndAdded}
use Rattle.trace_laws.specs.Hints.{Hint, Wanting, Stands}
use Rattle.trace_laws.specs.Rebuilt.{Hinted, is_at}
use Rattle.trace_laws.specs.Verdict.{puts_one, counted}
use Rattle.trace_laws.specs.Passing.{is_filled}
use Rattle.trace_laws.proofs.TotalLemmas.{none_above, once, total, total_both, total_same, total_zero}
use Rattle.trace_numbers.specs.Positions.{own_of}
use Rattle.trace_numbers.proofs.ApartLemmas.{own_at, told}
use Rattle.trace_laws.proofs.DecidingLemmas.{filled_at, one_position, shift, count_at, some_count}

-- ---- how often a hint is at positions 1 to n + 1

abbrev inside : ℕ → Hint → ℕ
inside n hint = total (λ l. once 1 (is_at (suc l) hint)) n

abbrev all_inside : ℕ → List Hinted → ℕ
all_inside n [] = 0
all_inside n (h ∷ hinted) = inside n h.hint + all_inside n hinted

none_low : (n : ℕ) → total (λ l. once 1 (0 == suc l)) n ≡ 0
none_low n = total_zero (λ l. once 1 (0 == suc l)) n (λ l. let e : (0 == suc l) ≡ false = grind (arith, nat_tests) in ap (once 1) e)

inside_few : (n : ℕ) (hint : Hint) → inside n hint ≤ puts_one hint
inside_few n Wanting = let e = total_zero (λ l. 0) n (λ l. refl) in omega (arith, e)
inside_few n (Stands Nowhere) = let e = total_zero (λ l. 0) n (λ l. refl) in omega (arith, e)
inside_few n (Stands (Saw at)) = let e = total_zero (λ l. 0) n (λ l. refl) in omega (arith, e)
inside_few n (Stands (Added at)) = one_position at n
inside_few n (Stands (PlannedAndSaw pinned at)) = let e = total_zero (λ l. 0) n (λ l. refl) in omega (arith, e)
inside_few n (Stands (PlannedAndAdded pinned at)) = one_position at n

all_few : (n : ℕ) (hinted : List Hinted) → all_inside n hinted ≤ counted hinted
all_few n [] = omega arith
all_few n (h ∷ hinted) = omega (arith, inside_few n h.hint, all_few n hinted)

-- a position that is counted is one of them
inside_within : (at n : ℕ) → 1 ≤ total (λ l. once 1 (at == suc l)) n → (0 < at) × (at ≤ suc n)
inside_within zero n some = let none = none_low n in absurd (omega (arith, none, some))
inside_within (suc k) n some =
    let same = total_same (λ l. once 1 (suc k == suc l)) (λ l. once 1 (k == l)) n (λ l. ap (once 1) (shift k l)) in
    by (nat_le k n) refl same
  where
    by : (b : Bool) → nat_le k n ≡ b → total (λ l. once 1 (suc k == suc l)) n ≡ total (λ l. once 1 (k == l)) n → (0 < suc k) × (suc k ≤ suc n)
    by true e same = let low : k ≤ n = grind (arith, nat_tests, e) in (omega arith, omega (arith, low))
    by false e same = absurd (omega (arith, same, some, none_above k 1 n (grind (arith, nat_tests, e))))

one_put : (hint : Hint) (at : ℕ) → own_of hint ≡ Some at → puts_one hint ≡ 1
one_put Wanting at e = cc
one_put (Stands Nowhere) at e = cc
one_put (Stands (Saw p)) at e = cc
one_put (Stands (Added p)) at e = refl
one_put (Stands (PlannedAndSaw q p)) at e = cc
one_put (Stands (PlannedAndAdded q p)) at e = refl

own_within : (n at : ℕ) (hint : Hint) → own_of hint ≡ Some at → puts_one hint ≤ inside n hint → (0 < at) × (at ≤ suc n)
own_within n at hint own le =
    let same : inside n hint ≡ total (λ l. once 1 (at == suc l)) n = total_same (λ l. once 1 (is_at (suc l) hint)) (λ l. once 1 (at == suc l)) n (λ l. ap (once 1) (own_at hint at (suc l) own)) in
    inside_within at n (omega (arith, same, le, one_put hint at own))

-- if no fewer are counted than are accepted, each is at one of the positions
all_within : (n : ℕ) (hinted : List Hinted) (i at : ℕ) → counted hinted ≤ all_inside n hinted → own_of (get_or (told hinted) i Wanting) ≡ Some at → (0 < at) × (at ≤ suc n)
all_within n [] i at many own = cc
all_within n (h ∷ hinted) zero at many own = own_within n at h.hint own (omega (arith, many, all_few n hinted))
all_within n (h ∷ hinted) (suc i) at many own = all_within n hinted i at (omega (arith, many, inside_few n h.hint)) own

-- ---- filled positions

times_inside : (n : ℕ) (hinted : List Hinted) → total (λ l. count_at (suc l) hinted) n ≡ all_inside n hinted
times_inside n [] = total_zero (λ l. 0) n (λ l. refl)
times_inside n (h ∷ hinted) =
    let parts = total_both (λ l. count_at (suc l) (h ∷ hinted)) (λ l. once 1 (is_at (suc l) h.hint)) (λ l. count_at (suc l) hinted) n (λ l. refl) in
    omega (arith, parts, times_inside n hinted)

many_times : (hinted : List Hinted) (size n : ℕ) → is_filled hinted size ≡ true → n < size → suc n ≤ total (λ l. count_at (suc l) hinted) n
many_times hinted size zero filled low = some_count 1 hinted (filled_at hinted size 0 filled low)
many_times hinted size (suc n) filled low =
    let before = many_times hinted size n filled (omega (arith, low)) in
    let here = some_count (suc (suc n)) hinted (filled_at hinted size (suc n) filled low) in
    omega (arith, before, here)

-- an accepted answer counts
one_counts : (hinted : List Hinted) (i at : ℕ) → own_of (get_or (told hinted) i Wanting) ≡ Some at → counted hinted ≡ 0 → ⊥
one_counts [] i at own none = cc
one_counts (h ∷ hinted) zero at own none = let sum : puts_one h.hint + counted hinted ≡ 0 = none in let one = one_put h.hint at own in omega (arith, sum, one)
one_counts (h ∷ hinted) (suc i) at own none = let sum : puts_one h.hint + counted hinted ≡ 0 = none in one_counts hinted i at own (omega (arith, sum))

-- ---- each accepted answer is at a position

pub filled_within : (hinted : List Hinted) (i at : ℕ) → is_filled hinted (counted hinted) ≡ true → own_of (get_or (told hinted) i Wanting) ≡ Some at → (0 < at) × (at ≤ counted hinted)
filled_within hinted i at filled own = by (counted hinted) refl
  where
    by : (size : ℕ) → counted hinted ≡ size → (0 < at) × (at ≤ size)
    by zero e = absurd (one_counts hinted i at own e)
    by (suc n) e =
        let many = many_times hinted (counted hinted) n filled (omega (arith, e)) in
        all_within n hinted i at (omega (arith, e, many, times_inside n hinted)) own
