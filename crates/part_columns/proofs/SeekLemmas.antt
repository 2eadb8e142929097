-- What a search for a token skips, and what is among the rest.
use Rattle.std.proofs.Common.{◌≡◌, refl, ap, sym, ◌∙◌, subst, ℕ, zero, suc, ◌+◌, ◌-◌, ◌<◌, ◌≤◌, List, [], ◌∷◌, Bool, false, ◌||◌, length, arith, take, drop, get_or, eqb as nat_eq}
use Rattle.std.specs.Prelude.{Result, Ok, Err, MatchResult, is_ok}
use Rattle.std.specs.List.Sorted.{IsBinarySearchResult, IsStrictlyIncreasing}
use Rattle.std.specs.Ordering.{nat_cmp}
use Rattle.std.proofs.lemmas.List.{get_or-take, length-take-le, take-append-drop}
use Rattle.std.proofs.lemmas.Bool.Decides.{nat_tests}
use Rattle.std.proofs.lemmas.List.Sorted.{searched}
use Rattle.lake_model.specs.Layout.{is_among}
use Rattle.list_laws.specs.Distinct.{Rises}
use Rattle.list_laws.proofs.ListLemmas.{rises_left, rises_strictly}
use Rattle.segment_core.proofs.PositionLemmas.{rise_far}
use Rattle.part_columns.proofs.ProbeLemmas.{found_among, lacks, rest_is, rises, rising_drop}

-- lesser tokens may be dropped
among_right : (n : ℕ) (xs : List ℕ) (t : ℕ) → ((k : ℕ) → k < n → k < length xs → get_or xs k 0 < t) → is_among (drop n xs) t ≡ is_among xs t
among_right zero xs t less = refl
among_right (suc n) [] t less = refl
among_right (suc n) (x ∷ xs) t less =
    among_right n xs t (λ k h l. less (suc k) (omega (arith, h)) (omega (arith, l)))
    ∙ sym (ap (λ (b : Bool). b || is_among xs t) (differ (less 0 (omega arith) (omega arith))))
  where
    differ : x < t → nat_eq t x ≡ false
    differ h = grind (arith, nat_tests)

-- and so may greater ones
among_left : (n : ℕ) (xs : List ℕ) (t : ℕ) → ((k : ℕ) → n ≤ k → k < length xs → t < get_or xs k 0) → is_among (take n xs) t ≡ is_among xs t
among_left zero xs t more = sym (lacks xs t (λ k l e. absurd (let h = more k (omega arith) l in omega (arith, h, e))))
among_left (suc n) [] t more = refl
among_left (suc n) (x ∷ xs) t more = ap (λ (b : Bool). nat_eq t x || b) (among_left n xs t (λ k h l. more (suc k) (omega (arith, h)) (omega (arith, l))))

rising_take : (n : ℕ) (xs : List ℕ) → IsStrictlyIncreasing xs → IsStrictlyIncreasing (take n xs)
rising_take n xs up = rises_strictly (take n xs) (rises_left (take n xs) (drop n xs) (subst Rises (sym (take-append-drop n xs)) (rises xs up)))

-- the rest rises
pub rest_rises : (xs : List ℕ) (j : ℕ) → IsStrictlyIncreasing xs → IsStrictlyIncreasing (take (length xs - j) (drop j xs))
rest_rises xs j up = subst IsStrictlyIncreasing (sym (rest_is j xs)) (rises_strictly (drop j xs) (rising_drop j xs (rises xs up)))

-- a greater token is among the rest if it is among all
pub among_rest : (xs : List ℕ) (x j : ℕ) → ((k : ℕ) → k < j → k < length xs → get_or xs k 0 ≤ x) → (t : ℕ) → x < t → is_among (take (length xs - j) (drop j xs)) t ≡ is_among xs t
among_rest xs x j low t above = ap (λ (ys : List ℕ). is_among ys t) (rest_is j xs) ∙ among_right j xs t (λ k h l. let le = low k h l in omega (arith, le, above))

-- what is found among the first tokens, behind which all are greater
pub sought : (xs : List ℕ) (x n : ℕ) (r : Result ℕ ℕ) → IsBinarySearchResult (λ y. nat_cmp y x) (take n xs) r → IsStrictlyIncreasing xs
    → ((k : ℕ) → n ≤ k → k < length xs → x < get_or xs k 0) → is_ok r ≡ is_among xs x
sought xs x n r is up more = found_among (take n xs) x r is (rising_take n xs up) ∙ among_left n xs x more

-- where it is found, and what is in front of where it would be
in_front : (xs : List ℕ) (x n : ℕ) (r : Result ℕ ℕ) → n ≤ length xs → IsBinarySearchResult (λ y. nat_cmp y x) (take n xs) r → IsStrictlyIncreasing xs
    → MatchResult r (λ at. (at < n) × (get_or xs at 0 ≡ x)) (λ at. (k : ℕ) → k < at → get_or xs k 0 < x)
in_front xs x n r within is up = by r (searched (take n xs) x r is (λ i j h l. rise_far (take n xs) i j (rising_take n xs up) h l))
  where
    long : length (take n xs) ≡ n
    long = length-take-le n xs within

    by : (r : Result ℕ ℕ) → MatchResult r (λ i. (i < length (take n xs)) × (get_or (take n xs) i 0 ≡ x)) (λ i. (i ≤ length (take n xs)) × ((k : ℕ) → k < i → get_or (take n xs) k 0 < x) × ((k : ℕ) → i ≤ k → k < length (take n xs) → x < get_or (take n xs) k 0))
        → MatchResult r (λ at. (at < n) × (get_or xs at 0 ≡ x)) (λ at. (k : ℕ) → k < at → get_or xs k 0 < x)
    by (Ok at) h = let low : at < n = omega (arith, h.0, long) in (low, sym (get_or-take n xs at 0 low) ∙ h.1)
    by (Err at) h = λ k l. let low : k < n = omega (arith, l, h.0, long) in omega (arith, h.1 k l, get_or-take n xs k 0 low)

-- no token up to where it is found is greater
pub skipped_to : (xs : List ℕ) (x n at : ℕ) (r : Result ℕ ℕ) → n ≤ length xs → IsBinarySearchResult (λ y. nat_cmp y x) (take n xs) r → IsStrictlyIncreasing xs → r ≡ Ok at
    → (k : ℕ) → k < at + 1 → k < length xs → get_or xs k 0 ≤ x
skipped_to xs x n at r within is up e k h l =
    let found = subst (λ (o : Result ℕ ℕ). MatchResult o (λ i. (i < n) × (get_or xs i 0 ≡ x)) (λ i. (j : ℕ) → j < i → get_or xs j 0 < x)) e (in_front xs x n r within is up) in
    omega (arith, rise_far xs k at up (omega (arith, h)) (omega (arith, found.0, within)), found.1)

-- and none in front of where it would be
pub skipped_before : (xs : List ℕ) (x n at : ℕ) (r : Result ℕ ℕ) → n ≤ length xs → IsBinarySearchResult (λ y. nat_cmp y x) (take n xs) r → IsStrictlyIncreasing xs → r ≡ Err at
    → (k : ℕ) → k < at → k < length xs → get_or xs k 0 ≤ x
skipped_before xs x n at r within is up e k h l =
    let missed = subst (λ (o : Result ℕ ℕ). MatchResult o (λ i. (i < n) × (get_or xs i 0 ≡ x)) (λ i. (j : ℕ) → j < i → get_or xs j 0 < x)) e (in_front xs x n r within is up) in
    omega (arith, missed k h)

-- ---- a walk over tokens that rise

-- the others that are left when the tokens from place i on are looked for
pub record AreLeft (others tokens left : List ℕ) (i : ℕ) : Type 0 where
  pub rising : IsStrictlyIncreasing left
  pub same : (k : ℕ) → i ≤ k → k < length tokens → is_among left (get_or tokens k 0) ≡ is_among others (get_or tokens k 0)

pub all_left : (others tokens : List ℕ) → IsStrictlyIncreasing others → AreLeft others tokens others 0
all_left others tokens up = record { rising = up; same = λ k h l. refl }

pub left_behind : (others tokens left rest : List ℕ) (i : ℕ) → IsStrictlyIncreasing tokens → AreLeft others tokens left i → IsStrictlyIncreasing rest
    → ((t : ℕ) → get_or tokens i 0 < t → is_among rest t ≡ is_among left t) → AreLeft others tokens rest (i + 1)
left_behind others tokens left rest i up are rises_on behind = record {
  rising = rises_on;
  same = λ k h l.
      behind (get_or tokens k 0) (omega (arith, up i (omega (arith, h, l)), rise_far tokens (i + 1) k up h l))
      ∙ are.same k (omega (arith, h)) l;
}
