-- What a probe counts after the last hit and what the lists counted up to it add up to the overlap.
use Rattle.std.proofs.Common.{◌≡◌, refl, ap, sym, ◌∙◌, subst, inl, inr, ℕ, zero, suc, ◌+◌, ◌-◌, ◌<◌, ◌≤◌, List, [], ◌∷◌, ◌++◌, Bool, true, false, ◌||◌, length, arith, take, drop, get_or, length-append, eqb as nat_eq, ltb as nat_lt}
use Rattle.std.specs.Prelude.{MatchResult, Result, Ok, Err, is_ok}
use Rattle.std.specs.List.{AllByRecursion, count_by}
use Rattle.std.specs.List.Sorted.{IsBinarySearchResult, IsStrictlyIncreasing}
use Rattle.std.specs.Ordering.{nat_cmp}
use Rattle.std.proofs.lemmas.Bool.{cases_lt}
use Rattle.std.proofs.lemmas.Bool.Decides.{nat_tests}
use Rattle.std.proofs.lemmas.List.{length-drop, take-append-drop, take_all}
use Rattle.std.proofs.lemmas.List.Elements.{All-from_recursion}
use Rattle.std.proofs.lemmas.List.Sorted.{searched}
use Rattle.std.proofs.lemmas.List.Sums.{count_by-le-length, length-filter}
use Rattle.lake_model.specs.Layout.{is_among}
use Rattle.search_model.proofs.BoundLemmas.{hits_le_count, rank_front}
use Rattle.search_model.specs.Looks.{hits}
use Rattle.search_model.specs.Segment.{rank}
use Rattle.segment_core.proofs.PositionLemmas.{rise_far}
use Rattle.part_columns.specs.declared.tally.Tally.{Tally}
use Rattle.part_columns.specs.Tallies.{most_of, position_in, tally_of}
use Rattle.search_state.proofs.FallLemmas.{rank_within}
use Rattle.search_model.proofs.FilterLemmas.{after_all, all_hits, hits-append, IsHit, distinct_rising}
use Rattle.list_laws.proofs.TestLemmas.{count-cons, once}
use Rattle.list_laws.specs.Distinct.{Rises}
use Rattle.list_laws.proofs.ListLemmas.{rises_right}

-- ---- lists of distinct numbers

-- as many of the one are in the other as of the other in the one
both_ways : (xs ys : List ℕ) → Rises xs → Rises ys → count_by (is_among xs) ys ≡ count_by (is_among ys) xs
both_ways xs ys up over = omega (arith, hits_le_count ys xs (distinct_rising ys over), hits_le_count xs ys (distinct_rising xs up))

-- ---- the tokens of a set after one of its own

-- how many tokens of a set are below the first one, and below a later one
rank_first : (s l : ℕ) (set : List ℕ) → AllByRecursion (λ y. s < y) set → nat_eq l s ≡ true → rank (s ∷ set) l + 1 ≡ 1
rank_first s l set low f =
    let at : s ≡ l = grind (arith, nat_tests) in
    let itself : nat_lt s l ≡ false = grind (arith, nat_tests) in
    let none = rank_front l set (subst (λ (m : ℕ). AllByRecursion (λ y. m < y) set) at low) in
    omega (arith, count-cons (λ o. nat_lt o l) s set, ap once itself, none)

rank_later : (s l : ℕ) (set : List ℕ) → s < l → rank (s ∷ set) l + 1 ≡ suc (rank set l + 1)
rank_later s l set low =
    let below : nat_lt s l ≡ true = grind (arith, nat_tests) in
    omega (arith, count-cons (λ o. nat_lt o l) s set, ap once below)

-- what is below all of these is below each of them
pub later_above : (s l : ℕ) (set : List ℕ) → AllByRecursion (λ y. s < y) set → is_among set l ≡ true → s < l
later_above s l [] a g = absurd (let k : false ≡ true = g in cc)
later_above s l (x ∷ xs) a g = elim (nat_eq l x) as (λ b. nat_eq l x ≡ b → (b || is_among xs l) ≡ true → s < l) [
  | true ↦ λ k j. let lt = a.0 in grind (arith, nat_tests)
  | false ↦ λ k j. later_above s l xs a.1 j
] refl g

-- the tokens of the set above l are those after l
among_tail : (set : List ℕ) (l t : ℕ) → Rises set → is_among set l ≡ true → l < t → is_among set t ≡ is_among (drop (rank set l + 1) set) t
among_tail [] l t up e h = absurd (let f : false ≡ true = e in cc)
among_tail (s ∷ set) l t up e h = by (λ there. among_tail set l t up.1 there h) (nat_eq l s) refl
  where
    by : (is_among set l ≡ true → is_among set t ≡ is_among (drop (rank set l + 1) set) t) → (b : Bool) → nat_eq l s ≡ b → is_among (s ∷ set) t ≡ is_among (drop (rank (s ∷ set) l + 1) (s ∷ set)) t
    by later true f =
        let apart : nat_eq t s ≡ false = grind (arith, nat_tests) in
        ap (λ b. b || is_among set t) apart ∙ sym (ap (λ (n : ℕ). is_among (drop n (s ∷ set)) t) (rank_first s l set up.0 f))
    by later false f =
        let there : is_among set l ≡ true = ap (λ b. b || is_among set l) (sym f) ∙ e in
        let low : s < l = later_above s l set up.0 there in
        let apart : nat_eq t s ≡ false = grind (arith, nat_tests) in
        ap (λ b. b || is_among set t) apart ∙ later there ∙ sym (ap (λ (n : ℕ). is_among (drop n (s ∷ set)) t) (rank_later s l set low))

-- and l is not one of those
pub front_has : (set : List ℕ) (l : ℕ) → Rises set → is_among set l ≡ true → is_among (take (rank set l + 1) set) l ≡ true
front_has [] l up e = e
front_has (s ∷ set) l up e = by (λ there. front_has set l up.1 there) (nat_eq l s) refl
  where
    by : (is_among set l ≡ true → is_among (take (rank set l + 1) set) l ≡ true) → (b : Bool) → nat_eq l s ≡ b → is_among (take (rank (s ∷ set) l + 1) (s ∷ set)) l ≡ true
    by later true f = ap (λ (n : ℕ). is_among (take n (s ∷ set)) l) (rank_first s l set up.0 f) ∙ ap (λ b. b || false) f
    by later false f =
        let there : is_among set l ≡ true = ap (λ b. b || is_among set l) (sym f) ∙ e in
        let low : s < l = later_above s l set up.0 there in
        ap (λ (n : ℕ). is_among (take n (s ∷ set)) l) (rank_later s l set low) ∙ ap (λ b. b || is_among (take (rank set l + 1) set) l) f ∙ later there

same_counts : (p q : ℕ → Bool) (ts : List ℕ) (l : ℕ) → AllByRecursion (λ t. l < t) ts → ((t : ℕ) → l < t → p t ≡ q t) → count_by p ts ≡ count_by q ts
same_counts p q [] l h w = refl
same_counts p q (t ∷ ts) l h w = omega (arith, count-cons p t ts, count-cons q t ts, ap once (w t h.0), same_counts p q ts l h.1 w)

pub rising_drop : (n : ℕ) (xs : List ℕ) → Rises xs → Rises (drop n xs)
rising_drop n xs up = rises_right (take n xs) (drop n xs) (subst Rises (sym (take-append-drop n xs)) up)

-- the last hit is a hit
pub last_hit : (set qs : List ℕ) (i : ℕ) → 0 < length (hits set (take i qs)) → IsHit (is_among set) (take i qs) (get_or (hits set (take i qs)) (length (hits set (take i qs)) - 1) 0)
last_hit set qs i some = let found = hits set (take i qs) in All-from_recursion (IsHit (is_among set) (take i qs)) found (all_hits (is_among set) (take i qs)) (length found - 1) 0 (omega (arith, some))

-- After the last hit l, a probe finds the rest of what the set and the query share.
pub probed_overlap : (set qs : List ℕ) (i : ℕ) → Rises set → Rises qs → 0 < length (hits set (take i qs))
    → length (hits set qs) ≡ length (hits set (take i qs)) + count_by (is_among (drop i qs)) (drop (rank set (get_or (hits set (take i qs)) (length (hits set (take i qs)) - 1) 0) + 1) set)
probed_overlap set qs i over up some =
    let found = hits set (take i qs) in
    let l = get_or found (length found - 1) 0 in
    let left = drop i qs in
    let tail = drop (rank set l + 1) set in
    let hit = last_hit set qs i some in
    let parts : take i qs ++ drop i qs ≡ qs = take-append-drop i qs in
    let above : AllByRecursion (λ t. l < t) left = after_all (take i qs) left l (subst Rises (sym parts) up) hit.1 in
    let whole : length (hits set qs) ≡ length found + length (hits set left) = ap (λ xs. length (hits set xs)) (sym parts) ∙ ap length (hits-append set (take i qs) left) ∙ length-append found (hits set left) in
    let same : count_by (is_among set) left ≡ count_by (is_among tail) left = same_counts (is_among set) (is_among tail) left l above (λ t h. among_tail set l t over hit.0 h) in
    omega (arith, whole, length-filter (is_among set) left, same, both_ways tail left (rising_drop (rank set l + 1) set over) (rising_drop i qs up))

-- ---- what a binary search finds

stands : (xs : List ℕ) (x i : ℕ) → i < length xs → get_or xs i 0 ≡ x → is_among xs x ≡ true
stands [] x i h e = absurd (omega arith)
stands (y ∷ ys) x zero h e = let at : nat_eq x y ≡ true = grind (arith, nat_tests) in ap (λ b. b || is_among ys x) at
stands (y ∷ ys) x (suc i) h e = ap (λ b. nat_eq x y || b) (stands ys x i (omega arith) e) ∙ or_true (nat_eq x y)
  where
    or_true : (b : Bool) → (b || true) ≡ true
    or_true true = refl
    or_true false = refl

pub lacks : (xs : List ℕ) (x : ℕ) → ((k : ℕ) → k < length xs → get_or xs k 0 ≡ x → ⊥) → is_among xs x ≡ false
lacks [] x h = refl
lacks (y ∷ ys) x h = let apart : nat_eq x y ≡ false = differ (λ e. h 0 (omega arith) (sym e)) in ap (λ b. b || is_among ys x) apart ∙ lacks ys x (λ k l e. h (suc k) (omega arith) e)
  where
    differ : (x ≡ y → ⊥) → nat_eq x y ≡ false
    differ k = grind (arith, nat_tests)

pub found_among : (xs : List ℕ) (x : ℕ) (r : Result ℕ ℕ) → IsBinarySearchResult (λ y. nat_cmp y x) xs r → IsStrictlyIncreasing xs → is_ok r ≡ is_among xs x
found_among xs x r is up = by r (searched xs x r is (λ i j h l. rise_far xs i j up h l))
  where
    by : (r : Result ℕ ℕ) → MatchResult r (λ i. (i < length xs) × (get_or xs i 0 ≡ x)) (λ i. (i ≤ length xs) × ((k : ℕ) → k < i → get_or xs k 0 < x) × ((k : ℕ) → i ≤ k → k < length xs → x < get_or xs k 0)) → is_ok r ≡ is_among xs x
    by (Ok i) h = sym (stands xs x i h.0 h.1)
    by (Err i) h = sym (lacks xs x (λ k l e. apart k l e))
      where
        apart : (k : ℕ) → k < length xs → get_or xs k 0 ≡ x → ⊥
        apart k l e = elim (cases_lt k i) [ inl b ↦ absurd (let lt = h.1 k b in omega arith) | inr b ↦ absurd (let lt = h.2 k b l in omega arith) ]

-- ---- what a probe finds of a column with this tally

pub last_of : (set found : List ℕ) (tally : Tally) → 0 < tally.count → tally ≡ tally_of set found → (tally.count ≡ length found) × (tally.rest ≡ length set - 1 - rank set (get_or found (length found - 1) 0)) × (0 < length found)
last_of set [] tally some e = let n = ap (λ (t : Tally). t.count) e in absurd (omega (arith, n, some))
last_of set (t ∷ ts) tally some e = (ap (λ (t : Tally). t.count) e, ap (λ (t : Tally). t.rest) e, omega arith)

pub position_is : (set qs : List ℕ) (i : ℕ) (tally : Tally) → 0 < tally.count → tally ≡ tally_of set (hits set (take i qs)) → position_in set tally ≡ rank set (get_or (hits set (take i qs)) (length (hits set (take i qs)) - 1) 0)
position_is set qs i tally some e =
    let found = hits set (take i qs) in
    let is = last_of set found tally some e in
    let hit = last_hit set qs i is.2 in
    omega (arith, is.1, rank_within set (get_or found (length found - 1) 0) hit.0)

pub position_within : (set qs : List ℕ) (i : ℕ) (tally : Tally) → 0 < tally.count → tally ≡ tally_of set (hits set (take i qs)) → position_in set tally < length set
position_within set qs i tally some e =
    let found = hits set (take i qs) in
    let is = last_of set found tally some e in
    let hit = last_hit set qs i is.2 in
    omega (arith, is.1, rank_within set (get_or found (length found - 1) 0) hit.0)

pub probe_counts : (set qs : List ℕ) (i count : ℕ) (left tail : List ℕ) (tally : Tally) → Rises set → Rises qs → 0 < tally.count → tally ≡ tally_of set (hits set (take i qs))
    → left ≡ drop i qs → tail ≡ drop (position_in set tally + 1) set → count ≡ count_by (is_among left) tail → tally.count + count ≡ length (hits set qs)
probe_counts set qs i count left tail tally over up some e l t n =
    let found = hits set (take i qs) in
    let is = last_of set found tally some e in
    let last = get_or found (length found - 1) 0 in
    let counted : count ≡ count_by (is_among (drop i qs)) (drop (rank set last + 1) set) = n ∙ (λ j. count_by (is_among (l j)) (t j)) ∙ ap (λ (m : ℕ). count_by (is_among (drop i qs)) (drop (m + 1) set)) (position_is set qs i tally some e) in
    omega (arith, is.0, counted, probed_overlap set qs i over up is.2)

-- if the tally of a column counts as many tokens as its bound, the column has exactly these
pub hits_settled : (set qs : List ℕ) (i : ℕ) (tally : Tally) → Rises set → Rises qs → 0 < tally.count → tally ≡ tally_of set (hits set (take i qs)) → most_of (length qs - i) tally ≤ tally.count → tally.count ≡ length (hits set qs)
hits_settled set qs i tally over up some e low =
    let found = hits set (take i qs) in
    let is = last_of set found tally some e in
    let last = get_or found (length found - 1) 0 in
    let tail = drop (rank set last + 1) set in
    let left = drop i qs in
    let behind = probed_overlap set qs i over up is.2 in
    let by_tail = count_by-le-length (is_among left) tail in
    let by_left = count_by-le-length (is_among tail) left in
    let same = both_ways tail left (rising_drop (rank set last + 1) set over) (rising_drop i qs up) in
    omega (arith, is.0, is.1, behind, by_tail, by_left, same, length-drop (rank set last + 1) set, length-drop i qs, low)

pub rest_is : (i : ℕ) (qs : List ℕ) → take (length qs - i) (drop i qs) ≡ drop i qs
rest_is i qs = take_all (length qs - i) (drop i qs) (omega (arith, length-drop i qs))

-- ---- walked from either side

above : (x y : ℕ) (ys : List ℕ) → x < y → AllByRecursion (λ z. y < z) ys → AllByRecursion (λ z. x < z) ys
above x y [] l h = tt
above x y (z ∷ zs) l h = (omega (arith, l, h.0), above x y zs l h.1)

strict_behind : (x : ℕ) (xs : List ℕ) → IsStrictlyIncreasing (x ∷ xs) → IsStrictlyIncreasing xs
strict_behind x xs up k h = let e : suc k + 1 ≡ suc (k + 1) = omega arith in subst (λ (n : ℕ). get_or xs k 0 < get_or (x ∷ xs) n 0) e (up (suc k) (omega arith))

pub rises : (xs : List ℕ) → IsStrictlyIncreasing xs → Rises xs
rises [] up = tt
rises (x ∷ []) up = (tt, tt)
rises (x ∷ y ∷ ys) up =
    let rest = rises (y ∷ ys) (strict_behind x (y ∷ ys) up) in
    let first : x < y = up 0 (omega arith) in
    ((first, above x y ys first rest.0), rest)

-- as many of these are among the others as of the others among these
pub shared_either : (xs ys : List ℕ) → IsStrictlyIncreasing xs → IsStrictlyIncreasing ys → count_by (is_among xs) ys ≡ count_by (is_among ys) xs
shared_either xs ys up over = both_ways xs ys (rises xs up) (rises ys over)
