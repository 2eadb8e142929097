-- The columns seen that may hold enough, sorted, are all columns that may, by rising number.
use Rattle.std.proofs.Common.{◌≡◌, refl, ap, sym, ◌∙◌, subst, ℕ, suc, ◌+◌, ◌-◌, ◌<◌, ◌≤◌, List, [], ◌∷◌, Bool, true, false, ◌&&◌, ◌||◌, length, map, take, get_or, arith, cond, eqb as nat_eq, ltb as nat_lt, leb as nat_le}
use Rattle.std.specs.List.{AllByRecursion, count_by, enumerate_from, filter}
use Rattle.std.specs.List.Sorted.{IsPermutation, IsSorted}
use Rattle.std.specs.Ordering.{is_lt, nat_cmp}
use Rattle.std.proofs.lemmas.Bool.Decides.{nat_tests}
use Rattle.std.proofs.lemmas.Cmp.{nat_cmp_total}
use Rattle.std.proofs.lemmas.List.{get_or_default}
use Rattle.std.proofs.lemmas.List.Sorted.{list_any-IsPermutation, sum_by-IsPermutation}
use Rattle.std.proofs.lemmas.Map.Lookups.{exact_unsigned}
use Rattle.std.proofs.lemmas.Bool.{and_parts, eq-eqb}
use Rattle.list_laws.proofs.ListLemmas.{all_weaker, rises_same}
use Rattle.list_laws.specs.Distinct.{Rises}
use Rattle.lake_model.proofs.SortingLemmas.{less_order, Ordered, ordered_in_order, sorted_is}
use Rattle.lake_model.specs.Layout.{is_among}
use Rattle.contain_search.specs.Met.{may_columns, may_still}
use Rattle.part_columns.proofs.ProbeLemmas.{position_is}
use Rattle.part_columns.proofs.TallyLemmas.{bound_same, counted_in, tally_count}
use Rattle.part_columns.proofs.TouchedLemmas.{listed_once, listed_seen, touched_listed}
use Rattle.part_columns.specs.Columns.{IsListed}
use Rattle.part_columns.specs.declared.tally.Tally.{Tally}
use Rattle.part_columns.specs.Tallies.{AreTallies, most_of, position_in, tally_at}
use Rattle.search_model.specs.Arrays.{no_titled, titled_at}
use Rattle.search_model.specs.Contain.{is_unmarked, lists_needed, may_hold, seen_behind}
use Rattle.search_model.specs.Looks.{hits, Searched}
use Rattle.search_model.specs.Segment.{Titled}
use Rattle.list_laws.proofs.TestLemmas.{count-cons, once, same_tests}

-- ---- sorted lists of distinct numbers

abbrev less : ℕ → ℕ → Bool
less a b = is_lt (nat_cmp a b)

behind : (x : ℕ) (ys : List ℕ) → AllByRecursion (λ y. less y x ≡ false) ys → (0 < count_by (nat_eq x) ys → ⊥) → AllByRecursion (λ y. x < y) ys
behind x [] h none = tt
behind x (y ∷ ys) h none = (by (nat_eq x y) refl, behind x ys h.1 (λ some. none (omega (arith, some, count-cons (nat_eq x) y ys))))
  where
    by : (b : Bool) → nat_eq x y ≡ b → x < y
    by true e = absurd (none (omega (arith, count-cons (nat_eq x) y ys, ap once e)))
    by false e = let l = h.0 in grind (arith, nat_tests)

rises_ordered : (xs : List ℕ) → Ordered less (less_order nat_cmp_total) xs → ((x : ℕ) → count_by (nat_eq x) xs ≤ 1) → Rises xs
rises_ordered [] h few = tt
rises_ordered (x ∷ xs) h few = (
  behind x xs h.0 (λ some. absurd (let f = few x in omega (arith, f, some, count-cons (nat_eq x) x xs, ap once (eq-eqb x x refl)))),
  rises_ordered xs h.1 (λ y. let f = few y in omega (arith, f, count-cons (nat_eq y) x xs)),
)

rises_sorted : (xs : List ℕ) → IsSorted nat_cmp xs → ((x : ℕ) → count_by (nat_eq x) xs ≤ 1) → Rises xs
rises_sorted xs up few = rises_ordered xs (subst (λ (ys : List ℕ). Ordered less (less_order nat_cmp_total) ys) (sym (sorted_is nat_cmp_total exact_unsigned xs up)) (ordered_in_order nat_cmp_total xs)) few

-- ---- some of a list

fewer : (w : ℕ → Bool) (x : ℕ) (ys : List ℕ) → count_by (nat_eq x) (filter w ys) ≤ count_by (nat_eq x) ys
fewer w x [] = omega arith
fewer w x (y ∷ ys) = by (w y) (fewer w x ys)
  where
    by : (b : Bool) → count_by (nat_eq x) (filter w ys) ≤ count_by (nat_eq x) ys → count_by (nat_eq x) (cond b (y ∷ filter w ys) (filter w ys)) ≤ count_by (nat_eq x) (y ∷ ys)
    by true later = omega (arith, later, count-cons (nat_eq x) y ys, count-cons (nat_eq x) y (filter w ys))
    by false later = omega (arith, later, count-cons (nat_eq x) y ys)

among_some : (w : ℕ → Bool) (x : ℕ) (ys : List ℕ) → is_among (filter w ys) x ≡ (w x && is_among ys x)
among_some w x [] = sym (none (w x))
  where
    none : (b : Bool) → (b && false) ≡ false
    none true = refl
    none false = refl
among_some w x (y ∷ ys) = by (nat_eq x y) (w y) refl refl (among_some w x ys)
  where
    both : (b : Bool) → (b && true) ≡ b
    both true = refl
    both false = refl

    by : (a b : Bool) → nat_eq x y ≡ a → w y ≡ b → is_among (filter w ys) x ≡ (w x && is_among ys x) → is_among (cond b (y ∷ filter w ys) (filter w ys)) x ≡ (w x && (nat_eq x y || is_among ys x))
    by true true e f later =
        let at : x ≡ y = grind (arith, nat_tests) in
        let here : w x ≡ true = ap w at ∙ f in
        ap (λ b. b || is_among (filter w ys) x) e ∙ sym ((λ i. here i && (e i || is_among ys x)))
    by true false e f later =
        let at : x ≡ y = grind (arith, nat_tests) in
        let here : w x ≡ false = ap w at ∙ f in
        later ∙ (λ i. here i && is_among ys x) ∙ sym (λ i. here i && (nat_eq x y || is_among ys x))
    by false true e f later = ap (λ b. b || is_among (filter w ys) x) e ∙ later ∙ sym (ap (λ b. w x && (b || is_among ys x)) e)
    by false false e f later = later ∙ sym (ap (λ b. w x && (b || is_among ys x)) e)

-- ---- the numbers of the columns that pass a test

module _ (p : ℕ × Titled → Bool) where
  abbrev numbers : ℕ → List Titled → List ℕ
  numbers n cs = map (λ c. c.0) (filter p (enumerate_from n cs))

  numbers_rise : (n : ℕ) (cs : List Titled) → AllByRecursion (λ m. n ≤ m) (numbers n cs) × Rises (numbers n cs)
  numbers_rise n [] = (tt, tt)
  numbers_rise n (c ∷ cs) = by (p (n, c)) (numbers_rise (n + 1) cs)
    where
      by : (b : Bool) → AllByRecursion (λ m. n + 1 ≤ m) (numbers (n + 1) cs) × Rises (numbers (n + 1) cs)
          → AllByRecursion (λ m. n ≤ m) (map (λ (c : ℕ × Titled). c.0) (cond b ((n, c) ∷ filter p (enumerate_from (n + 1) cs)) (filter p (enumerate_from (n + 1) cs))))
          × Rises (map (λ (c : ℕ × Titled). c.0) (cond b ((n, c) ∷ filter p (enumerate_from (n + 1) cs)) (filter p (enumerate_from (n + 1) cs))))
      by true h = ((omega arith, all_weaker (λ m. n + 1 ≤ m) (λ m. n ≤ m) _ (λ m l. omega arith) h.0), (all_weaker (λ m. n + 1 ≤ m) (λ m. n < m) _ (λ m l. omega arith) h.0, h.1))
      by false h = (all_weaker (λ m. n + 1 ≤ m) (λ m. n ≤ m) _ (λ m l. omega arith) h.0, h.1)

  abbrev Passes : ℕ → List Titled → ℕ → Type 0
  Passes n cs x = (n ≤ x) × (x < n + length cs) × ((d : Titled) → p (x, get_or cs (x - n) d) ≡ true)

  later_passes : (n : ℕ) (c : Titled) (cs : List Titled) (x : ℕ) → Passes (n + 1) cs x → Passes n (c ∷ cs) x
  later_passes n c cs x h = (let l = h.0 in omega arith, let l = h.1 in omega arith, λ d. (let l = h.0 in let z : x - n ≡ suc (x - (n + 1)) = omega arith in ap (λ (i : ℕ). p (x, get_or (c ∷ cs) i d)) z ∙ h.2 d))

  numbers_have : (n : ℕ) (cs : List Titled) (x : ℕ) → is_among (numbers n cs) x ≡ true → Passes n cs x
  numbers_have n [] x e = absurd (let f : false ≡ true = e in cc)
  numbers_have n (c ∷ cs) x e = by (p (n, c)) refl (λ k. later_passes n c cs x (numbers_have (n + 1) cs x k)) e
    where
      by : (b : Bool) → p (n, c) ≡ b → (is_among (numbers (n + 1) cs) x ≡ true → Passes n (c ∷ cs) x)
          → is_among (map (λ (c : ℕ × Titled). c.0) (cond b ((n, c) ∷ filter p (enumerate_from (n + 1) cs)) (filter p (enumerate_from (n + 1) cs)))) x ≡ true → Passes n (c ∷ cs) x
      by false f later k = later k
      by true f later k = here (nat_eq x n) refl k
        where
          here : (b : Bool) → nat_eq x n ≡ b → (b || is_among (numbers (n + 1) cs) x) ≡ true → Passes n (c ∷ cs) x
          here false g k = later k
          here true g k =
              let at : x ≡ n = grind (arith, nat_tests) in
              let z : x - n ≡ 0 = omega arith in
              (omega arith, omega arith, λ d. ap (λ (i : ℕ). p (x, get_or (c ∷ cs) i d)) z ∙ ap (λ (m : ℕ). p (m, c)) at ∙ f)

  passes_there : (n : ℕ) (cs : List Titled) (x : ℕ) → Passes n cs x → is_among (numbers n cs) x ≡ true
  passes_there n [] x h = absurd (let a = h.0 in let b = h.1 in omega arith)
  passes_there n (c ∷ cs) x h = elim (nat_eq x n) as (λ (b : Bool). nat_eq x n ≡ b → is_among (numbers n (c ∷ cs)) x ≡ true) [
    | true ↦ λ g.
        let at : x ≡ n = grind (arith, nat_tests) in
        let z : x - n ≡ 0 = omega arith in
        let f : p (n, c) ≡ true = ap (λ (m : ℕ). p (m, c)) (sym at) ∙ ap (λ (i : ℕ). p (x, get_or (c ∷ cs) i c)) (sym z) ∙ h.2 c in
        ap (λ b. is_among (map (λ (c : ℕ × Titled). c.0) (cond b ((n, c) ∷ filter p (enumerate_from (n + 1) cs)) (filter p (enumerate_from (n + 1) cs)))) x) f
        ∙ ap (λ b. b || is_among (numbers (n + 1) cs) x) g
    | false ↦ λ g.
        let low : n + 1 ≤ x = (let l = h.0 in grind (arith, nat_tests)) in
        let later = passes_there (n + 1) cs x (low, let b = h.1 in omega arith, λ d. (let z : x - n ≡ suc (x - (n + 1)) = omega arith in ap (λ (i : ℕ). p (x, get_or (c ∷ cs) i d)) (sym z) ∙ h.2 d)) in
        by (p (n, c)) later
  ] refl
    where
      or_true : (b : Bool) → (b || true) ≡ true
      or_true true = refl
      or_true false = refl

      by : (b : Bool) → is_among (numbers (n + 1) cs) x ≡ true → is_among (map (λ (c : ℕ × Titled). c.0) (cond b ((n, c) ∷ filter p (enumerate_from (n + 1) cs)) (filter p (enumerate_from (n + 1) cs)))) x ≡ true
      by true later = ap (λ b. nat_eq x n || b) later ∙ or_true (nat_eq x n)
      by false later = later

-- ---- a part after its reads

three_parts : (a b c : Bool) → (a && b && c) ≡ true → (a ≡ true) × (b ≡ true) × (c ≡ true)
three_parts true true c e = (refl, refl, e)
three_parts true false c e = cc
three_parts false b c e = cc

module _ (least : ℕ) (part : Searched) (long : length part.segment.sets ≡ length part.segment.columns) (tallies : List Tally) (are : AreTallies part.segment.sets (take (lists_needed least part) part.query) tallies) where
  abbrev left : ℕ
  left = length part.query - lists_needed least part

  abbrev found_at : ℕ → List ℕ
  found_at x = hits (get_or part.segment.sets x []) (take (lists_needed least part) part.query)

  -- what the tally of a column says is what was seen of it
  pub count_is : (x : ℕ) (c : Titled) → (tally_at tallies x).count ≡ (seen_behind least part x c).count
  count_is x c = ap (λ (t : Tally). t.count) (are x) ∙ tally_count (get_or part.segment.sets x []) (found_at x)

  pub bound_is : (x : ℕ) (c : Titled) → 0 < (tally_at tallies x).count → most_of left (tally_at tallies x) ≡ (seen_behind least part x c).bound.overlap
  bound_is x c some = ap (most_of left) (are x) ∙ bound_same (get_or part.segment.sets x []) (found_at x) left (omega (arith, some, count_is x c))

  pub seen_position : (x : ℕ) (c : Titled) → 0 < (tally_at tallies x).count → position_in (get_or part.segment.sets x []) (tally_at tallies x) ≡ (seen_behind least part x c).position
  seen_position x c some = position_is (get_or part.segment.sets x []) part.query (lists_needed least part) (tally_at tallies x) some (are x)

  abbrev still : ℕ → Bool
  still x = may_still least part tallies left x

  may_is : (x : ℕ) → 0 < (tally_at tallies x).count → may_hold least part x (titled_at part.segment.columns x) ≡ still x
  may_is x some =
      let c = titled_at part.segment.columns x in
      let seen_it : nat_lt 0 (seen_behind least part x c).count ≡ true = (let n = count_is x c in grind (arith, nat_tests)) in
      by (is_unmarked part c) (nat_lt 0 (seen_behind least part x c).count) (nat_le least (seen_behind least part x c).bound.overlap) (nat_le least (most_of left (tally_at tallies x))) seen_it (ap (nat_le least) (sym (bound_is x c some)))
    where
      by : (a b d e : Bool) → b ≡ true → d ≡ e → (a && b && d) ≡ (e && a)
      by true b d true f g = (λ i. f i && g i)
      by true b d false f g = (λ i. f i && g i)
      by false b d true f g = refl
      by false b d false f g = refl

  pub may_seen : (x : ℕ) (c : Titled) → may_hold least part x c ≡ true → 0 < (tally_at tallies x).count
  may_seen x c e =
      let some = (three_parts (is_unmarked part c) (nat_lt 0 (seen_behind least part x c).count) (nat_le least (seen_behind least part x c).bound.overlap) e).1 in
      let l : 0 < (seen_behind least part x c).count = grind (arith, nat_tests) in
      omega (arith, l, count_is x c)

  abbrev passes : ℕ × Titled → Bool
  passes c = may_hold least part c.0 c.1

  -- each of the columns that may hold enough was seen, and is one of the part's
  pub may_columns_seen : (x : ℕ) → is_among (may_columns least part) x ≡ true → (x < length part.segment.sets) × (0 < (tally_at tallies x).count)
  may_columns_seen x e =
      let h = numbers_have passes 0 part.segment.columns x e in
      let high = h.1 in
      (omega (arith, high, long), may_seen x (titled_at part.segment.columns (x - 0)) (h.2 no_titled))

  -- the columns seen that may hold enough, sorted
  pub sorted_found : (touched found sorted : List ℕ) → IsListed tallies touched → found ≡ filter still touched → IsPermutation found sorted → IsSorted nat_cmp sorted → sorted ≡ may_columns least part
  sorted_found touched found sorted listed is moved up =
      rises_same sorted (may_columns least part) (rises_sorted sorted up few) (numbers_rise passes 0 part.segment.columns).1 (λ x. same_tests (is_among sorted x) (is_among (may_columns least part) x) (into x) (out x))
    where
      few : (x : ℕ) → count_by (nat_eq x) sorted ≤ 1
      few x = omega (arith, sum_by-IsPermutation (λ y. once (nat_eq x y)) found sorted moved, ap (count_by (nat_eq x)) is, fewer still x touched, listed_once tallies touched listed x)

      among_is : (x : ℕ) → is_among sorted x ≡ (still x && is_among touched x)
      among_is x = sym (list_any-IsPermutation (nat_eq x) found sorted moved) ∙ ap (λ (ys : List ℕ). is_among ys x) is ∙ among_some still x touched

      z : (x : ℕ) → x - 0 ≡ x
      z x = omega arith

      into : (x : ℕ) → is_among sorted x ≡ true → is_among (may_columns least part) x ≡ true
      into x e =
          let both = and_parts (still x) (is_among touched x) (sym (among_is x) ∙ e) in
          let some = listed_seen tallies touched x listed both.1 in
          let within = counted_in part.segment.sets (take (lists_needed least part) part.query) tallies are x some in
          passes_there passes 0 part.segment.columns x (
            omega arith,
            omega (arith, within, long),
            λ d. ap (λ (i : ℕ). may_hold least part x (get_or part.segment.columns i d)) (z x)
                ∙ ap (may_hold least part x) (get_or_default part.segment.columns x d no_titled (omega (arith, within, long)))
                ∙ may_is x some ∙ both.0,
          )

      out : (x : ℕ) → is_among (may_columns least part) x ≡ true → is_among sorted x ≡ true
      out x e =
          let h = numbers_have passes 0 part.segment.columns x e in
          let holds : may_hold least part x (titled_at part.segment.columns x) ≡ true = ap (λ (i : ℕ). may_hold least part x (get_or part.segment.columns i no_titled)) (sym (z x)) ∙ h.2 no_titled in
          let some = may_seen x (titled_at part.segment.columns x) holds in
          among_is x ∙ (λ i. (sym (may_is x some) ∙ holds) i && touched_listed tallies touched x listed some i)
