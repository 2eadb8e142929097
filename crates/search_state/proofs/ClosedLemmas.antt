-- A column that is closed stays closed, and is not open.
use Rattle.std.proofs.Common.{◌≡◌, refl, ap, sym, ◌∙◌, ℕ, zero, suc, ◌+◌, ◌-◌, ◌<◌, ◌≤◌, List, [], ◌∷◌, ◌++◌, map, Bool, true, false, not, ◌&&◌, ◌||◌, length, arith, cond, take, get_or, Some, eqb as nat_eq, ltb as nat_lt, leb as nat_le, length-append}
use Rattle.std.specs.List.{filter, AllByRecursion, count_by, slice_get}
use Rattle.std.specs.Ordering.{is_lt}
use Rattle.std.proofs.lemmas.List.Sums.{sum_by-append}
use Rattle.std.proofs.lemmas.Bool.Decides.{nat_tests}
use Rattle.lake_model.specs.Sorting.{in_order}
use Rattle.lake_model.specs.Answer.{Row, row_cmp, Query}
use Rattle.lake_model.specs.Layout.{is_among}
use Rattle.search_model.specs.Segment.{Titled}
use Rattle.search_model.specs.Looks.{Searched, Progress, is_known, is_eligible, beats, worst, known_rows, row_with, hits}
use Rattle.lake_model.proofs.SortingLemmas.{less_order, ordered_in_order, Ordered, irreflexive}
use Rattle.lake_model.proofs.AnswerLemmas.{row_cmp_total, row_cmp_exact}
use Rattle.search_laws.specs.Select.{no_later, IsBehind}
use Rattle.search_laws.proofs.SelectLemmas.{count_in_order}
use Rattle.search_laws.proofs.PartLemmas.{row_for, candidates, known_rows_are}
use Rattle.search_state.specs.State.{seen_at, open_at, column_at}
use Rattle.search_state.proofs.FallLemmas.{bound_falls, hits_more}
use Rattle.list_laws.proofs.TestLemmas.{count-cons, once}
use Rattle.list_laws.specs.Distinct.{Rises}

abbrev less : Row → Row → Bool
less a b = is_lt (row_cmp a b)

-- if j + 1 rows come no later than x, the one at index j comes no later than x
worst_of : (j : ℕ) (x : Row) (ys : List Row) → Ordered less (less_order row_cmp_total) ys → j + 1 ≤ count_by (no_later row_cmp x) ys → (w : Row) × (slice_get ys j ≡ Some w) × (less x w ≡ false)
worst_of j x [] up h = absurd (omega arith)
worst_of zero x (y ∷ ys) up h = by (less x y) refl
  where
    none : (ws : List Row) → less x y ≡ true → AllByRecursion (λ w. less w y ≡ false) ws → count_by (no_later row_cmp x) ws ≡ 0
    none [] l a = refl
    none (w ∷ ws) l a =
        let t : less x w ≡ true = up_to (less x w) refl in
        omega (arith, count-cons (no_later row_cmp x) w ws, ap (λ b. once (not b)) t, none ws l a.1)
      where
        up_to : (b : Bool) → less x w ≡ b → less x w ≡ true
        up_to true e = e
        up_to false e = absurd (let c : less x y ≡ false = (less_order row_cmp_total).chain x w y e a.0 in let f : true ≡ false = sym l ∙ c in cc)

    by : (b : Bool) → less x y ≡ b → (w : Row) × (slice_get (y ∷ ys) 0 ≡ Some w) × (less x w ≡ false)
    by true e = absurd (omega (arith, count-cons (no_later row_cmp x) y ys, ap (λ b. once (not b)) e, none ys e up.0))
    by false e = (y, refl, e)
worst_of (suc j) x (y ∷ ys) up h =
    let rest = worst_of j x ys up.1 (let few = at_most (no_later row_cmp x y) in omega (arith, count-cons (no_later row_cmp x) y ys, few)) in
    (rest.0, rest.1, rest.2)
  where
    at_most : (b : Bool) → once b ≤ 1
    at_most true = omega arith
    at_most false = omega arith

pub behind_beaten : (query : Query) (known : List Row) (x : Row) → 0 < query.k → IsBehind row_cmp query.k known x → beats (worst query known) x ≡ false
behind_beaten query known x some h =
    let w = worst_of (query.k - 1) x (in_order row_cmp known) (ordered_in_order row_cmp_total known) (omega (arith, h, count_in_order row_cmp_total row_cmp_exact (no_later row_cmp x) known)) in
    ap (λ o. beats o x) w.1 ∙ w.2

-- more rows pass a weaker test
count_more : (p q : Row → Bool) → ((r : Row) → p r ≡ true → q r ≡ true) → (rows : List Row) → count_by p rows ≤ count_by q rows
count_more p q w [] = omega arith
count_more p q w (r ∷ rows) = by (p r) refl (count_more p q w rows)
  where
    by : (b : Bool) → p r ≡ b → count_by p rows ≤ count_by q rows → count_by p (r ∷ rows) ≤ count_by q (r ∷ rows)
    by true e h = omega (arith, count-cons p r rows, count-cons q r rows, ap once e, ap once (w r e), h)
    by false e h = omega (arith, count-cons p r rows, count-cons q r rows, ap once e, h)

not_true : (b : Bool) → not b ≡ true → b ≡ false
not_true true e = cc
not_true false e = refl

pub behind_later : (k : ℕ) (known : List Row) (x y : Row) → less y x ≡ false → IsBehind row_cmp k known x → IsBehind row_cmp k known y
behind_later k known x y l h =
    omega (arith, h, count_more (no_later row_cmp x) (no_later row_cmp y) (λ r e. ap not ((less_order row_cmp_total).chain y x r l (not_true (less x r) e))) known)

counted_filter : (f : ℕ × Titled → Row) (p q : ℕ × Titled → Bool) (t : Row → Bool) → ((c : ℕ × Titled) → p c ≡ true → q c ≡ true) → (cs : List (ℕ × Titled)) → count_by t (map f (filter p cs)) ≤ count_by t (map f (filter q cs))
counted_filter f p q t w [] = omega arith
counted_filter f p q t w (c ∷ cs) = by (p c) (q c) refl refl (counted_filter f p q t w cs)
  where
    by : (a b : Bool) → p c ≡ a → q c ≡ b → count_by t (map f (filter p cs)) ≤ count_by t (map f (filter q cs)) → count_by t (map f (cond a (c ∷ filter p cs) (filter p cs))) ≤ count_by t (map f (cond b (c ∷ filter q cs) (filter q cs)))
    by true true e g h = omega (arith, count-cons t (f c) (map f (filter p cs)), count-cons t (f c) (map f (filter q cs)), h)
    by true false e g h = absurd (let k : q c ≡ true = w c e in let n : false ≡ true = sym g ∙ k in cc)
    by false true e g h = omega (arith, count-cons t (f c) (map f (filter q cs)), h)
    by false false e g h = h

-- what is known stays known
abbrev pub Grows : Searched → Progress → Progress → Type 0
Grows part a b = (x : ℕ) → is_known part a x ≡ true → is_known part b x ≡ true

pub behind_grows : (query : Query) (before : List Row) (part : Searched) (a b : Progress) (x : Row) → Grows part a b → IsBehind row_cmp query.k (before ++ known_rows query part a) x → IsBehind row_cmp query.k (before ++ known_rows query part b) x
behind_grows query before part a b x grows h =
    let t = no_later row_cmp x in
    let ka = ap (count_by t) (known_rows_are query part a) in
    let kb = ap (count_by t) (known_rows_are query part b) in
    let more = counted_filter (row_for query) (λ c. is_known part a c.0) (λ c. is_known part b c.0) t (λ c. grows c.0) (candidates query part) in
    omega (arith, h, ka, kb, more, sum_by-append (λ r. once (t r)) before (known_rows query part a), sum_by-append (λ r. once (t r)) before (known_rows query part b))

pub grows_read : (part : Searched) (a : Progress) → Grows part a (record a { read = a.read + 1 })
grows_read part a x h = by (nat_le (length part.query) a.read) refl h
  where
    by : (b : Bool) → nat_le (length part.query) a.read ≡ b → (b || is_among a.probed x) ≡ true → (nat_le (length part.query) (a.read + 1) || is_among a.probed x) ≡ true
    by true e h = let f : nat_le (length part.query) (a.read + 1) ≡ true = grind (arith, nat_tests) in ap (λ b. b || is_among a.probed x) f
    by false e h = ap (λ b. nat_le (length part.query) (a.read + 1) || b) h ∙ or_true (nat_le (length part.query) (a.read + 1))
      where
        or_true : (b : Bool) → (b || true) ≡ true
        or_true true = refl
        or_true false = refl

pub grows_probe : (part : Searched) (a : Progress) (y : ℕ) → Grows part a (record a { probed = y ∷ a.probed })
grows_probe part a y x h = by (nat_le (length part.query) a.read) (nat_eq x y) h
  where
    by : (b t : Bool) → (b || is_among a.probed x) ≡ true → (b || (t || is_among a.probed x)) ≡ true
    by true t h = refl
    by false true h = refl
    by false false h = h

-- A column that was seen is closed if k known rows come no later than its bound.
abbrev pub IsClosed : Query → List Row → Searched → Progress → ℕ → Type 0
IsClosed query before part progress x = (0 < (seen_at part progress x).count) × IsBehind row_cmp query.k (before ++ known_rows query part progress) (seen_at part progress x).bound

and_false : (a b c : Bool) → (a && b && c && false) ≡ false
and_false true true true = refl
and_false true true false = refl
and_false true false c = refl
and_false false b c = refl

pub closed_not_open : (query : Query) (before : List Row) (part : Searched) (progress : Progress) (x : ℕ) → 0 < query.k → IsClosed query before part progress x
    → open_at query part progress (worst query (before ++ known_rows query part progress)) x ≡ false
closed_not_open query before part progress x some h =
    let e = behind_beaten query (before ++ known_rows query part progress) (seen_at part progress x).bound some h.1 in
    ap (λ b. is_eligible query part (column_at part x) && not (is_known part progress x) && nat_lt 0 (seen_at part progress x).count && b) e
    ∙ and_false (is_eligible query part (column_at part x)) (not (is_known part progress x)) (nat_lt 0 (seen_at part progress x).count)

-- a closed column stays closed when any column is probed
pub closed_at_probe : (query : Query) (before : List Row) (part : Searched) (progress : Progress) (x y : ℕ) → IsClosed query before part progress x → IsClosed query before part (record progress { probed = y ∷ progress.probed }) x
closed_at_probe query before part progress x y h = (h.0, behind_grows query before part progress (record progress { probed = y ∷ progress.probed }) (seen_at part progress x).bound (grows_probe part progress y) h.1)

lower_later : (c : Titled) (n u : ℕ) → n < u → less (row_with n c) (row_with u c) ≡ false
lower_later c n u h = grind (arith, nat_tests)

falls_later : (c : Titled) (n u : ℕ) → n ≤ u → less (row_with n c) (row_with u c) ≡ false
falls_later c n u h = elim (nat_eq n u) as (λ t. nat_eq n u ≡ t → less (row_with n c) (row_with u c) ≡ false) [
  | true ↦ λ e. let k : n ≡ u = grind (arith, nat_tests) in ap (λ (m : ℕ). less (row_with m c) (row_with u c)) k ∙ irreflexive less (less_order row_cmp_total) (row_with u c)
  | false ↦ λ e. let k : n < u = grind (arith, nat_tests) in lower_later c n u k
] refl

-- and when one more list is read
pub closed_at_read : (query : Query) (before : List Row) (part : Searched) (progress : Progress) (x : ℕ) → Rises part.query → progress.read < length part.query → IsClosed query before part progress x
    → IsClosed query before part (record progress { read = progress.read + 1 }) x
closed_at_read query before part progress x up within h =
    let next = record progress { read = progress.read + 1 } in
    let set = get_or part.segment.sets x [] in
    let falls = bound_falls set part.query progress.read up within h.0 in (
      more set part.query progress.read within h.0,
      behind_grows query before part progress next (seen_at part next x).bound (grows_read part progress)
          (behind_later query.k (before ++ known_rows query part progress) (seen_at part progress x).bound (seen_at part next x).bound
          (falls_later (column_at part x) (seen_at part next x).bound.overlap (seen_at part progress x).bound.overlap falls) h.1),
    )
  where
    more : (set qs : List ℕ) (i : ℕ) → i < length qs → 0 < length (hits set (take i qs)) → 0 < length (hits set (take (i + 1) qs))
    more set qs i h some =
        let e = ap length (hits_more set qs i 0 h) in
        let n = length-append (hits set (take i qs)) (cond (is_among set (get_or qs i 0)) (get_or qs i 0 ∷ []) []) in
        omega (arith, e, n, some)
