-- The top of the candidates is the first of the open columns.
use Rattle.std.proofs.Common.{◌⊎◌, inl, inr, ◌≡◌, refl, ap, sym, ◌∙◌, subst, ℕ, zero, suc, ◌+◌, ◌-◌, ◌<◌, ◌≤◌, List, [], ◌∷◌, ◌++◌, map, Bool, true, false, length, arith, cond, get_or, Option, eqb as nat_eq, leb as nat_le}
use Rattle.std.specs.List.{filter, AllByRecursion, enumerate_from}
use Rattle.std.specs.Cmp.{IsTotalOrder}
use Rattle.std.specs.Ordering.{is_lt}
use Rattle.std.specs.declared.cmp.Ordering.{Ordering}
use Rattle.std.proofs.lemmas.Cmp.{on_total}
use Rattle.std.proofs.lemmas.Bool.Decides.{nat_tests}
use Rattle.lake_model.specs.Sorting.{in_order, put_in_order}
use Rattle.lake_model.specs.Answer.{Row, row_cmp, Query}
use Rattle.search_model.specs.Segment.{Titled}
use Rattle.search_model.specs.Looks.{Searched, Progress, Seen, seen, is_open, open_columns, row_with}
use Rattle.lake_model.proofs.SortingLemmas.{all_in_order}
use Rattle.lake_model.proofs.SortingLemmas.{stays}
use Rattle.lake_model.proofs.AnswerLemmas.{row_cmp_total}
use Rattle.search_model.specs.Ranks.{AreRanks}
use Rattle.search_state.specs.State.{Candidate, Covers, AreCovered, IsTop, seen_at, open_at, column_at}
use Rattle.search_model.specs.Arrays.{no_titled}
use Rattle.std.proofs.lemmas.List.{get_or_default}

-- ---- the first of a list in order

module _ {X : Type 0} {R : X → X → Ordering} (total : IsTotalOrder R) where
  abbrev less : X → X → Bool
  less x y = is_lt (R x y)

  abbrev Begins : X → List X → Type 0
  Begins x ys = (rest : List X) × (ys ≡ x ∷ rest)

  -- an element that comes before all those listed before it, and no later than all those listed after it, is the first
  -- in order
  pub first_in_order : (before after : List X) (x : X) → AllByRecursion (λ y. less x y ≡ true) before → AllByRecursion (λ y. less y x ≡ false) after → Begins x (in_order R (before ++ x ∷ after))
  unfolding in_order put_in_order
  first_in_order [] after x h g = (in_order R after, stays total x (in_order R after) (all_in_order total (λ y. less y x ≡ false) after g))
  first_in_order (b ∷ before) after x h g =
      let ih = first_in_order before after x h.1 g in
      (put_in_order R b ih.0, ap (put_in_order R b) ih.1 ∙ ap (λ t. cond t (x ∷ put_in_order R b ih.0) (b ∷ x ∷ ih.0)) h.0)

-- ---- a column among the numbered ones

abbrev Numbered : Type 0
Numbered = ℕ × Titled

module _ (keep : Numbered → Bool) (make : Numbered → Seen) (x : ℕ) where
  abbrev made : List Numbered → List Seen
  made cs = map make (filter keep cs)

  abbrev IsFound : Seen → List Seen → (Seen → Type 0) → (Seen → Type 0) → Type 0
  IsFound s ss Before After = (before : List Seen) × (after : List Seen) × (ss ≡ before ++ s ∷ after) × AllByRecursion Before before × AllByRecursion After after

  all_made : (P : Seen → Type 0) (n : ℕ) (cs : List Titled) → ((y : ℕ) (c : Titled) → n ≤ y → y < n + length cs → c ≡ get_or cs (y - n) c → keep (y, c) ≡ true → P (make (y, c))) → AllByRecursion P (made (enumerate_from n cs))
  all_made P n [] h = tt
  all_made P n (c ∷ cs) h = by (keep (n, c)) refl (all_made P (n + 1) cs (λ y d a b e k. h y d (omega arith) (omega arith) (let z : y - n ≡ suc (y - (n + 1)) = omega arith in e ∙ ap (λ (i : ℕ). get_or (c ∷ cs) i d) (sym z)) k))
    where
      by : (b : Bool) → keep (n, c) ≡ b → AllByRecursion P (made (enumerate_from (n + 1) cs)) → AllByRecursion P (map make (cond b ((n, c) ∷ filter keep (enumerate_from (n + 1) cs)) (filter keep (enumerate_from (n + 1) cs))))
      by true e r = (h n c (omega arith) (omega arith) (let z : n - n ≡ 0 = omega arith in ap (λ (i : ℕ). get_or (c ∷ cs) i c) (sym z)) e, r)
      by false e r = r

  abbrev Each : (Seen → Type 0) → (Seen → Type 0) → ℕ → List Titled → Type 0
  Each Before After n cs = (y : ℕ) (c : Titled) → n ≤ y → y < n + length cs → c ≡ get_or cs (y - n) c → keep (y, c) ≡ true → (y < x → Before (make (y, c))) × (x < y → After (make (y, c)))

  each_later : (Before After : Seen → Type 0) (n : ℕ) (c : Titled) (cs : List Titled) → Each Before After n (c ∷ cs) → Each Before After (n + 1) cs
  each_later Before After n c cs h y d l m f g = h y d (omega arith) (omega arith) (let z : y - n ≡ suc (y - (n + 1)) = omega arith in f ∙ ap (λ (i : ℕ). get_or (c ∷ cs) i d) (sym z)) g

  in_front : (Before After : Seen → Type 0) (n : ℕ) (c : Titled) (cs : List Titled) (s : Seen) → Each Before After n (c ∷ cs) → n < x → (t : Bool) → keep (n, c) ≡ t → IsFound s (made (enumerate_from (n + 1) cs)) Before After
      → IsFound s (map make (cond t ((n, c) ∷ filter keep (enumerate_from (n + 1) cs)) (filter keep (enumerate_from (n + 1) cs)))) Before After
  in_front Before After n c cs s h l true f r = (make (n, c) ∷ r.0, r.1, ap (λ ss. make (n, c) ∷ ss) r.2, ((h n c (omega arith) (omega arith) (let z : n - n ≡ 0 = omega arith in ap (λ (i : ℕ). get_or (c ∷ cs) i c) (sym z)) f).0 l, r.3), r.4)
  in_front Before After n c cs s h l false f r = r

  is_here : (Before After : Seen → Type 0) (n : ℕ) (c : Titled) (cs : List Titled) (at : Titled) → Each Before After n (c ∷ cs) → at ≡ get_or (c ∷ cs) (x - n) at → keep (x, at) ≡ true → n ≡ x → IsFound (make (x, at)) (made (enumerate_from n (c ∷ cs))) Before After
  is_here Before After n c cs at h e k f =
      let z : x - n ≡ 0 = omega arith in
      let same : at ≡ c = e ∙ ap (λ (i : ℕ). get_or (c ∷ cs) i at) z in
      let kept : keep (n, c) ≡ true = (λ i. keep (f i, sym same i)) ∙ k in
      let rest = all_made After (n + 1) cs (λ y d l m g q. (each_later Before After n c cs h y d l m g q).1 (omega arith)) in
      ([], made (enumerate_from (n + 1) cs), ap (λ b. map make (cond b ((n, c) ∷ filter keep (enumerate_from (n + 1) cs)) (filter keep (enumerate_from (n + 1) cs)))) kept ∙ (λ i. make (f i, sym same i) ∷ made (enumerate_from (n + 1) cs)), tt, rest)

  split_at : (Before After : Seen → Type 0) (n : ℕ) (cs : List Titled) (at : Titled) → n ≤ x → x < n + length cs → at ≡ get_or cs (x - n) at → keep (x, at) ≡ true → Each Before After n cs
      → IsFound (make (x, at)) (made (enumerate_from n cs)) Before After
  split_at Before After n [] at a b e k h = absurd (omega arith)
  split_at Before After n (c ∷ cs) at a b e k h = elim (nat_eq n x) as (λ t. nat_eq n x ≡ t → IsFound (make (x, at)) (made (enumerate_from n (c ∷ cs))) Before After) [
    | true ↦ λ f. is_here Before After n c cs at h e k (let g : n ≡ x = grind (arith, nat_tests) in g)
    | false ↦ λ f.
        let l : n < x = grind (arith, nat_tests) in
        let rest = split_at Before After (n + 1) cs at (omega arith) (omega arith) (let z : x - n ≡ suc (x - (n + 1)) = omega arith in e ∙ ap (λ (i : ℕ). get_or (c ∷ cs) i at) z) k (each_later Before After n c cs h) in
        in_front Before After n c cs (make (x, at)) h l (keep (n, c)) refl rest
  ] refl

-- ---- the first of the open columns, by the rows of their bounds

module _ (query : Query) (part : Searched) (progress : Progress) (last : Option Row) (x : ℕ) (within : x < length part.segment.columns) (open_x : open_at query part progress last x ≡ true)
    (before_it : (y : ℕ) → y < length part.segment.columns → open_at query part progress last y ≡ true → y < x → is_lt (row_cmp (seen_at part progress x).bound (seen_at part progress y).bound) ≡ true)
    (behind_it : (y : ℕ) → y < length part.segment.columns → open_at query part progress last y ≡ true → x < y → is_lt (row_cmp (seen_at part progress y).bound (seen_at part progress x).bound) ≡ false) where
  abbrev IsBefore : Seen → Type 0
  IsBefore s = is_lt (row_cmp (seen_at part progress x).bound s.bound) ≡ true

  abbrev IsBehindIt : Seen → Type 0
  IsBehindIt s = is_lt (row_cmp s.bound (seen_at part progress x).bound) ≡ false

  each_open : Each (λ c. is_open query part progress last c.0 c.1) (λ c. seen part progress c.0 c.1) x IsBefore IsBehindIt 0 part.segment.columns
  each_open y c l m e k =
      let z : y - 0 ≡ y = omega arith in
      let h : y < length part.segment.columns = omega arith in
      let at : c ≡ column_at part y = e ∙ ap (λ (i : ℕ). get_or part.segment.columns i c) z ∙ get_or_default part.segment.columns y c no_titled h in
      let o : open_at query part progress last y ≡ true = ap (λ (d : Titled). is_open query part progress last y d) (sym at) ∙ k in (
        λ lt. ap (λ (d : Titled). is_lt (row_cmp (seen_at part progress x).bound (seen part progress y d).bound)) at ∙ before_it y h o lt,
        λ lt. ap (λ (d : Titled). is_lt (row_cmp (seen part progress y d).bound (seen_at part progress x).bound)) at ∙ behind_it y h o lt,
      )

  -- An open column is the first if the row of its bound comes before those of the open columns before it, and no later
  -- than those of the columns after it.
  pub first_by_rows : (rest : List Seen) × (open_columns query part progress last ≡ seen_at part progress x ∷ rest)
  first_by_rows =
      let z : x - 0 ≡ x = omega arith in
      let at : column_at part x ≡ get_or part.segment.columns (x - 0) (column_at part x) = get_or_default part.segment.columns x no_titled (column_at part x) within ∙ ap (λ (i : ℕ). get_or part.segment.columns i (column_at part x)) (sym z) in
      let found = split_at (λ c. is_open query part progress last c.0 c.1) (λ c. seen part progress c.0 c.1) x IsBefore IsBehindIt 0 part.segment.columns (column_at part x) (omega arith) (omega (arith, within)) at open_x each_open in
      let total = on_total (λ (s : Seen). s.bound) row_cmp_total in
      let first = first_in_order total found.0 found.1 (seen_at part progress x) found.3 found.4 in
      (first.0, ap (in_order (λ a b. row_cmp a.bound b.bound)) found.2 ∙ first.1)

-- ---- the key lemma

module _ (query : Query) (part : Searched) (progress : Progress) (last : Option Row) (ranks : List ℕ) (are : AreRanks part.segment.columns ranks) where
  abbrev columns : List Titled
  columns = part.segment.columns

  abbrev made_by : Numbered → Seen
  made_by c = seen part progress c.0 c.1

  abbrev opened : Numbered → Bool
  opened c = is_open query part progress last c.0 c.1

  abbrev bound_at : ℕ → ℕ
  bound_at x = (seen_at part progress x).bound.overlap

  -- no open column has a greater bound than x, or an equal bound and a lower rank
  abbrev IsBest : ℕ → Type 0
  IsBest x = (y : ℕ) → y < length columns → open_at query part progress last y ≡ true → (bound_at y ≤ bound_at x) × (bound_at y ≡ bound_at x → get_or ranks x 0 ≤ get_or ranks y 0)

  lower_later : (c d : Titled) (n u : ℕ) → n < u → is_lt (row_cmp (row_with n c) (row_with u d)) ≡ false
  lower_later c d n u h = grind (arith, nat_tests)

  greater_sooner : (c d : Titled) (n u : ℕ) → n < u → is_lt (row_cmp (row_with u d) (row_with n c)) ≡ true
  greater_sooner c d n u h = grind (arith, nat_tests)

  default : (i : ℕ) (d e : Titled) (cs : List Titled) → i < length cs → get_or cs i d ≡ get_or cs i e
  default i d e [] h = absurd (omega arith)
  default zero d e (c ∷ cs) h = refl
  default (suc i) d e (c ∷ cs) h = default i d e cs (omega arith)

  by_bounds : {G : Type 0} (n u : ℕ) → n ≤ u → (n < u → G) → (n ≡ u → G) → G
  by_bounds {G} n u h f g = elim (nat_eq n u) as (λ t. nat_eq n u ≡ t → G) [
    | true ↦ λ e. g (let k : n ≡ u = grind (arith, nat_tests) in k)
    | false ↦ λ e. f (let k : n < u = grind (arith, nat_tests) in k)
  ] refl

  module _ (x : ℕ) (within : x < length columns) (open_x : open_at query part progress last x ≡ true) (best : IsBest x) where
    bound_x : Row
    bound_x = (seen_at part progress x).bound

    rank_below : (y : ℕ) → y < length columns → (y ≡ x → ⊥) → get_or ranks x 0 ≤ get_or ranks y 0 → get_or ranks x 0 < get_or ranks y 0
    rank_below y h differ le = by_bounds (get_or ranks x 0) (get_or ranks y 0) le (λ l. l) (λ e. absurd (differ (are.apart y x h within (sym e))))

    row_at_bound : (y : ℕ) → ℕ → Row
    row_at_bound y u = row_with u (column_at part y)

    before_it : (y : ℕ) → y < length columns → open_at query part progress last y ≡ true → y < x → is_lt (row_cmp (seen_at part progress x).bound (seen_at part progress y).bound) ≡ true
    before_it y h o l =
        let b = best y h o in
        by_bounds (bound_at y) (bound_at x) b.0
        (λ lt. greater_sooner (column_at part y) (column_at part x) (bound_at y) (bound_at x) lt)
        (λ e. ap (λ (u : ℕ). is_lt (row_cmp (row_with (bound_at x) (column_at part x)) (row_with u (column_at part y)))) e ∙ are.level x y (bound_at x) within h (rank_below y h (λ k. omega arith) (b.1 e)) l)

    behind_it : (y : ℕ) → y < length columns → open_at query part progress last y ≡ true → x < y → is_lt (row_cmp (seen_at part progress y).bound (seen_at part progress x).bound) ≡ false
    behind_it y h o l =
        let b = best y h o in
        by_bounds (bound_at y) (bound_at x) b.0
        (λ lt. lower_later (column_at part y) (column_at part x) (bound_at y) (bound_at x) lt)
        (λ e. ap (λ (u : ℕ). is_lt (row_cmp (row_with u (column_at part y)) (row_with (bound_at x) (column_at part x)))) e ∙ are.order x y (bound_at x) within h (rank_below y h (λ k. omega arith) (b.1 e)))

    abbrev Before : Seen → Type 0
    Before s = is_lt (row_cmp (seen_at part progress x).bound s.bound) ≡ true

    abbrev After : Seen → Type 0
    After s = is_lt (row_cmp s.bound (seen_at part progress x).bound) ≡ false

    each : Each opened made_by x Before After 0 columns
    each y c l m e k =
        let z : y - 0 ≡ y = omega arith in
        let h : y < length columns = omega arith in
        let at : c ≡ column_at part y = e ∙ ap (λ (i : ℕ). get_or columns i c) z ∙ default y c no_titled columns h in
        let o : open_at query part progress last y ≡ true = ap (λ (d : Titled). is_open query part progress last y d) (sym at) ∙ k in (
          λ lt. ap (λ (d : Titled). is_lt (row_cmp (seen_at part progress x).bound (seen part progress y d).bound)) at ∙ before_it y h o lt,
          λ lt. ap (λ (d : Titled). is_lt (row_cmp (seen part progress y d).bound (seen_at part progress x).bound)) at ∙ behind_it y h o lt,
        )

    -- The best column is the first of the open ones.
    pub best_first : (rest : List Seen) × (open_columns query part progress last ≡ seen_at part progress x ∷ rest)
    best_first =
        let z : x - 0 ≡ x = omega arith in
        let at : column_at part x ≡ get_or columns (x - 0) (column_at part x) = default x no_titled (column_at part x) columns within ∙ ap (λ (i : ℕ). get_or columns i (column_at part x)) (sym z) in
        let found = split_at opened made_by x Before After 0 columns (column_at part x) (omega arith) (omega (arith, within)) at open_x each in
        let total = on_total (λ (s : Seen). s.bound) row_cmp_total in
        let first = first_in_order total found.0 found.1 (seen_at part progress x) found.3 found.4 in
        (first.0, ap (in_order (λ a b. row_cmp a.bound b.bound)) found.2 ∙ first.1)

  -- what a covering says of the top
  pub covered_by_top : (top : Candidate) (candidates : List Candidate) (x u : ℕ) → IsTop ranks top candidates → Covers candidates x u → (u ≤ top.most) × (u ≡ top.most → get_or ranks top.column 0 ≤ get_or ranks x 0)
  covered_by_top top [] x u h c = absurd c
  covered_by_top top (d ∷ candidates) x u h c = by c (covered_by_top top candidates x u h.1)
    where
      by : ((d.column ≡ x) × (u ≤ d.most)) ⊎ Covers candidates x u → (Covers candidates x u → (u ≤ top.most) × (u ≡ top.most → get_or ranks top.column 0 ≤ get_or ranks x 0)) → (u ≤ top.most) × (u ≡ top.most → get_or ranks top.column 0 ≤ get_or ranks x 0)
      by (inl k) r = (let a = h.0.0 in let b = k.1 in omega arith, λ e. subst (λ (y : ℕ). get_or ranks top.column 0 ≤ get_or ranks y 0) k.0 (h.0.1 (let a = h.0.0 in let b = k.1 in omega arith)))
      by (inr k) r = r k

  -- The top of the candidates is the first of the open columns if it is open, and its number is its bound and at least
  -- the floor.
  pub top_first : (floor : ℕ) (top : Candidate) (candidates : List Candidate) → AreCovered query part progress last floor candidates → IsTop ranks top candidates
      → top.column < length columns → open_at query part progress last top.column ≡ true → top.most ≡ bound_at top.column → floor ≤ top.most
      → (rest : List Seen) × (open_columns query part progress last ≡ seen_at part progress top.column ∷ rest)
  top_first floor top candidates covered is within open_x exact high =
      best_first top.column within open_x (λ y h o. by y h o (nat_le floor (bound_at y)) refl)
    where
      by : (y : ℕ) → y < length columns → open_at query part progress last y ≡ true → (t : Bool) → nat_le floor (bound_at y) ≡ t
          → (bound_at y ≤ bound_at top.column) × (bound_at y ≡ bound_at top.column → get_or ranks top.column 0 ≤ get_or ranks y 0)
      by y h o true t =
          let l : floor ≤ bound_at y = grind (arith, nat_tests) in
          let c = covered_by_top top candidates y (bound_at y) is (covered y h o l) in
          (let a = c.0 in omega (arith, exact), λ e. c.1 (e ∙ sym exact))
      by y h o false t = let l : bound_at y < floor = grind (arith, nat_tests) in (omega (arith, exact), λ e. absurd (omega (arith, exact)))
