-- The columns that are held: one more, one fewer, and the first of all.
use Rattle.std.proofs.Common.{◌≡◌, refl, ap, sym, ◌∙◌, subst, inl, inr, ℕ, zero, suc, ◌+◌, ◌<◌, ◌≤◌, List, [], ◌∷◌, map, Bool, true, false, not, ◌&&◌, ◌||◌, length, drop, get_or, set, arith, cond, Option, Some, None, eqb as nat_eq, ltb as nat_lt, leb as nat_le}
use Rattle.std.specs.List.{AllByRecursion, filter, fold}
use Rattle.std.specs.List.Sorted.{IsPermutation}
use Rattle.std.proofs.Math.Seq.{drop-cons}
use Rattle.std.proofs.lemmas.Bool.{cases_eq, or_right, ne_eqb}
use Rattle.std.proofs.lemmas.Bool.Decides.{nat_tests}
use Rattle.std.proofs.lemmas.List.{get_or-set_other, get_or-set_same}
use Rattle.std.proofs.lemmas.List.Sorted.{list_any-IsPermutation, sum_by_popped, sum_by_pushed}
use Rattle.lake_model.specs.Answer.{Query}
use Rattle.lake_model.specs.Layout.{is_among}
use Rattle.search_model.specs.Looks.{is_eligible, Searched}
use Rattle.search_model.specs.declared.Posting.{Posting}
use Rattle.search_state.specs.State.{column_at}
use Rattle.josie_search.specs.declared.candidates.Candidate.{Candidate}
use Rattle.part_columns.specs.declared.tally.Tally.{Tally}
use Rattle.josie_search.specs.Candidates.{AreApart, AreHeld, AreHeldBut, candidate, candidate_of, covers, goes_in, is_over, IsAhead, IsOfRank, most_now, NoneExact, weight}
use Rattle.josie_search.specs.Rows.{leads}
use Rattle.part_columns.specs.Tallies.{most_of, counted, of_column, raised, tally_at}
use Rattle.josie_search.proofs.LoopLemmas.{lead_parts}

-- ---- one candidate

-- a column's own candidate is over it, and its number is its bound
own_over : (left rank : ℕ) (tally : Tally) → is_over left tally rank (candidate_of left tally rank) ≡ true
own_over left rank tally = by (nat_le left tally.rest)
  where
    by : (b : Bool) → is_over left tally rank (cond b (candidate true tally.count rank) (candidate false (most_of left tally) rank)) ≡ true
    by true = grind (arith, nat_tests)
    by false = grind (arith, nat_tests)

pub own_most : (left rank : ℕ) (tally : Tally) → most_now left (candidate_of left tally rank) ≡ most_of left tally
own_most left rank tally = by (nat_le left tally.rest) refl
  where
    by : (b : Bool) → nat_le left tally.rest ≡ b → most_now left (cond b (candidate true tally.count rank) (candidate false (most_of left tally) rank)) ≡ most_of left tally
    by true e = let l : left ≤ tally.rest = grind (arith, nat_tests) in omega (arith, l)
    by false e = refl

over_rank : (left rank : ℕ) (tally : Tally) (c : Candidate) → is_over left tally rank c ≡ true → c.rank ≡ rank
over_rank left rank tally c e = grind (arith, nat_tests)

over_most : (left rank : ℕ) (tally : Tally) (c : Candidate) → is_over left tally rank c ≡ true → most_of left tally ≤ most_now left c
over_most left rank tally c e = by c.by_count e
  where
    by : (b : Bool) → (nat_eq c.rank rank && nat_le (cond b tally.count (most_of left tally)) c.number) ≡ true → most_of left tally ≤ cond b (c.number + left) c.number
    by true e = let l : tally.count ≤ c.number = grind (arith, nat_tests) in omega (arith, l)
    by false e = grind (arith, nat_tests)

-- fewer lists left
over_later : (left less rank : ℕ) (tally : Tally) (c : Candidate) → less ≤ left → is_over left tally rank c ≡ true → is_over less tally rank c ≡ true
over_later left less rank tally c h e = by c.by_count e
  where
    lower : most_of less tally ≤ most_of left tally
    lower = omega (arith, h)

    by : (b : Bool) → (nat_eq c.rank rank && nat_le (cond b tally.count (most_of left tally)) c.number) ≡ true → (nat_eq c.rank rank && nat_le (cond b tally.count (most_of less tally)) c.number) ≡ true
    by true e = e
    by false e = let l = lower in grind (arith, nat_tests)

-- ---- lists of candidates

covers_later : (left less rank : ℕ) (tally : Tally) (all : List Candidate) → less ≤ left → covers left tally rank all ≡ true → covers less tally rank all ≡ true
covers_later left less rank tally [] h e = e
covers_later left less rank tally (c ∷ cs) h e = by (is_over left tally rank c) refl e (covers_later left less rank tally cs h)
  where
    by : (b : Bool) → is_over left tally rank c ≡ b → (b || covers left tally rank cs) ≡ true → (covers left tally rank cs ≡ true → covers less tally rank cs ≡ true) → (is_over less tally rank c || covers less tally rank cs) ≡ true
    by true f e r = ap (λ b. b || covers less tally rank cs) (over_later left less rank tally c h f)
    by false f e r = or_right (is_over less tally rank c) (covers less tally rank cs) (r e)

-- a column of this tally and rank does not come before the top
abbrev pub IsBelow : ℕ → ℕ → Tally → Candidate → Type 0
IsBelow left rank tally t = (most_of left tally ≤ most_now left t) × (most_of left tally ≡ most_now left t → t.rank ≤ rank)

-- the top is over all that is covered
pub covered_below : (left rank : ℕ) (tally : Tally) (t : Candidate) (all : List Candidate) → AllByRecursion (IsAhead left t) all → covers left tally rank all ≡ true → IsBelow left rank tally t
covered_below left rank tally t [] h e = absurd (let f : false ≡ true = e in cc)
covered_below left rank tally t (c ∷ cs) h e = by (is_over left tally rank c) refl e (covered_below left rank tally t cs h.1)
  where
    by : (b : Bool) → is_over left tally rank c ≡ b → (b || covers left tally rank cs) ≡ true → (covers left tally rank cs ≡ true → IsBelow left rank tally t) → IsBelow left rank tally t
    by true f e r =
        let m = over_most left rank tally c f in
        let k = over_rank left rank tally c f in
        let l = h.0.0 in (
          omega (arith, m, l),
          λ same. (let same_c : most_now left c ≡ most_now left t = omega (arith, m, l, same) in let q = h.0.1 same_c in omega (arith, q, k)),
        )
    by false f e r = r e

pub covers_pushed : (left rank : ℕ) (tally : Tally) (c : Candidate) (all news : List Candidate) → IsPermutation (c ∷ all) news → covers left tally rank all ≡ true → covers left tally rank news ≡ true
covers_pushed left rank tally c all news p e = sym (list_any-IsPermutation (is_over left tally rank) (c ∷ all) news p) ∙ or_right (is_over left tally rank c) (covers left tally rank all) e

pub covers_own : (left rank : ℕ) (tally : Tally) (all news : List Candidate) → IsPermutation (candidate_of left tally rank ∷ all) news → covers left tally rank news ≡ true
covers_own left rank tally all news p = sym (list_any-IsPermutation (is_over left tally rank) (candidate_of left tally rank ∷ all) news p) ∙ ap (λ b. b || covers left tally rank all) (own_over left rank tally)

covers_popped : (left rank : ℕ) (tally : Tally) (t : Candidate) (all rest : List Candidate) → IsPermutation all (t ∷ rest) → (t.rank ≡ rank → ⊥) → covers left tally rank all ≡ true → covers left tally rank rest ≡ true
covers_popped left rank tally t all rest p apart e = by (is_over left tally rank t) refl (sym (list_any-IsPermutation (is_over left tally rank) all (t ∷ rest) p) ∙ e)
  where
    by : (b : Bool) → is_over left tally rank t ≡ b → (b || covers left tally rank rest) ≡ true → covers left tally rank rest ≡ true
    by true f e = absurd (apart (over_rank left rank tally t f))
    by false f e = e

-- ---- the columns that are held

module _ (query : Query) (part : Searched) (ranks : List ℕ) (tallies : List Tally) (known : List Bool) (left : ℕ) where
  abbrev Held : List ℕ → ℕ → List Candidate → Type 0
  Held rest low all = AreHeldBut rest query part ranks tallies known left low all

  -- no column has a bound of `low` or more
  pub held_none : (low : ℕ) (rest : List ℕ) (all : List Candidate) → ((x : ℕ) → most_of left (tally_at tallies x) < low) → Held rest low all
  held_none low rest all few x out lead high = absurd (let f = few x in omega (arith, f, high))

  -- no column outside `rest` was seen
  pub held_unseen : (low : ℕ) (rest : List ℕ) (all : List Candidate) → ((x : ℕ) → is_among rest x ≡ false → (tally_at tallies x).count ≡ 0) → Held rest low all
  held_unseen low rest all none x out lead high = absurd (let s = (lead_parts query part tallies known x lead).2 in let z = none x out in omega (arith, s, z))

  -- held for greater bounds only
  pub held_from : (low more : ℕ) (rest : List ℕ) (all : List Candidate) → low ≤ more → Held rest low all → Held rest more all
  held_from low more rest all up h x out lead high = h x out lead (omega (arith, up, high))

  -- one more column
  pub held_entered : (low now x : ℕ) (before rest : List ℕ) (all news : List Candidate) → before ≡ x ∷ rest → now ≡ low → Held before low all
      → (goes_in (get_or known x false) now left (tally_at tallies x) ≡ true → IsPermutation (candidate_of left (tally_at tallies x) (get_or ranks x 0) ∷ all) news)
      → (goes_in (get_or known x false) now left (tally_at tallies x) ≡ false → news ≡ all) → Held rest low news
  held_entered low now x before rest all news front same h goes stays y out lead high = elim (cases_eq y x) [
    | inl e ↦ subst (λ (z : ℕ). covers left (tally_at tallies z) (get_or ranks z 0) news ≡ true) (sym e)
        (covers_own left (get_or ranks x 0) (tally_at tallies x) all news (goes (does (subst (λ (z : ℕ). get_or known z false ≡ false) e (lead_parts query part tallies known y lead).1) (subst (λ (z : ℕ). low ≤ most_of left (tally_at tallies z)) e high))))
    | inr apart ↦ by (goes_in (get_or known x false) now left (tally_at tallies x)) refl (h y (ap (λ xs. is_among xs y) front ∙ ap (λ b. b || is_among rest y) (ne_eqb y x apart) ∙ out) lead high)
  ]
    where
      does : get_or known x false ≡ false → low ≤ most_of left (tally_at tallies x) → goes_in (get_or known x false) now left (tally_at tallies x) ≡ true
      does k l = let up : now ≤ most_of left (tally_at tallies x) = omega (arith, same, l) in let t : nat_le now (most_of left (tally_at tallies x)) ≡ true = grind (arith, nat_tests) in (λ i. t i && not (k i))

      by : (b : Bool) → goes_in (get_or known x false) now left (tally_at tallies x) ≡ b → covers left (tally_at tallies y) (get_or ranks y 0) all ≡ true → covers left (tally_at tallies y) (get_or ranks y 0) news ≡ true
      by true e k = covers_pushed left (get_or ranks y 0) (tally_at tallies y) _ all news (goes e) k
      by false e k = ap (covers left (tally_at tallies y) (get_or ranks y 0)) (stays e) ∙ k

  -- the top is taken out, and put back with its bound if that is lower than its number
  pub held_mended : (low n : ℕ) (t : Candidate) (column : Option ℕ) (all rest : List Candidate) → AreApart n ranks → ((x : ℕ) → leads query part tallies known x ≡ true → x < n) → IsOfRank n ranks t.rank column → NoneExact query part tallies known left t column
      → AllByRecursion (IsAhead left t) all → IsPermutation all (t ∷ rest) → Held [] low all → (news : List Candidate)
      → ((x : ℕ) → column ≡ Some x → goes_in (get_or known x false) low left (tally_at tallies x) ≡ true → most_of left (tally_at tallies x) < most_now left t → IsPermutation (candidate_of left (tally_at tallies x) t.rank ∷ rest) news)
      → ((left' rank : ℕ) (tally : Tally) → covers left' tally rank rest ≡ true → covers left' tally rank news ≡ true)
      → Held [] low news
  held_mended low n t None all rest apart within is none ahead p h news goes more x out lead high =
      more left (get_or ranks x 0) (tally_at tallies x) (covers_popped left (get_or ranks x 0) (tally_at tallies x) t all rest p (λ e. is x (within x lead) (sym e)) (h x out lead high))
  held_mended low n t (Some y) all rest apart within is none ahead p h news goes more x out lead high = elim (cases_eq x y) [
    | inl e ↦
        let covered = h x out lead high in
        let below = (covered_below left (get_or ranks x 0) (tally_at tallies x) t all ahead covered).0 in
        let inexact = none x (ap Some (sym e)) lead in
        let less : most_of left (tally_at tallies x) < most_now left t = lower (most_of left (tally_at tallies x)) (most_now left t) below inexact in
        let fresh = (lead_parts query part tallies known x lead).1 in
        let in_y = subst (λ (z : ℕ). goes_in (get_or known z false) low left (tally_at tallies z) ≡ true) e (does fresh high) in
        let less_y = subst (λ (z : ℕ). most_of left (tally_at tallies z) < most_now left t) e less in
        let own = covers_own left t.rank (tally_at tallies y) rest news (goes y refl in_y less_y) in
        subst (λ (z : ℕ). covers left (tally_at tallies z) (get_or ranks z 0) news ≡ true) (sym e) (subst (λ (r : ℕ). covers left (tally_at tallies y) r news ≡ true) (sym is.1) own)
    | inr other ↦ more left (get_or ranks x 0) (tally_at tallies x) (covers_popped left (get_or ranks x 0) (tally_at tallies x) t all rest p (λ e. other (apart x y (within x lead) is.0 (sym e ∙ sym is.1))) (h x out lead high))
  ]
    where
      lower : (m n : ℕ) → m ≤ n → (m ≡ n → ⊥) → m < n
      lower m n h k = grind (arith, nat_tests)

      does : get_or known x false ≡ false → low ≤ most_of left (tally_at tallies x) → goes_in (get_or known x false) low left (tally_at tallies x) ≡ true
      does k l = let t : nat_le low (most_of left (tally_at tallies x)) ≡ true = grind (arith, nat_tests) in (λ i. t i && not (k i))

-- after a list was read, the columns that are not in it are still held
pub held_read : (query : Query) (part : Searched) (ranks : List ℕ) (tallies news : List Tally) (known : List Bool) (left less low : ℕ) (listed : List ℕ) (all : List Candidate) → less ≤ left → ((x : ℕ) → is_among listed x ≡ false → tally_at news x ≡ tally_at tallies x)
    → AreHeld query part ranks tallies known left low all → AreHeldBut listed query part ranks news known less low all
held_read query part ranks tallies news known left less low listed all fewer same h x out lead high =
    let is = same x out in
    let was : leads query part tallies known x ≡ true = ap (λ (t : Tally). is_eligible query part (column_at part x) && not (get_or known x false) && nat_lt 0 t.count) (sym is) ∙ lead in
    let l : most_of less (tally_at tallies x) ≤ most_of left (tally_at tallies x) = omega (arith, fewer) in
    let up = subst (λ (t : Tally). low ≤ most_of less t) is high in
    subst (λ (t : Tally). covers less t (get_or ranks x 0) all ≡ true) (sym is) (covers_later left less (get_or ranks x 0) (tally_at tallies x) all fewer (h x refl was (omega (arith, l, up))))

known_within : (known : List Bool) (x : ℕ) → get_or known x false ≡ true → x < length known
known_within [] x e = absurd (let f : false ≡ true = e in cc)
known_within (k ∷ known) zero e = omega arith
known_within (k ∷ known) (suc x) e = (let l = known_within known x e in omega (arith, l))

known_before : (known : List Bool) (x y : ℕ) → get_or (set known y true) x false ≡ false → get_or known x false ≡ false
known_before known x y k = elim (cases_eq x y) [
  | inl e ↦ by e (get_or known x false) refl
  | inr apart ↦ sym (get_or-set_other known y x true false apart) ∙ k
]
  where
    by : x ≡ y → (b : Bool) → get_or known x false ≡ b → b ≡ false
    by e false f = refl
    by e true f =
        let within = known_within known y (ap (λ (z : ℕ). get_or known z false) (sym e) ∙ f) in
        absurd (let g : true ≡ false = sym (ap (λ (z : ℕ). get_or (set known y true) z false) e ∙ get_or-set_same known y true false within) ∙ k in cc)

lead_before : (a p q c : Bool) → (p ≡ false → q ≡ false) → (a && not p && c) ≡ true → (a && not q && c) ≡ true
lead_before true false q true h e = ap (λ b. not b && true) (h refl)
lead_before true false q false h e = absurd (let f : false ≡ true = e in cc)
lead_before true true q c h e = absurd (let f : false ≡ true = e in cc)
lead_before false p q c h e = absurd (let f : false ≡ true = e in cc)

-- one more column is known
pub held_known : (query : Query) (part : Searched) (ranks : List ℕ) (tallies : List Tally) (known : List Bool) (left low y : ℕ) (all : List Candidate) → AreHeld query part ranks tallies known left low all → AreHeld query part ranks tallies (set known y true) left low all
held_known query part ranks tallies known left low y all h x out lead high =
    h x out (lead_before (is_eligible query part (column_at part x)) (get_or (set known y true) x false) (get_or known x false) (nat_lt 0 (tally_at tallies x).count) (known_before known x y) lead) high

-- ---- the weight of all, which a mending makes smaller

pub weight_popped : (left : ℕ) (t : Candidate) (all rest : List Candidate) → IsPermutation all (t ∷ rest) → weight left rest < weight left all
weight_popped left t all rest p = omega (arith, sum_by_popped (λ (c : Candidate). most_now left c + 1) t all rest p)

pub weight_mended : (left rank : ℕ) (tally : Tally) (t : Candidate) (all rest news : List Candidate) → IsPermutation all (t ∷ rest) → IsPermutation (candidate_of left tally rank ∷ rest) news → most_of left tally < most_now left t → weight left news < weight left all
weight_mended left rank tally t all rest news p q less =
    omega (arith, sum_by_popped (λ (c : Candidate). most_now left c + 1) t all rest p, sum_by_pushed (λ (c : Candidate). most_now left c + 1) (candidate_of left tally rank) rest news q, own_most left rank tally, less)

-- ---- what is left of a list

pub first_left : (items : List ℕ) (i d : ℕ) → i < length items → drop i items ≡ get_or items i d ∷ drop (i + 1) items
first_left items i d h = let one : i + 1 ≡ suc i = omega arith in drop-cons items i d h ∙ (λ j. get_or items i d ∷ drop (sym one j) items)

pub first_slot : {X : Type 0} (slot : X → ℕ) (items : List X) (i : ℕ) (d : X) → i < length items → map slot (drop i items) ≡ slot (get_or items i d) ∷ map slot (drop (i + 1) items)
first_slot slot items i d h = let one : i + 1 ≡ suc i = omega arith in ap (map slot) (drop-cons items i d h ∙ (λ j. get_or items i d ∷ drop (sym one j) items))

-- if the test fails for a column held for this bound, its bound has not fallen
pub not_fallen : (known : List Bool) (tallies : List Tally) (left low now x y : ℕ) (t : Candidate) → x ≡ y → now ≡ low → (goes_in (get_or known y false) now left (tally_at tallies y) && nat_lt (most_of left (tally_at tallies y)) (most_now left t)) ≡ false
    → goes_in (get_or known x false) low left (tally_at tallies x) ≡ true → most_of left (tally_at tallies x) < most_now left t → ⊥
not_fallen known tallies left low now x y t e f test goes less =
    let there = (λ i. goes_in (get_or known (sym e i) false) (f i) left (tally_at tallies (sym e i))) ∙ goes in
    let l = subst (λ (z : ℕ). most_of left (tally_at tallies z) < most_now left t) e less in
    let lower : nat_lt (most_of left (tally_at tallies y)) (most_now left t) ≡ true = grind (arith, nat_tests) in
    (let g : true ≡ false = sym (λ i. there i && lower i) ∙ test in cc)

none_listed : (x : ℕ) (list : List Posting) → is_among (map (λ p. p.column) list) x ≡ false → filter (of_column x) list ≡ []
none_listed x [] e = refl
none_listed x (p ∷ ps) e = by (nat_eq x p.column) refl e (none_listed x ps)
  where
    by : (b : Bool) → nat_eq x p.column ≡ b → (b || is_among (map (λ p. p.column) ps) x) ≡ false → (is_among (map (λ p. p.column) ps) x ≡ false → filter (of_column x) ps ≡ []) → cond (of_column x p) (p ∷ filter (of_column x) ps) (filter (of_column x) ps) ≡ []
    by true f e later = absurd (let g : true ≡ false = e in cc)
    by false f e later = let other : of_column x p ≡ false = grind (arith, nat_tests) in ap (λ b. cond b (p ∷ filter (of_column x) ps) (filter (of_column x) ps)) other ∙ later e

-- a column that is not in a list is not counted
pub uncounted : (x : ℕ) (list : List Posting) (tally : Tally) → is_among (map (λ p. p.column) list) x ≡ false → counted x list tally ≡ tally
uncounted x list tally e = ap (fold raised tally) (none_listed x list e)
