-- The first of the columns that lead, found one column at a time.
use Rattle.std.proofs.Common.{◌≡◌, refl, ap, sym, ◌∙◌, subst, ◌⊎◌, inl, inr, ℕ, ◌<◌, ◌≤◌, List, [], ◌∷◌, Bool, true, false, arith, cond, Option, Some, None, eqb as nat_eq, ltb as nat_lt}
use Rattle.std.specs.Option.{option_to_list}
use Rattle.std.specs.Ordering.{is_lt, nat_cmp, ordering_reverse, ordering_then}
use Rattle.std.specs.declared.cmp.Ordering.{Ordering}
use Rattle.std.specs.declared.cmp.Ordering.TheVariants.{Less, Equal, Greater}
use Rattle.std.proofs.lemmas.Cmp.{nat_cmp_total}
use Rattle.std.proofs.lemmas.Map.Keys.{ge_from_not_lt}
use Rattle.std.proofs.lemmas.Bool.Decides.{nat_tests}
use Rattle.lake_model.proofs.AnswerLemmas.{row_cmp_total}
use Rattle.lake_model.specs.Answer.{Query, Row, row_cmp}
use Rattle.lake_model.specs.Layout.{is_among}
use Rattle.search_model.specs.Looks.{Searched}
use Rattle.lake_model.proofs.SortingLemmas.{by_test, irreflexive, less_order}
use Rattle.part_columns.specs.declared.tally.Tally.{Tally}
use Rattle.josie_search.specs.Rows.{bound_row, first_of, first_pair, FoundAmong, FoundTo, is_before, IsFirst, IsFirstAmong, lead_row, leads}
use Rattle.search_model.proofs.RankLemmas.{first_late}

by_place : {G : Type 0} (y x : ℕ) → (y < x → G) → (y ≡ x → G) → (x < y → G) → G
by_place {G} y x f g h = elim (nat_lt y x) as (λ t. nat_lt y x ≡ t → G) [
  | true ↦ λ e. f (let k : y < x = grind (arith, nat_tests) in k)
  | false ↦ λ e. elim (nat_eq y x) as (λ t. nat_eq y x ≡ t → G) [
    | true ↦ λ i. g (let k : y ≡ x = grind (arith, nat_tests) in k)
    | false ↦ λ i. h (let k : x < y = grind (arith, nat_tests) in k)
  ] refl
] refl

-- a row that does not come before another has no greater overlap
pub no_sooner : (a b : Row) → is_before a b ≡ false → a.overlap ≤ b.overlap
no_sooner a b h = ge_from_not_lt b.overlap a.overlap (first_late (nat_cmp b.overlap a.overlap) _ h)

-- the greater overlap comes first
pub sooner : (a b : Row) → a.overlap < b.overlap → is_before b a ≡ true
sooner a b h = by_test (is_before b a) (λ e. e) (λ e. absurd (let le = no_sooner b a e in omega arith))

pub later : (a b : Row) → a.overlap < b.overlap → is_before a b ≡ false
later a b h = (less_order row_cmp_total).one_way b a (sooner a b h)

-- a comes before b, and c does not
before_both : (a b c : Row) → is_before a b ≡ true → is_before c b ≡ false → is_before a c ≡ true
before_both a b c l h = by_test (is_before a c) (λ e. e) (λ e. absurd (let f : is_before a b ≡ false = (less_order row_cmp_total).chain a c b e h in let g : true ≡ false = sym l ∙ f in cc))

module _ (query : Query) (part : Searched) (tallies : List Tally) (known : List Bool) (left n : ℕ) where
  abbrev does_lead : ℕ → Bool
  does_lead x = leads query part tallies known x

  abbrev bound_at : ℕ → Row
  bound_at x = bound_row part tallies left x

  pub led_by : (b : Bool) (row : Row) → cond b (bound_at n ∷ []) [] ≡ row ∷ [] → (b ≡ true) × (row ≡ bound_at n)
  led_by true row e = (refl, (let f : row ≡ bound_at n = cc in f))
  led_by false row e = absurd (let f : [] ≡ row ∷ [] = e in cc)

  led_not : (b : Bool) → cond b (bound_at n ∷ []) [] ≡ [] → b ≡ false
  led_not true e = absurd (let f : (bound_at n ∷ []) ≡ [] = e in cc)
  led_not false e = refl

  -- none that leads comes before the first
  pub no_sooner_there : (x y : ℕ) (row : Row) → IsFirst query part tallies known left n x row → y < n → does_lead y ≡ true → is_before (bound_at y) row ≡ false
  no_sooner_there x y row h m d = by_place y x
      (λ l. (less_order row_cmp_total).one_way row (bound_at y) (h.lower y l d))
      (λ e. ap (λ (z : ℕ). is_before (bound_at z) row) e ∙ ap (is_before (bound_at x)) h.same ∙ irreflexive is_before (less_order row_cmp_total) (bound_at x))
      (λ l. h.higher y l m d)

  module _ (done more : List ℕ) (split : (y : ℕ) → is_among more y ≡ true → (is_among done y ≡ true) ⊎ (y ≡ n)) where
    abbrev Found : List ℕ → Option (ℕ × Row) → Type 0
    Found list found = FoundAmong query part tallies known left list found

    -- a column that does not lead
    passed : (found : Option (ℕ × Row)) → Found done found → does_lead n ≡ false → Found more found
    passed None h e = λ y l. elim (split y l) [ inl k ↦ h y k | inr k ↦ ap (λ (x : ℕ). does_lead x) k ∙ e ]
    passed (Some found) h e = record {
      does = h.does;
      same = h.same;
      lower = λ y l m d. elim (split y l) [ inl k ↦ h.lower y k m d | inr k ↦ absurd (let f : true ≡ false = sym d ∙ ap (λ (x : ℕ). does_lead x) k ∙ e in cc) ];
      higher = λ y l m d. elim (split y l) [ inl k ↦ h.higher y k m d | inr k ↦ absurd (let f : true ≡ false = sym d ∙ ap (λ (x : ℕ). does_lead x) k ∙ e in cc) ];
    }

    -- none that leads comes before the first
    no_sooner_among : (x y : ℕ) (row : Row) → IsFirstAmong query part tallies known left done x row → is_among done y ≡ true → does_lead y ≡ true → is_before (bound_at y) row ≡ false
    no_sooner_among x y row h k d = by_place y x
        (λ l. (less_order row_cmp_total).one_way row (bound_at y) (h.lower y k l d))
        (λ e. ap (λ (z : ℕ). is_before (bound_at z) row) e ∙ ap (is_before (bound_at x)) h.same ∙ irreflexive is_before (less_order row_cmp_total) (bound_at x))
        (λ l. h.higher y k l d)

    -- one that comes no sooner than the first
    stays : (x : ℕ) (best : Row) → IsFirstAmong query part tallies known left done x best → is_before (bound_at n) best ≡ false → (n < x → is_before best (bound_at n) ≡ true) → IsFirstAmong query part tallies known left more x best
    stays x best h p q = record {
      does = h.does;
      same = h.same;
      lower = λ y l m d. elim (split y l) [ inl k ↦ h.lower y k m d | inr k ↦ ap (λ (z : ℕ). is_before best (bound_at z)) k ∙ q (omega (arith, ap (λ (z : ℕ). z) k, m)) ];
      higher = λ y l m d. elim (split y l) [ inl k ↦ h.higher y k m d | inr k ↦ ap (λ (z : ℕ). is_before (bound_at z) best) k ∙ p ];
    }

    -- one that comes sooner than all
    goes : (row : Row) → does_lead n ≡ true → row ≡ bound_at n → ((y : ℕ) → is_among done y ≡ true → does_lead y ≡ true → (y < n → is_before row (bound_at y) ≡ true) × (is_before (bound_at y) row ≡ false))
        → IsFirstAmong query part tallies known left more n row
    goes row leads same all = record {
      does = leads;
      same = same;
      lower = λ y l m d. elim (split y l) [ inl k ↦ (all y k d).0 m | inr k ↦ absurd (omega (arith, ap (λ (z : ℕ). z) k, m)) ];
      higher = λ y l m d. elim (split y l) [ inl k ↦ (all y k d).1 | inr k ↦ absurd (omega (arith, ap (λ (z : ℕ). z) k, m)) ];
    }

    -- one that leads
    led : (found : Option (ℕ × Row)) (row : Row) → Found done found → does_lead n ≡ true → row ≡ bound_at n → Found more (Some (first_pair found n row))
    led None row h leads same = goes row leads same (λ y k d. absurd (let f : true ≡ false = sym d ∙ h y k in cc))
    led (Some (x, best)) row h leads same = by (row_cmp row best) refl (nat_cmp n x) refl
      where
        first : is_before row best ≡ true → IsFirstAmong query part tallies known left more n row
        first t = goes row leads same (λ y k d.
            (let b = before_both row best (bound_at y) t (no_sooner_among x y best h k d) in ((λ m. b), (less_order row_cmp_total).one_way row (bound_at y) b)))

        tied : is_before best row ≡ false → n ≤ x → IsFirstAmong query part tallies known left more n row
        tied t le = goes row leads same (λ y k d. ((λ m. ahead y k d m), (less_order row_cmp_total).chain (bound_at y) best row (no_sooner_among x y best h k d) t))
          where
            ahead : (y : ℕ) → is_among done y ≡ true → does_lead y ≡ true → y < n → is_before row (bound_at y) ≡ true
            ahead y k d m = by_test (is_before row (bound_at y)) (λ e. e) (λ e. absurd (let f : true ≡ false = sym (h.lower y k (omega (arith, m, le)) d) ∙ (less_order row_cmp_total).chain best row (bound_at y) t e in cc))

        back : (r : Ordering) → row_cmp row best ≡ r → row_cmp best row ≡ ordering_reverse r
        back r e = row_cmp_total.antisymm best row ∙ ap ordering_reverse e

        low : nat_cmp n x ≡ Less → n ≤ x
        low e = ge_from_not_lt x n (ap is_lt (nat_cmp_total.antisymm x n ∙ ap ordering_reverse e))

        high : is_lt (nat_cmp n x) ≡ false → x ≤ n
        high e = ge_from_not_lt n x e

        kept : is_before row best ≡ false → (n < x → is_before best row ≡ true) → IsFirstAmong query part tallies known left more x best
        kept p q = stays x best h (ap (λ (r : Row). is_before r best) (sym same) ∙ p) (λ l. ap (is_before best) (sym same) ∙ q l)

        by : (r : Ordering) → row_cmp row best ≡ r → (c : Ordering) → nat_cmp n x ≡ c → Found more (Some (cond (is_lt (ordering_then (row_cmp row best) (nat_cmp n x))) (n, row) (x, best)))
        by Less e c f = subst (λ (b : Bool). Found more (Some (cond b (n, row) (x, best)))) (sym (λ i. is_lt (ordering_then (e i) (nat_cmp n x)))) (first (ap is_lt e))
        by Greater e c f = subst (λ (b : Bool). Found more (Some (cond b (n, row) (x, best)))) (sym (λ i. is_lt (ordering_then (e i) (nat_cmp n x)))) (kept (ap is_lt e) (λ l. ap is_lt (back Greater e)))
        by Equal e Less f = subst (λ (b : Bool). Found more (Some (cond b (n, row) (x, best)))) (sym (λ i. is_lt (ordering_then (e i) (f i)))) (tied (ap is_lt (back Equal e)) (low f))
        by Equal e Equal f = subst (λ (b : Bool). Found more (Some (cond b (n, row) (x, best)))) (sym (λ i. is_lt (ordering_then (e i) (f i)))) (kept (ap is_lt e) (λ l. absurd (let le = high (ap is_lt f) in omega arith)))
        by Equal e Greater f = subst (λ (b : Bool). Found more (Some (cond b (n, row) (x, best)))) (sym (λ i. is_lt (ordering_then (e i) (f i)))) (kept (ap is_lt e) (λ l. absurd (let le = high (ap is_lt f) in omega arith)))

    -- one more column
    pub found_more : (found : Option (ℕ × Row)) (row : Option Row) → Found done found → option_to_list row ≡ lead_row query part tallies known left n → Found more (first_of found n row)
    found_more found None h e = passed found h (led_not (does_lead n) (sym e))
    found_more found (Some row) h e = let is = led_by (does_lead n) row (sym e) in led found row h is.0 is.1

  -- the first of all that lead is the first of the columns
  pub first_of_all : (done : List ℕ) (found : Option (ℕ × Row)) → FoundAmong query part tallies known left done found → ((y : ℕ) → does_lead y ≡ true → is_among done y ≡ true) → ((y : ℕ) → does_lead y ≡ true → y < n)
      → FoundTo query part tallies known left n found
  first_of_all done None h covers within = λ y l. by_test (does_lead y) (λ e. absurd (let f : true ≡ false = sym e ∙ h y (covers y e) in cc)) (λ e. e)
  first_of_all done (Some (x, row)) h covers within = record {
    within = within x h.does;
    does = h.does;
    same = h.same;
    lower = λ y l d. h.lower y (covers y d) l d;
    higher = λ y l m d. h.higher y (covers y d) l d;
  }
