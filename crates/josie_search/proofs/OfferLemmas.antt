-- The rows of the columns that lead, offered in turn, and the same with the first of them offered before the others.
use Rattle.std.proofs.Common.{◌≡◌, refl, ap, sym, ◌∙◌, subst, ℕ, zero, suc, ◌+◌, ◌<◌, ◌≢◌, List, [], ◌∷◌, ◌++◌, Bool, true, false, not, ◌&&◌, cond, length, set, take, get_or, append_assoc, arith, Option, Some, None, eqb as nat_eq, ltb as nat_lt}
use Rattle.std.specs.Prelude.{flat_map}
use Rattle.std.specs.List.{count_by}
use Rattle.std.specs.List.Sorted.{IsPermutation}
use Rattle.std.specs.Ordering.{is_lt}
use Rattle.std.proofs.lemmas.Bool.Decides.{nat_tests}
use Rattle.std.proofs.lemmas.List.{get_or-set_other, get_or-set_same}
use Rattle.std.proofs.lemmas.List.Sums.{sum_by-cons}
use Rattle.std.proofs.lemmas.List.Sorted.{IsPermutation-refl, IsPermutation-sym, IsPermutation-trans, IsPermutation-append_comm, IsPermutation-append_left, IsPermutation-append_right, IsPermutation-middle}
use Rattle.lake_model.proofs.AnswerLemmas.{row_cmp_total, row_cmp_exact}
use Rattle.lake_model.proofs.SortingLemmas.{less_order}
use Rattle.lake_model.specs.Answer.{Query, Row, row_cmp}
use Rattle.lake_model.specs.Sorting.{put_in_order}
use Rattle.search_laws.specs.Select.{best}
use Rattle.search_laws.proofs.SelectLemmas.{best_IsPermutation, best_more}
use Rattle.search_model.specs.Looks.{beats, is_eligible, Searched}
use Rattle.search_state.specs.State.{column_at}
use Rattle.part_columns.specs.declared.tally.Tally.{Tally}
use Rattle.part_columns.specs.Columns.{IsListed, is_touched}
use Rattle.part_columns.specs.Tallies.{most_of, tally_at}
use Rattle.josie_search.specs.Costs.{threshold_of}
use Rattle.josie_search.specs.Offers.{offered, offers}
use Rattle.josie_search.specs.Open.{overlap_of}
use Rattle.josie_search.specs.Rows.{bound_row, IsFirst, lead_row, leads, NoneFrom}
use Rattle.josie_search.proofs.FirstLemmas.{later, no_sooner_there}
use Rattle.josie_search.proofs.LoopLemmas.{lead_parts}

-- ---- rows that are offered in turn

-- to the first k of some rows, others are offered: the first k of all
one_offered : (k : ℕ) (rows base more : List Row) → rows ≡ best row_cmp k base → offered k rows more ≡ best row_cmp k (more ++ base)
one_offered k rows base [] is = is
one_offered k rows base (row ∷ more) is =
    one_offered k (take k (put_in_order row_cmp row rows)) (row ∷ base) more (ap (λ (us : List Row). take k (put_in_order row_cmp row us)) is ∙ sym (best_more row_cmp_total row_cmp_exact k row base))
    ∙ sym (best_IsPermutation row_cmp_total row_cmp_exact k (more ++ row ∷ base) (row ∷ more ++ base) (IsPermutation-middle more row base))

moved_back : (base ys zs : List Row) → IsPermutation ((ys ++ zs) ++ base) (zs ++ (ys ++ base))
moved_back base ys zs = subst (λ (us : List Row). IsPermutation ((ys ++ zs) ++ base) us) (append_assoc zs ys base) (IsPermutation-append_left base (ys ++ zs) (zs ++ ys) (IsPermutation-append_comm ys zs))

all_offered : (k : ℕ) (row_of : ℕ → List Row) (rows base : List Row) (xs : List ℕ) → rows ≡ best row_cmp k base → offers k row_of rows xs ≡ best row_cmp k (flat_map row_of xs ++ base)
all_offered k row_of rows base [] is = is
all_offered k row_of rows base (x ∷ xs) is =
    all_offered k row_of (offered k rows (row_of x)) (row_of x ++ base) xs (one_offered k rows base (row_of x) is)
    ∙ best_IsPermutation row_cmp_total row_cmp_exact k ((row_of x ++ flat_map row_of xs) ++ base) (flat_map row_of xs ++ (row_of x ++ base)) (moved_back base (row_of x) (flat_map row_of xs))

-- ---- a column becomes known

abbrev once : Bool → ℕ
once b = cond b 1 0

module _ (query : Query) (part : Searched) (tallies : List Tally) where
  abbrev row_at : ℕ → Row
  row_at x = bound_row part tallies 0 x

  abbrev lead : List Bool → ℕ → List Row
  lead known x = lead_row query part tallies known 0 x

  module _ (known : List Bool) (x : ℕ) where
    abbrev after : List Bool
    after = set known x true

    other_lead : (y : ℕ) → y ≢ x → lead after y ≡ lead known y
    other_lead y differ =
        ap (λ b. cond (is_eligible query part (column_at part y) && not b && nat_lt 0 (tally_at tallies y).count) (row_at y ∷ []) []) (get_or-set_other known x y true false differ)

    known_lead : x < length known → lead after x ≡ []
    known_lead within =
        ap (λ b. cond (is_eligible query part (column_at part x) && not b && nat_lt 0 (tally_at tallies x).count) (row_at x ∷ []) []) (get_or-set_same known x true false within)
        ∙ none_by (is_eligible query part (column_at part x)) (nat_lt 0 (tally_at tallies x).count) (row_at x ∷ [])
      where
        none_by : (a c : Bool) (rows : List Row) → cond (a && not true && c) rows [] ≡ []
        none_by true c rows = refl
        none_by false c rows = refl

    others_lead : (ys : List ℕ) → count_by (nat_eq x) ys ≡ 0 → flat_map (lead after) ys ≡ flat_map (lead known) ys
    others_lead [] none = refl
    others_lead (y ∷ ys) none =
        let here : once (nat_eq x y) ≡ 0 = omega (arith, none, sum_by-cons (λ z. once (nat_eq x z)) y ys) in
        let rest : count_by (nat_eq x) ys ≡ 0 = omega (arith, none, sum_by-cons (λ z. once (nat_eq x z)) y ys) in
        (λ i. other_lead y (apart (nat_eq x y) refl here) i ++ others_lead ys rest i)
      where
        apart : (b : Bool) → nat_eq x y ≡ b → once b ≡ 0 → y ≢ x
        apart true e h = cc
        apart false e h = λ same. absurd (let f : nat_eq x y ≡ true = grind (arith, nat_tests) in let g : true ≡ false = sym f ∙ e in cc)

    -- the row of a column that leads is taken out of those of all
    taken_out : (ys : List ℕ) → count_by (nat_eq x) ys ≡ 1 → leads query part tallies known x ≡ true → x < length known → IsPermutation (flat_map (lead known) ys) (row_at x ∷ flat_map (lead after) ys)
    taken_out [] one leads_x within = absurd (omega (arith, one))
    taken_out (y ∷ ys) one leads_x within = by (nat_eq x y) refl (λ rest. taken_out ys rest leads_x within)
      where
        counts : count_by (nat_eq x) (y ∷ ys) ≡ once (nat_eq x y) + count_by (nat_eq x) ys
        counts = sum_by-cons (λ z. once (nat_eq x z)) y ys

        by : (b : Bool) → nat_eq x y ≡ b → (count_by (nat_eq x) ys ≡ 1 → IsPermutation (flat_map (lead known) ys) (row_at x ∷ flat_map (lead after) ys)) → IsPermutation (flat_map (lead known) (y ∷ ys)) (row_at x ∷ flat_map (lead after) (y ∷ ys))
        by true e below =
            let same : y ≡ x = grind (arith, nat_tests) in
            let none : count_by (nat_eq x) ys ≡ 0 = omega (arith, one, counts, ap once e) in
            let first : lead known y ≡ row_at x ∷ [] = ap (lead known) same ∙ ap (λ b. cond b (row_at x ∷ []) []) leads_x in
            let gone : lead after y ≡ [] = ap (lead after) same ∙ known_lead within in
            let is : flat_map (lead known) (y ∷ ys) ≡ row_at x ∷ flat_map (lead after) (y ∷ ys) = (λ i. first i ++ sym (others_lead ys none) i) ∙ (λ i. row_at x ∷ (sym gone i ++ flat_map (lead after) ys)) in
            subst (λ (us : List Row). IsPermutation (flat_map (lead known) (y ∷ ys)) us) is (IsPermutation-refl (flat_map (lead known) (y ∷ ys)))
        by false e below =
            let differ : y ≢ x = (λ same. absurd (let f : nat_eq x y ≡ true = grind (arith, nat_tests) in let g : true ≡ false = sym f ∙ e in cc)) in
            let rest = below (omega (arith, one, counts, ap once e)) in
            let two = IsPermutation-trans (lead known y ++ flat_map (lead known) ys) (lead known y ++ row_at x ∷ flat_map (lead after) ys) (row_at x ∷ (lead known y ++ flat_map (lead after) ys)) (IsPermutation-append_right (lead known y) (flat_map (lead known) ys) (row_at x ∷ flat_map (lead after) ys) rest) (IsPermutation-middle (lead known y) (row_at x) (flat_map (lead after) ys)) in
            subst (λ (us : List Row). IsPermutation (flat_map (lead known) (y ∷ ys)) (row_at x ∷ (us ++ flat_map (lead after) ys))) (sym (other_lead y differ)) two

    -- Offered before the others, the row of a column that leads changes nothing of what is kept at the end.
    pub first_taken : (k : ℕ) (rows news : List Row) (touched : List ℕ) (row : Row) → IsListed tallies touched → leads query part tallies known x ≡ true → x < length known → rows ≡ best row_cmp k rows → row ≡ row_at x → news ≡ take k (put_in_order row_cmp row rows)
        → offers k (lead after) news touched ≡ offers k (lead known) rows touched
    first_taken k rows news touched row listed leads_x within first same new =
        let seen = (lead_parts query part tallies known x leads_x).2 in
        let test : is_touched (tally_at tallies x) ≡ true = grind (arith, nat_tests) in
        let one : count_by (nat_eq x) touched ≡ 1 = listed x ∙ ap once test in
        let more : news ≡ best row_cmp k (row_at x ∷ rows) = new ∙ ap (λ (r : Row). take k (put_in_order row_cmp r rows)) same ∙ ap (λ (us : List Row). take k (put_in_order row_cmp (row_at x) us)) first ∙ sym (best_more row_cmp_total row_cmp_exact k (row_at x) rows) in
        let olds = flat_map (lead known) touched in
        let others = flat_map (lead after) touched in
        let out = IsPermutation-append_left rows olds (row_at x ∷ others) (taken_out touched one leads_x within) in
        let back = IsPermutation-sym (others ++ row_at x ∷ rows) (row_at x ∷ (others ++ rows)) (IsPermutation-middle others (row_at x) rows) in
        all_offered k (lead after) news (row_at x ∷ rows) touched more
        ∙ best_IsPermutation row_cmp_total row_cmp_exact k (olds ++ rows) (others ++ row_at x ∷ rows) (IsPermutation-trans (olds ++ rows) (row_at x ∷ (others ++ rows)) (others ++ row_at x ∷ rows) out back)
        ∙ sym (all_offered k (lead known) rows rows touched first)

  -- ---- no row is kept any more

  module _ (known : List Bool) (k : ℕ) (rows : List Row) where
    -- If no column leads whose row would be kept, the rows stay.
    pub none_kept : (touched : List ℕ) → ((y : ℕ) → leads query part tallies known y ≡ true → take k (put_in_order row_cmp (row_at y) rows) ≡ rows) → rows ≡ offers k (lead known) rows touched
    none_kept [] out = refl
    none_kept (y ∷ ys) out = none_kept ys out ∙ ap (λ (us : List Row). offers k (lead known) us ys) (by (leads query part tallies known y) refl)
      where
        by : (b : Bool) → leads query part tallies known y ≡ b → rows ≡ offered k rows (cond b (row_at y ∷ []) [])
        by true e = sym (out y e)
        by false e = refl

    module _ (last : Option Row) (out : (worst row : Row) → last ≡ Some worst → is_lt (row_cmp row worst) ≡ false → take k (put_in_order row_cmp row rows) ≡ rows) where
      beaten : (row : Row) → beats last row ≡ false → take k (put_in_order row_cmp row rows) ≡ rows
      beaten row h = by last refl h
        where
          by : (o : Option Row) → last ≡ o → beats o row ≡ false → take k (put_in_order row_cmp row rows) ≡ rows
          by None e h = cc
          by (Some w) e h = out w row e h

      -- none leads with a bound of at least the last row's overlap
      pub none_high : (n low : ℕ) → low ≡ threshold_of (overlap_of last) → ((y : ℕ) → leads query part tallies known y ≡ true → y < n) → NoneFrom query part tallies known 0 n low
          → (y : ℕ) → leads query part tallies known y ≡ true → take k (put_in_order row_cmp (row_at y) rows) ≡ rows
      none_high n low is within none y e = by last refl
        where
          below : most_of 0 (tally_at tallies y) < low
          below = none y (within y e) e

          by : (o : Option Row) → last ≡ o → take k (put_in_order row_cmp (row_at y) rows) ≡ rows
          by None at = absurd (omega (arith, below, is, ap (λ (o : Option Row). threshold_of (overlap_of o)) at, (lead_parts query part tallies known y e).2))
          by (Some w) at = out w (row_at y) at (later (row_at y) w (omega (arith, below, is, ap (λ (o : Option Row). threshold_of (overlap_of o)) at)))

      -- the first that leads does not beat the last row
      pub none_beats : (n x : ℕ) (row : Row) → IsFirst query part tallies known 0 n x row → beats last row ≡ false → ((y : ℕ) → leads query part tallies known y ≡ true → y < n)
          → (y : ℕ) → leads query part tallies known y ≡ true → take k (put_in_order row_cmp (row_at y) rows) ≡ rows
      none_beats n x row first h within y e = beaten (row_at y) (behind last h)
        where
          behind : (o : Option Row) → beats o row ≡ false → beats o (row_at y) ≡ false
          behind None h = cc
          behind (Some w) h = (less_order row_cmp_total).chain (row_at y) row w (no_sooner_there query part tallies known 0 n x y row first (within y e) e) h

-- a row of a lower overlap than the last one's is not kept
pub too_few : (k : ℕ) (rows : List Row) (last : Option Row) (row : Row) (worst : ℕ) → ((w row : Row) → last ≡ Some w → is_lt (row_cmp row w) ≡ false → take k (put_in_order row_cmp row rows) ≡ rows) → overlap_of last ≡ Some worst → row.overlap < worst
    → take k (put_in_order row_cmp row rows) ≡ rows
too_few k rows None row worst out e less = absurd (let f : None ≡ Some worst = e in cc)
too_few k rows (Some w) row worst out e less = out w row refl (later row w (let same : w.overlap ≡ worst = cc in omega (arith, less, same)))

-- a column that becomes known is one less of those that are not
pub known_fewer : (known : List Bool) (x : ℕ) → x < length known → get_or known x false ≡ false → count_by not (set known x true) < count_by not known
known_fewer [] x within fresh = absurd (omega (arith, within))
known_fewer (b ∷ known) zero within fresh = omega (arith, sum_by-cons (λ c. once (not c)) b known, sum_by-cons (λ c. once (not c)) true known, ap (λ c. once (not c)) fresh)
known_fewer (b ∷ known) (suc x) within fresh =
    omega (arith, sum_by-cons (λ c. once (not c)) b known, sum_by-cons (λ c. once (not c)) b (set known x true), known_fewer known x (omega (arith, within)) fresh)
