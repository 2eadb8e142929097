-- Once all lists were read, the columns that lead are offered, and together with the probed ones all rows of the part
-- are known.
use Rattle.std.proofs.Common.{◌≡◌, refl, ap, sym, ◌∙◌, subst, ℕ, zero, suc, ◌+◌, ◌<◌, ◌≤◌, List, [], ◌∷◌, ◌++◌, Bool, true, false, not, ◌&&◌, ◌||◌, length, arith, cond, take, drop, get_or, length-append, append-nil, append_assoc, eqb as nat_eq, ltb as nat_lt}
use Rattle.std.specs.Prelude.{bytes_eq}
use Rattle.std.specs.List.{AllByRecursion, count_by, IsDistinct}
use Rattle.std.proofs.lemmas.Bool.Decides.{nat_tests}
use Rattle.std.proofs.lemmas.List.{take-append-drop}
use Rattle.std.proofs.lemmas.List.Folds.{list_any-append}
use Rattle.segment_core.proofs.SegmentLemmas.{length-sets}
use Rattle.segment_core.specs.Versions.{tables_of}
use Rattle.search_model.proofs.FilterLemmas.{hits-append}
use Rattle.lake_model.specs.Answer.{Query, Row, row_cmp}
use Rattle.lake_model.specs.Layout.{is_among, Part}
use Rattle.lake_model.specs.Sorting.{put_in_order}
use Rattle.lake_model.specs.Tables.{overlap}
use Rattle.search_model.specs.Arrays.{no_titled}
use Rattle.search_model.specs.Looks.{hits, is_eligible, row_with, searched, Searched}
use Rattle.search_model.specs.Segment.{Titled}
use Rattle.search_laws.proofs.PartLemmas.{row_for, shares}
use Rattle.search_laws.specs.Select.{best}
use Rattle.search_state.specs.State.{column_at}
use Rattle.part_columns.specs.declared.tally.Tally.{Tally}
use Rattle.part_columns.specs.Columns.{IsListed}
use Rattle.josie_search.specs.Offers.{offered, offers, shared_row}
use Rattle.josie_search.specs.Rows.{bound_row, lead_row, leads}
use Rattle.part_columns.specs.Tallies.{most_of, AreTallies, tally_at}
use Rattle.part_columns.proofs.AskedLemmas.{hits_overlap}
use Rattle.part_columns.proofs.TallyLemmas.{counted_in, tally_count}
use Rattle.josie_search.proofs.PartLemmas.{rows_by, rows_more, rows_stay, rows_where}
use Rattle.part_columns.proofs.TouchedLemmas.{all_among, apart_before, listed_once, listed_seen, touched_listed}
use Rattle.std.proofs.lemmas.Bool.{and_parts}
use Rattle.std.proofs.Math.Bool.{or-true}

default : (i : ℕ) (d e : Titled) (cs : List Titled) → i < length cs → get_or cs i e ≡ get_or cs i d
default i d e [] h = absurd (omega arith)
default zero d e (c ∷ cs) h = refl
default (suc i) d e (c ∷ cs) h = default i d e cs (omega arith)

or_false : (b : Bool) → (b || false) ≡ b
or_false true = refl
or_false false = refl

module _ (query : Query) (whole : Part) (distinct : IsDistinct bytes_eq query.keys) (tallies : List Tally) (known : List Bool) (probed : List ℕ)
    (tallies_are : AreTallies (searched query whole).segment.sets (searched query whole).query tallies) (known_are : (x : ℕ) → get_or known x false ≡ is_among probed x) where
  abbrev part : Searched
  part = searched query whole

  counted : (x : ℕ) → x < length part.segment.columns → (tally_at tallies x).count ≡ overlap query.keys (column_at part x).column.keys
  counted x h = ap (λ (t : Tally). t.count) (tallies_are x) ∙ tally_count (get_or part.segment.sets x []) (hits (get_or part.segment.sets x []) part.query) ∙ hits_overlap query whole x distinct h

  row_is : (x : ℕ) → x < length part.segment.columns → bound_row part tallies 0 x ≡ row_for query (x, column_at part x)
  row_is x h =
      let n : most_of 0 (tally_at tallies x) ≡ overlap query.keys (column_at part x).column.keys = (let c = counted x h in omega (arith, c)) in
      ap (λ (n : ℕ). row_with n (column_at part x)) n

  lead_is : (x : ℕ) → x < length part.segment.columns → leads query part tallies known x ≡ (is_eligible query part (column_at part x) && not (is_among probed x) && nat_lt 0 (overlap query.keys (column_at part x).column.keys))
  lead_is x h = (λ i. is_eligible query part (column_at part x) && not (known_are x i) && nat_lt 0 (counted x h i))

  -- a touched column is one of the part's
  pub counted_within : (x : ℕ) → 0 < (tally_at tallies x).count → x < length part.segment.columns
  counted_within x some = omega (arith, counted_in part.segment.sets part.query tallies tallies_are x some, length-sets (tables_of whole))

  parts_of : (a b c : Bool) → (a && not b && c) ≡ true → (a ≡ true) × (b ≡ false) × (c ≡ true)
  parts_of true false true e = (refl, refl, refl)
  parts_of true false false e = cc
  parts_of true true c e = cc
  parts_of false b c e = cc

  known_then : (a b c : Bool) → (a && not b && c) ≡ false → (a && c) ≡ true → b ≡ true
  known_then true true c e f = refl
  known_then true false true e f = cc
  known_then true false false e f = cc
  known_then false b c e f = cc

  -- the columns of a list, and the probed ones
  abbrev to : List ℕ → ℕ → Bool
  to done x = is_among done x || is_among probed x

  module _ (done : List ℕ) (x : ℕ) where
    abbrev more : List ℕ
    more = done ++ x ∷ []

    pushed : (y : ℕ) → is_among more y ≡ (is_among done y || nat_eq y x)
    pushed y = list_any-append (nat_eq y) done (x ∷ []) ∙ ap (λ b. is_among done y || b) (or_false (nat_eq y x))

    other : (y : ℕ) → (y ≡ x → ⊥) → to more y ≡ to done y
    other y differ = (let e : nat_eq y x ≡ false = grind (arith, nat_tests) in ap (λ b. b || is_among probed y) (pushed y ∙ ap (λ b. is_among done y || b) e ∙ or_false (is_among done y)))

    now : to more x ≡ true
    now = let e : nat_eq x x ≡ true = grind (arith, nat_tests) in ap (λ b. b || is_among probed x) (pushed x ∙ ap (λ b. is_among done x || b) e ∙ or-true (is_among done x))

  module _ (before : List Row) where
    -- one more column, not among those done
    one_offered : (done : List ℕ) (x : ℕ) (rows : List Row) → is_among done x ≡ false → x < length part.segment.columns → rows ≡ best row_cmp query.k (before ++ rows_by query part (to done))
        → offered query.k rows (lead_row query part tallies known 0 x) ≡ best row_cmp query.k (before ++ rows_by query part (to (more done x)))
    one_offered done x rows apart h so_far = ap (λ rows. offered query.k rows (lead_row query part tallies known 0 x)) so_far ∙ by (leads query part tallies known x) refl
      where
        within : x < length (searched query whole).segment.columns
        within = h

        here : to done x ≡ is_among probed x
        here = ap (λ b. b || is_among probed x) apart

        by : (b : Bool) → leads query (searched query whole) tallies known x ≡ b
            → offered query.k (best row_cmp query.k (before ++ rows_by query (searched query whole) (to done))) (cond b (bound_row (searched query whole) tallies 0 x ∷ []) [])
            ≡ best row_cmp query.k (before ++ rows_by query (searched query whole) (to (more done x)))
        by true e =
            let is = parts_of (is_eligible query part (column_at part x)) (is_among probed x) (nat_lt 0 (overlap query.keys (column_at part x).column.keys)) (sym (lead_is x within) ∙ e) in
            ap (λ (row : Row). take query.k (put_in_order row_cmp row (best row_cmp query.k (before ++ rows_by query part (to done))))) (row_is x within)
            ∙ sym (rows_more query part before (to done) (to (more done x)) x (column_at part x) within (default x (column_at part x) no_titled part.segment.columns within) (other done x) (here ∙ is.1) (now done x) (λ i. is.0 i && is.2 i))
        by false e =
            ap (λ rows. best row_cmp query.k (before ++ rows))
            (sym (rows_stay query part (to done) (to (more done x)) x (other done x) (λ c at l k.
            let same : c ≡ column_at part x = at ∙ default x no_titled c part.segment.columns within in
            let there : is_among probed x ≡ true = known_then (is_eligible query part (column_at part x)) (is_among probed x) (nat_lt 0 (overlap query.keys (column_at part x).column.keys)) (sym (lead_is x within) ∙ e) (ap (λ (d : Titled). shares query part (x, d)) (sym same) ∙ k) in
            now done x ∙ sym (here ∙ there))))

    -- the columns of a list, distinct and none of them among those done
    offered_all : (done rest : List ℕ) (rows : List Row) → ((x : ℕ) → count_by (nat_eq x) (done ++ rest) ≤ 1) → AllByRecursion (λ x. x < length part.segment.columns) rest
        → rows ≡ best row_cmp query.k (before ++ rows_by query part (to done)) → offers query.k (lead_row query part tallies known 0) rows rest ≡ best row_cmp query.k (before ++ rows_by query part (to (done ++ rest)))
    offered_all done [] rows few within so_far = so_far ∙ ap (λ (xs : List ℕ). best row_cmp query.k (before ++ rows_by query part (to xs))) (sym (append-nil done))
    offered_all done (x ∷ rest) rows few within so_far =
        let moved : (done ++ x ∷ []) ++ rest ≡ done ++ x ∷ rest = append_assoc done (x ∷ []) rest in
        offered_all (done ++ x ∷ []) rest _ (λ y. subst (λ (xs : List ℕ). count_by (nat_eq y) xs ≤ 1) (sym moved) (few y)) within.1 (one_offered done x rows (apart_before done x rest (few x)) within.0 so_far)
        ∙ ap (λ (xs : List ℕ). best row_cmp query.k (before ++ rows_by query part (to xs))) moved

    -- Once all touched columns were offered, the rows of the part are known.
    pub all_offered : (touched : List ℕ) (rows : List Row) → IsListed tallies touched → rows ≡ best row_cmp query.k (before ++ rows_by query part (is_among probed))
        → offers query.k (lead_row query part tallies known 0) rows touched ≡ best row_cmp query.k (before ++ rows_by query part (λ x. true))
    all_offered touched rows listed so_far =
        offered_all [] touched rows (listed_once tallies touched listed) (all_among (λ x. x < length part.segment.columns) touched (λ x there. counted_within x (listed_seen tallies touched x listed there)))
        so_far
        ∙ ap (λ us. best row_cmp query.k (before ++ us)) (rows_where query part (to touched) (λ x c l at share.
        let same : c ≡ column_at part x = at ∙ default x no_titled c part.segment.columns l in
        let shared : nat_lt 0 (overlap query.keys (column_at part x).column.keys) ≡ true = (and_parts (is_eligible query part (column_at part x)) _ (ap (λ (d : Titled). shares query part (x, d)) (sym same) ∙ share)).1 in
        let some : 0 < (tally_at tallies x).count = (let n = counted x l in let t : 0 < overlap query.keys (column_at part x).column.keys = grind (arith, nat_tests) in omega (arith, n, t)) in
        ap (λ b. b || is_among probed x) (touched_listed tallies touched x listed some)))

-- one more column is probed while lists are left
pub probed_known : (query : Query) (whole : Part) (distinct : IsDistinct bytes_eq query.keys) (tallies : List Tally) (known : List Bool) (probed : List ℕ) (before rows news : List Row) (x read : ℕ) → x < length (searched query whole).segment.sets
    → is_eligible query (searched query whole) (column_at (searched query whole) x) ≡ true → get_or known x false ≡ false → 0 < (tally_at tallies x).count → AreTallies (searched query whole).segment.sets (take read (searched query whole).query) tallies
    → ((y : ℕ) → get_or known y false ≡ is_among probed y) → rows ≡ best row_cmp query.k (before ++ rows_by query (searched query whole) (is_among probed)) → news ≡ take query.k (put_in_order row_cmp (shared_row query (searched query whole) x) rows)
    → news ≡ best row_cmp query.k (before ++ rows_by query (searched query whole) (is_among (x ∷ probed)))
probed_known query whole distinct tallies known probed before rows news x read h live fresh seen are known_are so_far new =
    let part = searched query whole in
    let set = get_or part.segment.sets x [] in
    let within : x < length part.segment.columns = omega (arith, length-sets (tables_of whole), h) in
    let keys = (column_at part x).column.keys in
    let count = ap (λ (t : Tally). t.count) (are x) ∙ tally_count set (hits set (take read part.query)) in
    let all : length (hits set part.query) ≡ length (hits set (take read part.query)) + length (hits set (drop read part.query)) =
    ap (λ (qs : List ℕ). length (hits set qs)) (sym (take-append-drop read part.query)) ∙ ap (λ (ts : List ℕ). length ts) (hits-append set (take read part.query) (drop read part.query)) ∙ length-append (hits set (take read part.query)) (hits set (drop read part.query)) in
    let some : 0 < overlap query.keys keys = omega (arith, count, all, hits_overlap query whole x distinct within, seen) in
    let shares_x : shares query part (x, column_at part x) ≡ true = (let e : nat_lt 0 (overlap query.keys keys) ≡ true = grind (arith, nat_tests) in (λ i. live i && e i)) in
    let self : nat_eq x x ≡ true = grind (arith, nat_tests) in
    new ∙ ap (λ (us : List Row). take query.k (put_in_order row_cmp (shared_row query part x) us)) so_far
    ∙ sym (rows_more query part before (is_among probed) (is_among (x ∷ probed)) x (column_at part x) within (default x (column_at part x) no_titled part.segment.columns within) (λ y differ. ap (λ b. b || is_among probed y) (apart y differ))
    (sym (known_are x) ∙ fresh) (ap (λ b. b || is_among probed x) self) shares_x)
  where
    apart : (y : ℕ) → (y ≡ x → ⊥) → nat_eq y x ≡ false
    apart y h = grind (arith, nat_tests)
