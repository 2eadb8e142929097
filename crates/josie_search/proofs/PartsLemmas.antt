-- The parts in turn: the result of a part's search depends only on the first k of the rows known before it.
use Rattle.std.proofs.Common.{◌≡◌, refl, ap, sym, ◌∙◌, ℕ, zero, suc, ◌+◌, ◌-◌, ◌<◌, ◌≤◌, List, [], ◌∷◌, ◌++◌, Bool, false, length, map, take, drop, get_or, arith, append_assoc, append-nil, Option, Some, None}
use Rattle.std.specs.Prelude.{slice_get}
use Rattle.std.proofs.Math.Seq.{drop-cons}
use Rattle.std.proofs.lemmas.List.{drop_all, get_or-map, length-map}
use Rattle.std.specs.List.{AllByRecursion}
use Rattle.std.specs.Ordering.{is_lt}
use Rattle.lake_model.proofs.AnswerLemmas.{row_cmp_exact, row_cmp_total}
use Rattle.lake_model.specs.Answer.{Query, Row, row_cmp}
use Rattle.lake_model.specs.Layout.{Part}
use Rattle.lake_model.specs.Sorting.{in_order, put_in_order}
use Rattle.lake_model.proofs.SortingLemmas.{less_order, Ordered, ordered_in_order, stays}
use Rattle.search_laws.proofs.SelectLemmas.{best_append}
use Rattle.search_laws.specs.Known.{known_after}
use Rattle.search_laws.specs.Select.{best}
use Rattle.search_model.specs.declared.Look.{Look}
use Rattle.search_model.specs.declared.Summary.{Summary}
use Rattle.search_model.specs.Looks.{choice, known_rows, looks_of, next_look, open_columns, Progress, progress_after, run, run_within, searched, Searched, start, work_left, worst}
use Rattle.search_state.proofs.OfferLemmas.{worst_is}
use Rattle.segment_core.specs.Versions.{part_at, part_with}
use Rattle.topk_heap.proofs.TopLemmas.{in_order_empty}

-- the first k of the first k
abbrev is_less : Row → Row → Bool
is_less a b = is_lt (row_cmp a b)

all_taken : (k : ℕ) (x : Row) (ys : List Row) → AllByRecursion (λ w. is_less w x ≡ false) ys → AllByRecursion (λ w. is_less w x ≡ false) (take k ys)
all_taken zero x ys h = tt
all_taken (suc k) x [] h = tt
all_taken (suc k) x (y ∷ ys) h = (h.0, all_taken k x ys h.1)

own_order : (k : ℕ) (ys : List Row) → Ordered is_less (less_order row_cmp_total) ys → in_order row_cmp (take k ys) ≡ take k ys
unfolding in_order
own_order zero ys h = refl
own_order (suc k) [] h = refl
own_order (suc k) (y ∷ ys) h = ap (put_in_order row_cmp y) (own_order k ys h.1) ∙ stays row_cmp_total y (take k ys) (all_taken k y ys h.0)

take_twice : (k : ℕ) (ys : List Row) → take k (take k ys) ≡ take k ys
take_twice zero ys = refl
take_twice (suc k) [] = refl
take_twice (suc k) (y ∷ ys) = ap (λ us. y ∷ us) (take_twice k ys)

pub best_best : (k : ℕ) (rows : List Row) → best row_cmp k (best row_cmp k rows) ≡ best row_cmp k rows
best_best k rows = ap (take k) (own_order k (in_order row_cmp rows) (ordered_in_order row_cmp_total rows)) ∙ take_twice k (in_order row_cmp rows)

module _ (says : Summary → Bool) (query : Query) (some : 0 < query.k) (a b : List Row) (same : best row_cmp query.k a ≡ best row_cmp query.k b) (part : Searched) where
  next_same : (progress : Progress) → next_look says query a part progress ≡ next_look says query b part progress
  next_same progress =
      let known = known_rows query part progress in
      let rows : best row_cmp query.k (a ++ known) ≡ best row_cmp query.k (b ++ known) = best_append row_cmp_total row_cmp_exact query.k a b known same in
      let last : worst query (a ++ known) ≡ worst query (b ++ known) = worst_is query (a ++ known) some ∙ ap (λ (us : List Row). slice_get us (query.k - 1)) rows ∙ sym (worst_is query (b ++ known) some) in
      ap (λ (w : Option Row). choice says part progress w (open_columns query part progress w)) last

  abbrev step : ℕ → (ℕ → Progress → List Look × Progress) → Progress → Option Look → List Look × Progress
  step fuel rest progress None = ([], progress)
  step fuel rest progress (Some look) = (look ∷ (rest fuel (progress_after progress look)).0, (rest fuel (progress_after progress look)).1)

  step_same : (fuel : ℕ) (f g : ℕ → Progress → List Look × Progress) → ((progress : Progress) → f fuel progress ≡ g fuel progress) → (progress : Progress) (look : Option Look) → step fuel f progress look ≡ step fuel g progress look
  step_same fuel f g h progress None = refl
  step_same fuel f g h progress (Some look) = ap (λ (r : List Look × Progress). (look ∷ r.0, r.1)) (h (progress_after progress look))

  unfold_run : (before : List Row) (fuel : ℕ) (progress : Progress) → run_within says query before part (suc fuel) progress ≡ step fuel (run_within says query before part) progress (next_look says query before part progress)
  unfolding run_within
  unfold_run before fuel progress = by (next_look says query before part progress)
    where
      by : (found : Option Look) → elim found [
        | None ↦ ([], progress)
        | Some look ↦ ((look ∷ (run_within says query before part fuel (progress_after progress look)).0), (run_within says query before part fuel (progress_after progress look)).1)
      ] ≡ step fuel (run_within says query before part) progress found
      by None = refl
      by (Some look) = refl

  within_same : (fuel : ℕ) (progress : Progress) → run_within says query a part fuel progress ≡ run_within says query b part fuel progress
  unfolding run_within
  within_same zero progress = refl
  within_same (suc fuel) progress =
      unfold_run a fuel progress
      ∙ ap (step fuel (run_within says query a part) progress) (next_same progress)
      ∙ step_same fuel (run_within says query a part) (run_within says query b part) (within_same fuel) progress (next_look says query b part progress)
      ∙ sym (unfold_run b fuel progress)

  -- The looks of a part depend only on the first k rows before it.
  pub run_same : (progress : Progress) → run says query a part progress ≡ run says query b part progress
  unfolding run
  run_same progress = within_same (work_left part progress) progress

-- ---- the loop over parts

pub record Through (says : Summary → Bool) (query : Query) (all : List Searched) (i : ℕ) (log : List Look) (rows : List Row) : Type 0 where
  pub before : List Row
  pub rows_are : rows ≡ best row_cmp query.k before
  pub looks_are : log ++ looks_of says query before (drop i all) ≡ looks_of says query [] all
  pub known_is : known_after says query before (drop i all) ≡ known_after says query [] all

take_none : (k : ℕ) → take {A = Row} k [] ≡ []
take_none zero = refl
take_none (suc k) = refl

module _ (says : Summary → Bool) (query : Query) (some : 0 < query.k) (all : List Searched) where
  pub through_none : (log : List Look) (rows : List Row) → log ≡ [] → rows ≡ [] → Through says query all 0 log rows
  through_none log rows e f = record {
    before = [];
    rows_are = f ∙ sym (ap (take query.k) in_order_empty ∙ take_none query.k);
    looks_are = ap (λ us. us ++ looks_of says query [] all) e;
    known_is = refl;
  }

  -- what a part's search requires of the rows
  pub rows_kept : (i : ℕ) (log : List Look) (rows : List Row) → Through says query all i log rows → rows ≡ best row_cmp query.k rows
  rows_kept i log rows t = t.rows_are ∙ sym (best_best query.k t.before) ∙ ap (best row_cmp query.k) (sym t.rows_are)

  looks_front : (before : List Row) (part : Searched) (rest : List Searched) → looks_of says query before (part ∷ rest) ≡ (run says query before part start).0 ++ looks_of says query (before ++ known_rows query part (run says query before part start).1) rest
  unfolding looks_of
  looks_front before part rest = refl

  known_front : (before : List Row) (part : Searched) (rest : List Searched) → known_after says query before (part ∷ rest) ≡ known_after says query (before ++ known_rows query part (run says query before part start).1) rest
  unfolding known_after
  known_front before part rest = refl

  -- one more part
  pub through_more : (i : ℕ) (d : Searched) (log news : List Look) (rows rows' : List Row) → i < length all → Through says query all i log rows → news ≡ log ++ (run says query rows (get_or all i d) start).0
      → rows' ≡ best row_cmp query.k (rows ++ known_rows query (get_or all i d) (run says query rows (get_or all i d) start).1) → Through says query all (i + 1) news rows'
  through_more i d log news rows rows' h t new more =
      let part = get_or all i d in
      let same : best row_cmp query.k rows ≡ best row_cmp query.k t.before = ap (best row_cmp query.k) t.rows_are ∙ best_best query.k t.before in
      let ran : run says query rows part start ≡ run says query t.before part start = run_same says query some rows t.before same part start in
      let known = known_rows query part (run says query t.before part start).1 in
      let e : i + 1 ≡ suc i = omega arith in
      let front : drop i all ≡ part ∷ drop (i + 1) all = drop-cons all i d h ∙ ap (λ (n : ℕ). part ∷ drop n all) (sym e) in
      record {
        before = t.before ++ known;
        rows_are =
            more ∙ ap (λ (r : List Look × Progress). best row_cmp query.k (rows ++ known_rows query part r.1)) ran
            ∙ best_append row_cmp_total row_cmp_exact query.k rows t.before known same;
        looks_are =
            ap (λ us. us ++ looks_of says query (t.before ++ known) (drop (i + 1) all)) (new ∙ ap (λ (r : List Look × Progress). log ++ r.0) ran)
            ∙ append_assoc log (run says query t.before part start).0 (looks_of says query (t.before ++ known) (drop (i + 1) all))
            ∙ ap (λ us. log ++ us) (sym (looks_front t.before part (drop (i + 1) all)) ∙ ap (looks_of says query t.before) (sym front))
            ∙ t.looks_are;
        known_is = sym (known_front t.before part (drop (i + 1) all)) ∙ ap (known_after says query t.before) (sym front) ∙ t.known_is;
      }

  looks_none : (before : List Row) → looks_of says query before [] ≡ []
  unfolding looks_of
  looks_none before = refl

  known_none : (before : List Row) → known_after says query before [] ≡ before
  unfolding known_after
  known_none before = refl

  -- after all parts
  pub through_log : (i : ℕ) (log : List Look) (rows : List Row) → length all ≤ i → Through says query all i log rows → log ≡ looks_of says query [] all
  through_log i log rows h t = sym (append-nil log) ∙ ap (λ us. log ++ us) (sym (ap (looks_of says query t.before) (drop_all i all h) ∙ looks_none t.before)) ∙ t.looks_are

  pub through_rows : (i : ℕ) (log : List Look) (rows : List Row) → length all ≤ i → Through says query all i log rows → rows ≡ best row_cmp query.k (known_after says query [] all)
  through_rows i log rows h t = t.rows_are ∙ ap (best row_cmp query.k) (sym (ap (known_after says query t.before) (drop_all i all h) ∙ known_none t.before) ∙ t.known_is)

-- ---- a part of the list of parts

pub length-searched : (query : Query) (parts : List Part) → length (map (searched query) parts) ≡ length parts
length-searched query parts = length-map parts (searched query)

pub searched_at : (query : Query) (parts : List Part) (i : ℕ) → i < length parts → get_or (map (searched query) parts) i (searched query (part_with 0 [])) ≡ searched query (part_at parts i)
searched_at query parts i h = get_or-map (searched query) parts i (part_with 0 []) (searched query (part_with 0 [])) h
