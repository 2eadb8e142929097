-- The first column that leads is the first of the open ones if it beats the last row; otherwise none is open.
use Rattle.std.proofs.Common.{◌≡◌, refl, ap, sym, ◌∙◌, ℕ, ◌<◌, List, [], ◌∷◌, Bool, true, false, not, ◌&&◌, ◌||◌, length, arith, take, get_or, Option, Some, None, ltb as nat_lt, leb as nat_le}
use Rattle.std.proofs.lemmas.Bool.Decides.{nat_tests}
use Rattle.lake_model.proofs.AnswerLemmas.{row_cmp_total}
use Rattle.lake_model.specs.Answer.{Query, Row}
use Rattle.lake_model.specs.Layout.{is_among}
use Rattle.search_model.specs.Looks.{beats, hits, is_eligible, is_known, left_of, open_columns, Progress, row_with, Searched, Seen}
use Rattle.lake_model.proofs.SortingLemmas.{less_order}
use Rattle.search_state.specs.State.{column_at, open_at, seen_at}
use Rattle.search_state.proofs.CoverLemmas.{none_open}
use Rattle.search_state.proofs.HeadLemmas.{first_by_rows}
use Rattle.part_columns.specs.declared.tally.Tally.{Tally}
use Rattle.josie_search.specs.Costs.{threshold_of}
use Rattle.josie_search.specs.Open.{overlap_of}
use Rattle.josie_search.specs.Rows.{bound_row, is_before, IsFirst, leads, NoneFrom, NoneLeads}
use Rattle.part_columns.specs.Tallies.{most_of, tally_at}
use Rattle.josie_search.specs.State.{IsAt}
use Rattle.josie_search.proofs.FirstLemmas.{later, no_sooner_there}
use Rattle.part_columns.proofs.TallyLemmas.{bound_same, tally_count}
use Rattle.std.proofs.lemmas.Bool.{and_parts}

and_moved : (a b c d : Bool) → (a && b && c && d) ≡ ((a && b && c) && d)
and_moved true true c d = refl
and_moved true false c d = refl
and_moved false b c d = refl

and_third : (a b c : Bool) → (a && b && c) ≡ true → c ≡ true
and_third true true c e = e
and_third true false c e = cc
and_third false b c e = cc

module _ (query : Query) (part : Searched) (progress : Progress) (tallies : List Tally) (known : List Bool) (is : IsAt part progress tallies known) where
  abbrev left : ℕ
  left = left_of part progress

  abbrev does_lead : ℕ → Bool
  does_lead x = leads query part tallies known x

  counts : (x : ℕ) → (tally_at tallies x).count ≡ (seen_at part progress x).count
  counts x = ap (λ (t : Tally). t.count) (is.tallies_are x) ∙ tally_count (get_or part.segment.sets x []) (hits (get_or part.segment.sets x []) (take progress.read part.query))

  pub knows : (x : ℕ) → is_known part progress x ≡ get_or known x false
  knows x =
      let more : nat_le (length part.query) progress.read ≡ false = (let h = is.unread in grind (arith, nat_tests)) in
      ap (λ b. b || is_among progress.probed x) more ∙ sym (is.known_are x)

  leads_are : (x : ℕ) → does_lead x ≡ (is_eligible query part (column_at part x) && not (is_known part progress x) && nat_lt 0 (seen_at part progress x).count)
  leads_are x = (λ i. is_eligible query part (column_at part x) && not (sym (knows x) i) && nat_lt 0 (counts x i))

  pub seen_count : (x : ℕ) → does_lead x ≡ true → 0 < (seen_at part progress x).count
  seen_count x e =
      let some : nat_lt 0 (seen_at part progress x).count ≡ true = and_third (is_eligible query part (column_at part x)) (not (is_known part progress x)) (nat_lt 0 (seen_at part progress x).count) (sym (leads_are x) ∙ e) in
      grind (arith, nat_tests)

  pub bounds_are : (x : ℕ) → does_lead x ≡ true → bound_row part tallies left x ≡ (seen_at part progress x).bound
  bounds_are x e =
      ap (λ (t : Tally). row_with (most_of left t) (column_at part x)) (is.tallies_are x)
      ∙ ap (λ (n : ℕ). row_with n (column_at part x)) (bound_same (get_or part.segment.sets x []) (hits (get_or part.segment.sets x []) (take progress.read part.query)) left (seen_count x e))

  open_is : (last : Option Row) (x : ℕ) → open_at query part progress last x ≡ (does_lead x && beats last (seen_at part progress x).bound)
  open_is last x =
      and_moved (is_eligible query part (column_at part x)) (not (is_known part progress x)) (nat_lt 0 (seen_at part progress x).count) (beats last (seen_at part progress x).bound)
      ∙ ap (λ b. b && beats last (seen_at part progress x).bound) (sym (leads_are x))

  -- If it beats the last row, it is the first of the open columns.
  pub first_open : (last : Option Row) (x : ℕ) (row : Row) → IsFirst query part tallies known left (length part.segment.columns) x row → beats last row ≡ true
      → (rest : List Seen) × (open_columns query part progress last ≡ seen_at part progress x ∷ rest)
  first_open last x row h b =
      let same : row ≡ (seen_at part progress x).bound = h.same ∙ bounds_are x h.does in
      first_by_rows query part progress last x h.within
      (open_is last x ∙ (λ i. h.does i && beats last (sym same i)) ∙ b)
      (λ y l o m. (let d = (and_parts (does_lead y) _ (sym (open_is last y) ∙ o)).0 in sym (λ i. is_before (same i) (bounds_are y d i)) ∙ h.lower y m d))
      (λ y l o m. (let d = (and_parts (does_lead y) _ (sym (open_is last y) ∙ o)).0 in sym (λ i. is_before (bounds_are y d i) (same i)) ∙ h.higher y m l d))

  no_later_beats : (last : Option Row) (a b : Row) → is_before b a ≡ false → beats last a ≡ false → beats last b ≡ false
  no_later_beats None a b h e = cc
  no_later_beats (Some w) a b h e = (less_order row_cmp_total).chain b a w h e

  closed_by : (last : Option Row) (y : ℕ) → (does_lead y ≡ true → beats last (seen_at part progress y).bound ≡ false) → open_at query part progress last y ≡ false
  closed_by last y h = open_is last y ∙ by (does_lead y) refl
    where
      by : (b : Bool) → does_lead y ≡ b → (b && beats last (seen_at part progress y).bound) ≡ false
      by true e = h e
      by false e = refl

  -- If none leads, or the first that does is beaten, none is open.
  pub none_opens : (last : Option Row) → NoneLeads query part tallies known (length part.segment.columns) → open_columns query part progress last ≡ []
  none_opens last h = none_open query part progress last (λ y l. closed_by last y (λ e. absurd (let f : true ≡ false = sym e ∙ h y l in cc)))

  pub first_beaten : (last : Option Row) (x : ℕ) (row : Row) → IsFirst query part tallies known left (length part.segment.columns) x row → beats last row ≡ false → open_columns query part progress last ≡ []
  first_beaten last x row h b =
      none_open query part progress last (λ y l. closed_by last y (λ e.
      no_later_beats last row (seen_at part progress y).bound (ap (λ (r : Row). is_before r row) (sym (bounds_are y e)) ∙ no_sooner_there query part tallies known left (length part.segment.columns) x y row h l e) b))

  -- If none leads with a bound of at least the last row's overlap, none is open.
  pub none_high : (last : Option Row) (low : ℕ) → low ≡ threshold_of (overlap_of last) → NoneFrom query part tallies known left (length part.segment.columns) low → open_columns query part progress last ≡ []
  none_high last low high h = none_open query part progress last (λ y l. closed_by last y (λ e. beaten last high y (h y l e) e))
    where
      beaten : (last : Option Row) → low ≡ threshold_of (overlap_of last) → (y : ℕ) → most_of left (tally_at tallies y) < low → does_lead y ≡ true → beats last (seen_at part progress y).bound ≡ false
      beaten None high y less e = absurd (let some = seen_count y e in let c = counts y in omega (arith, high, less, some, c))
      beaten (Some w) high y less e = ap (λ (r : Row). is_before r w) (sym (bounds_are y e)) ∙ later (bound_row part tallies left y) w (omega (arith, high, less))
