-- When the next list is read, whichever column is the best: a witness's bound shows that the best column has many tokens left.
use Rattle.std.proofs.Common.{◌≡◌, refl, ap, sym, ◌∙◌, ℕ, zero, suc, ◌+◌, ◌-◌, ◌<◌, ◌≤◌, List, [], ◌∷◌, ◌++◌, Bool, true, false, length, arith, cond, Option, Some, None, inl, inr, ◌⊎◌, ◌||◌, eqb as nat_eq, leb as nat_le}
use Rattle.std.specs.Prelude.{slice_get, slice_index}
use Rattle.std.specs.Option.{option_to_list}
use Rattle.std.proofs.lemmas.Bool.Decides.{nat_tests}
use Rattle.std.proofs.lemmas.Option.{slice_get_past}
use Rattle.lake_model.specs.Answer.{Query, Row}
use Rattle.lake_model.specs.Layout.{is_among}
use Rattle.search_model.specs.declared.Summary.{Summary}
use Rattle.search_model.specs.Looks.{known_rows, left_of, next_look, Progress, read_next, Searched, worst}
use Rattle.part_columns.specs.declared.tally.Tally.{Tally}
use Rattle.josie_search.specs.Costs.{lengths_of, summary_of}
use Rattle.josie_search.specs.Open.{overlap_of, taken}
use Rattle.josie_search.specs.Rows.{bound_row, first_of, FoundAmong, FoundTo, leads}
use Rattle.part_columns.specs.Tallies.{most_of, tally_at}
use Rattle.josie_search.specs.State.{IsAt}
use Rattle.josie_search.proofs.FirstLemmas.{first_of_all, found_more, no_sooner, no_sooner_there}
use Rattle.josie_search.proofs.LoopLemmas.{lead_parts}
use Rattle.josie_search.proofs.NextLemmas.{head_found, next_reads}
use Rattle.josie_search.proofs.OpenLemmas.{seen_count}

-- fewer than k rows have no k-th
pub none_last : (rows : List Row) (k : ℕ) → 0 < k → nat_le k (length rows) ≡ false → slice_get rows (k - 1) ≡ None
none_last rows k some e = slice_get_past rows (k - 1) (let few : length rows < k = grind (arith, nat_tests) in omega arith)

module _ (says : Summary → Bool) (query : Query) (before : List Row) (part : Searched) (progress : Progress) (tallies : List Tally) (known : List Bool) (is : IsAt part progress tallies known) where
  abbrev last : Option Row
  last = worst query (before ++ known_rows query part progress)

  abbrev left : ℕ
  left = left_of part progress

  abbrev lead_option : Bool → Row → Option Row
  lead_option b row = cond b (Some row) None

  lead_list : (b : Bool) (row : Row) → option_to_list (lead_option b row) ≡ cond b (row ∷ []) []
  lead_list true row = refl
  lead_list false row = refl

  -- the first n columns
  abbrev below : ℕ → List ℕ
  below zero = []
  below (suc n) = n ∷ below n

  among_below : (n y : ℕ) → y < n → is_among (below n) y ≡ true
  among_below zero y h = absurd (omega arith)
  among_below (suc n) y h = elim (nat_eq y n) as (λ (b : Bool). nat_eq y n ≡ b → (b || is_among (below n) y) ≡ true) [
    | true ↦ λ e. refl
    | false ↦ λ e. among_below n y (let less : y < n = grind (arith, nat_tests) in less)
  ] refl

  one_below : (n y : ℕ) → is_among (below (suc n)) y ≡ true → (is_among (below n) y ≡ true) ⊎ (y ≡ n)
  one_below n y = by (nat_eq y n) refl
    where
      by : (b : Bool) → nat_eq y n ≡ b → (b || is_among (below n) y) ≡ true → (is_among (below n) y ≡ true) ⊎ (y ≡ n)
      by true e k = inr (let same : y ≡ n = grind (arith, nat_tests) in same)
      by false e k = inl k

  -- the first column that leads, of the first n
  first_below : (n : ℕ) → (found : Option (ℕ × Row)) × FoundAmong query part tallies known left (below n) found
  first_below zero = (None, λ y l. absurd (let f : false ≡ true = l in cc))
  first_below (suc n) =
      let before_it = first_below n in
      let row = lead_option (leads query part tallies known n) (bound_row part tallies left n) in
      (first_of before_it.0 n row, found_more query part tallies known left n (below n) (below (suc n)) (one_below n) before_it.0 row before_it.1 (lead_list (leads query part tallies known n) (bound_row part tallies left n)))

  -- If fewer than k rows are known, a witness that leads shows that the best column has many tokens left, so that the
  -- chooser reads.
  pub surely_read : (w most rest : ℕ) → ((x : ℕ) → 0 < (tally_at tallies x).count → x < length part.segment.columns) → last ≡ None → w < length part.segment.columns → leads query part tallies known w ≡ true → ((x : ℕ) → (tally_at tallies x).count ≤ most)
      → most + rest < (bound_row part tallies left w).overlap
      → ((s : Summary) → s.next_len ≡ slice_index (lengths_of part.segment part.query) progress.read → s.gain ≡ 0 → rest < s.rest → says s ≡ false)
      → next_look says query before part progress ≡ Some (read_next part progress)
  surely_read w most rest seen none within lead counts more reads = by found.0 found.1
    where
      found : (found : Option (ℕ × Row)) × FoundTo query part tallies known left (length part.segment.columns) found
      found =
          let first = first_below (length part.segment.columns) in
          let inside : (y : ℕ) → leads query part tallies known y ≡ true → y < length part.segment.columns = λ y d. seen y (lead_parts query part tallies known y d).2 in
          (first.0, first_of_all query part tallies known left (length part.segment.columns) (below (length part.segment.columns)) first.0 first.1 (λ y d. among_below (length part.segment.columns) y (inside y d)) inside)

      by : (found : Option (ℕ × Row)) → FoundTo query part tallies known left (length part.segment.columns) found → next_look says query before part progress ≡ Some (read_next part progress)
      by None h = absurd (let f : true ≡ false = sym lead ∙ h w within in cc)
      by (Some (x, row)) h =
          let head = head_found query part progress tallies known last (Some (x, row)) is h (Some x) (ap (λ (l : Option Row). taken l (Some (x, row))) (sym none)) in
          let high : (bound_row part tallies left w).overlap ≤ row.overlap = no_sooner (bound_row part tallies left w) row (no_sooner_there query part tallies known left (length part.segment.columns) x w row h within lead) in
          let bound : row.overlap ≡ most_of left (tally_at tallies x) = ap (λ (r : Row). r.overlap) h.same in
          let count = counts x in
          let long : rest < (tally_at tallies x).rest = omega (arith, high, bound, count, more) in
          let said : says (summary_of (lengths_of part.segment part.query) progress.read (tally_at tallies x) (overlap_of last)) ≡ false =
          ap (λ (l : Option Row). says (summary_of (lengths_of part.segment part.query) progress.read (tally_at tallies x) (overlap_of l))) none
          ∙ reads (summary_of (lengths_of part.segment part.query) progress.read (tally_at tallies x) None) refl refl long in
          next_reads says query before part progress tallies known is x head (seen_count query part progress tallies known is x h.does) said
