-- What the columns that may hold enough turn out to hold: the probes and the rows of a part; and how many such columns
-- there are.
use Rattle.std.proofs.Common.{◌≡◌, refl, ap, sym, ◌∙◌, ℕ, suc, ◌+◌, ◌-◌, ◌<◌, ◌≤◌, List, [], ◌∷◌, ◌++◌, Bool, true, false, not, ◌&&◌, length, map, take, get_or, arith, cond, ltb as nat_lt, leb as nat_le}
use Rattle.std.specs.List.{AllByRecursion, count_by, enumerate_from, filter, flat_map}
use Rattle.std.proofs.lemmas.List.{get_or_past}
use Rattle.std.proofs.lemmas.List.Sums.{sum_by-cons}
use Rattle.lake_model.specs.Answer.{Row}
use Rattle.contain_search.proofs.HoldLemmas.{bound_is, count_is, may_seen, seen_position}
use Rattle.contain_search.specs.Met.{may_columns, probes_of, rows_of}
use Rattle.part_columns.specs.declared.tally.Tally.{Tally}
use Rattle.part_columns.specs.Room.{unprobed}
use Rattle.part_columns.specs.Tallies.{AreTallies}
use Rattle.search_laws.proofs.FoundLemmas.{all_numbered}
use Rattle.search_laws.specs.Found.{found_row, found_rows, tokens_shared}
use Rattle.search_model.specs.Arrays.{no_titled, titled_at}
use Rattle.search_model.specs.Contain.{is_probed, is_unmarked, lists_needed, may_hold, probes_needed, seen_behind}
use Rattle.search_model.specs.declared.Look.{Look}
use Rattle.search_model.specs.declared.Look.TheVariants.{Probe}
use Rattle.search_model.specs.Looks.{hits, Searched}
use Rattle.search_model.specs.Segment.{Titled}
use Rattle.list_laws.proofs.TestLemmas.{once}

abbrev Numbered : Type 0
Numbered = ℕ × Titled

module _ (least : ℕ) (part : Searched) where
  abbrev may : Numbered → Bool
  may c = may_hold least part c.0 c.1

  abbrev more : Numbered → Bool
  more c = nat_lt (seen_behind least part c.0 c.1).count (seen_behind least part c.0 c.1).bound.overlap

  abbrev probe : Numbered → Look
  probe c = Probe part.number c.0 (seen_behind least part c.0 c.1).position

  -- ---- the rows

  rows_from : (cs : List Numbered) → AllByRecursion (λ c. titled_at part.segment.columns c.0 ≡ c.1) cs
      → flat_map (rows_of least part) (map (λ c. c.0) (filter may cs)) ≡ filter (λ row. nat_le least row.overlap) (map (λ c. found_row part c.0 c.1) (filter may cs))
  rows_from [] h = refl
  rows_from (c ∷ cs) h = by (may c) (nat_le least (tokens_shared part c.0)) refl (rows_from cs h.1)
    where
      by : (b t : Bool) → nat_le least (tokens_shared part c.0) ≡ t → flat_map (rows_of least part) (map (λ (c : Numbered). c.0) (filter may cs)) ≡ filter (λ (row : Row). nat_le least row.overlap) (map (λ (c : Numbered). found_row part c.0 c.1) (filter may cs))
          → flat_map (rows_of least part) (map (λ (c : Numbered). c.0) (cond b (c ∷ filter may cs) (filter may cs))) ≡ filter (λ (row : Row). nat_le least row.overlap) (map (λ (c : Numbered). found_row part c.0 c.1) (cond b (c ∷ filter may cs) (filter may cs)))
      by false t e ih = ih
      by true true e ih =
          (λ i. cond (e i) (found_row part c.0 (h.0 i) ∷ []) [] ++ ih i)
          ∙ sym (ap (λ b. cond b (found_row part c.0 c.1 ∷ filter (λ (row : Row). nat_le least row.overlap) (map (λ (c : Numbered). found_row part c.0 c.1) (filter may cs))) (filter (λ (row : Row). nat_le least row.overlap) (map (λ (c : Numbered). found_row part c.0 c.1) (filter may cs)))) e)
      by true false e ih =
          (λ i. cond (e i) (found_row part c.0 (h.0 i) ∷ []) [] ++ ih i)
          ∙ sym (ap (λ b. cond b (found_row part c.0 c.1 ∷ filter (λ (row : Row). nat_le least row.overlap) (map (λ (c : Numbered). found_row part c.0 c.1) (filter may cs))) (filter (λ (row : Row). nat_le least row.overlap) (map (λ (c : Numbered). found_row part c.0 c.1) (filter may cs)))) e)

  pub rows_are_found : flat_map (rows_of least part) (may_columns least part) ≡ found_rows least part
  rows_are_found =
      rows_from (enumerate_from 0 part.segment.columns)
      (all_numbered (λ c. titled_at part.segment.columns c.0 ≡ c.1) 0 part.segment.columns (λ i c h e. let z : 0 + i ≡ i = omega arith in ap (titled_at part.segment.columns) z ∙ sym (e no_titled)))

  -- ---- the probes

  module _ (long : length part.segment.sets ≡ length part.segment.columns) (tallies : List Tally) (are : AreTallies part.segment.sets (take (lists_needed least part) part.query) tallies) where
    abbrev left : ℕ
    left = length part.query - lists_needed least part

    abbrev one_probe : Bool → Look → List Look
    one_probe b look = cond b (look ∷ []) []

    probes_here : (x : ℕ) (c : Titled) → may_hold least part x c ≡ true → probes_of part.number part.segment.sets tallies left x ≡ one_probe (more (x, c)) (probe (x, c))
    probes_here x c e =
        let some = may_seen least part long tallies are x c e in
        (λ i. cond (nat_lt (count_is least part long tallies are x c i) (bound_is least part long tallies are x c some i)) (Probe part.number x (seen_position least part long tallies are x c some i) ∷ []) [])

    probes_from : (cs : List Numbered) → flat_map (probes_of part.number part.segment.sets tallies left) (map (λ c. c.0) (filter may cs)) ≡ map probe (filter (λ c. is_probed least part c.0 c.1) cs)
    probes_from [] = refl
    probes_from (c ∷ cs) = by (may c) (more c) refl (probes_here c.0 c.1) (probes_from cs)
      where
        by : (b m : Bool) → may c ≡ b → (may c ≡ true → probes_of part.number part.segment.sets tallies left c.0 ≡ one_probe m (probe c)) → flat_map (probes_of part.number part.segment.sets tallies left) (map (λ (c : Numbered). c.0) (filter may cs)) ≡ map probe (filter (λ (c : Numbered). is_probed least part c.0 c.1) cs)
            → flat_map (probes_of part.number part.segment.sets tallies left) (map (λ (c : Numbered). c.0) (cond b (c ∷ filter may cs) (filter may cs))) ≡ map probe (cond (b && m) (c ∷ filter (λ (c : Numbered). is_probed least part c.0 c.1) cs) (filter (λ (c : Numbered). is_probed least part c.0 c.1) cs))
        by false m e here ih = ih
        by true true e here ih = (λ i. here e i ++ ih i)
        by true false e here ih = (λ i. here e i ++ ih i)

    pub probes_are_needed : flat_map (probes_of part.number part.segment.sets tallies left) (may_columns least part) ≡ probes_needed least part
    probes_are_needed = probes_from (enumerate_from 0 part.segment.columns)

-- ---- how many columns may hold enough

few_from : (p : ℕ × Titled → Bool) (q : ℕ × List ℕ → Bool) (n : ℕ) (cs : List Titled) (sets : List (List ℕ)) → length sets ≡ length cs → ((i : ℕ) (c : Titled) → i < length sets → p (n + i, c) ≡ true → q (n + i, get_or sets i []) ≡ true)
    → length (map (λ c. c.0) (filter p (enumerate_from n cs))) ≤ count_by q (enumerate_from n sets)
few_from p q n [] sets e h = omega arith
few_from p q n (c ∷ cs) [] e h = absurd (omega arith)
few_from p q n (c ∷ cs) (s ∷ sets) e h = by (p (n, c)) refl (few_from p q (n + 1) cs sets (omega arith) (λ i d l k. let m : n + 1 + i ≡ n + suc i = omega arith in ap (λ (x : ℕ). q (x, get_or sets i [])) m ∙ h (suc i) d (omega arith) (ap (λ (x : ℕ). p (x, d)) (sym m) ∙ k)))
  where
    z : n + 0 ≡ n
    z = omega arith

    by : (b : Bool) → p (n, c) ≡ b → length (map (λ (c : ℕ × Titled). c.0) (filter p (enumerate_from (n + 1) cs))) ≤ count_by q (enumerate_from (n + 1) sets)
        → length (map (λ (c : ℕ × Titled). c.0) (cond b ((n, c) ∷ filter p (enumerate_from (n + 1) cs)) (filter p (enumerate_from (n + 1) cs)))) ≤ count_by q ((n, s) ∷ enumerate_from (n + 1) sets)
    by true k ih =
        let counted : q (n, s) ≡ true = ap (λ (x : ℕ). q (x, s)) (sym z) ∙ h 0 c (omega arith) (ap (λ (x : ℕ). p (x, c)) z ∙ k) in
        omega (arith, ih, sum_by-cons (λ (t : ℕ × List ℕ). once (q t)) (n, s) (enumerate_from (n + 1) sets), ap once counted)
    by false k ih = omega (arith, ih, sum_by-cons (λ (t : ℕ × List ℕ). once (q t)) (n, s) (enumerate_from (n + 1) sets))

pub few_may : (least : ℕ) (part : Searched) → length part.segment.sets ≡ length part.segment.columns → length (may_columns least part) ≤ unprobed part.segment.sets (take (lists_needed least part) part.query) []
few_may least part long =
    few_from (λ c. may_hold least part c.0 c.1) (λ s. nat_lt 0 (length (hits s.1 (take (lists_needed least part) part.query))) && not (get_or [] s.0 false)) 0 part.segment.columns part.segment.sets long
    (λ i c h e. let n : 0 + i ≡ i = omega arith in counted (0 + i) i n c e)
  where
    middle : (a b c : Bool) → (a && b && c) ≡ true → b ≡ true
    middle true true c e = refl
    middle true false c e = cc
    middle false b c e = cc

    counted : (x i : ℕ) → x ≡ i → (c : Titled) → may_hold least part x c ≡ true → (nat_lt 0 (length (hits (get_or part.segment.sets i []) (take (lists_needed least part) part.query))) && not (get_or [] x false)) ≡ true
    counted x i at c e =
        let some = middle (is_unmarked part c) (nat_lt 0 (seen_behind least part x c).count) (nat_le least (seen_behind least part x c).bound.overlap) e in
        (λ j. nat_lt 0 (length (hits (get_or part.segment.sets (sym at j) []) (take (lists_needed least part) part.query))) && not (get_or_past [] x false (omega arith) j))
        ∙ (λ j. some j && true)
