-- What is merged by a plan of adjacent parts can be swapped in.
use Rattle.std.proofs.Common.{◌≡◌, refl, ap, sym, ◌∙◌, subst, ℕ, ◌+◌, ◌-◌, ◌<◌, ◌≤◌, List, [], ◌∷◌, ◌++◌, true, map, not, length, take, drop, arith}
use Rattle.std.specs.Prelude.{◌⊎◌, slice_range}
use Rattle.std.proofs.lemmas.List.{take-append-drop, length-take, length-drop}
use Rattle.lake_model.specs.Tables.{Table}
use Rattle.lake_model.specs.Journal.{Entry}
use Rattle.lake_model.specs.Layout.{Place, Part, is_among, is_legal, layout, may_swap, positions_of, run_of, unmarked_of}
use Rattle.layout_laws.specs.Steps.{numbers_of, positions_in}
use Rattle.layout_laws.specs.Weight.{does_merge}
use Rattle.layout_laws.proofs.LaidLemmas.{laid_out, positions_split}
use Rattle.list_laws.proofs.ListLemmas.{rises_distinct, distinct_left, distinct_right, filter_agree}
use Rattle.layout_laws.proofs.PlanLemmas.{kept_as, run_does_merge, run_is_planned, run_may_swap, marked_in}
use Rattle.layout_laws.proofs.RunLemmas.{Run}
use Rattle.list_laws.specs.Distinct.{AreDistinct}
use Rattle.segment_core.specs.Plans.{MergedOf, kept_loads, named}
use Rattle.catalogue.specs.Swaps.{IsMergeOf, kept_tables, numbers_in}
use Rattle.layout_laws.specs.Places.{places_of}

pub numbers_named : (run : List Part) → numbers_in (named run) ≡ numbers_of run
numbers_named [] = refl
numbers_named (part ∷ parts) = ap (λ ns. part.number ∷ ns) (numbers_named parts)

positions_kept : (places : List Place) → map (λ (load : ℕ × Table). load.0) (map (λ (place : Place). (place.position, place.table)) places) ≡ positions_in places
positions_kept [] = refl
positions_kept (p ∷ ps) = ap (λ ns. p.position ∷ ns) (positions_kept ps)

tables_kept : (places : List Place) → map (λ (load : ℕ × Table). load.1) (map (λ (place : Place). (place.position, place.table)) places) ≡ map (λ place. place.table) places
tables_kept [] = refl
tables_kept (p ∷ ps) = ap (λ ts. p.table ∷ ts) (tables_kept ps)

-- the parts from one index to another
pub sliced : (parts : List Part) (i j : ℕ) → Run parts (slice_range parts i j)
sliced parts i j =
    record { front = take i parts; back = drop (j - i) (drop i parts); whole = sym (take-append-drop i parts) ∙ ap (λ (ps : List Part). take i parts ++ ps) (sym (take-append-drop (j - i) (drop i parts))) }

pub length_sliced : (parts : List Part) (i n : ℕ) → i + n ≤ length parts → length (slice_range parts i (i + n)) ≡ n
length_sliced parts i n h = omega (arith, length-take (i + n - i) (drop i parts), length-drop i parts)

module _ (journal : List Entry) (legal : is_legal journal ≡ true) (run : List Part) (stands : Run (layout journal) run) (some : 0 < length run) (merging : (1 < length run) ⊎ (0 < marked_in (places_of run))) where
  abbrev kept : List ℕ
  kept = positions_in (unmarked_of run)

  numbers : AreDistinct (numbers_of (layout journal))
  numbers = (laid_out journal legal).numbers

  positions : AreDistinct (positions_of (layout journal))
  positions = rises_distinct (positions_of (layout journal)) (laid_out journal legal).rising

  in_run : AreDistinct (positions_of run)
  in_run =
      distinct_left (positions_of run) (positions_of stands.back)
      (distinct_right (positions_of stands.front) (positions_of run ++ positions_of stands.back) (subst AreDistinct (ap (λ (ps : List Part). positions_of ps) stands.whole ∙ positions_split stands.front run stands.back) positions))

  planned_is : run_of (numbers_of run) (layout journal) ≡ run
  planned_is = run_is_planned (layout journal) run stands numbers positions

  unmarked_tables : kept_tables kept run ≡ map (λ place. place.table) (unmarked_of run)
  unmarked_tables = ap (map (λ (p : Place). p.table)) (filter_agree (λ (p : Place). is_among kept p.position) (λ p. not p.marked) (places_of run) (kept_as (places_of run) in_run))

  pub run_merges : (m : MergedOf) → m.from ≡ named run → m.kept ≡ map (λ (load : ℕ × Table). load.0) (kept_loads run) → m.tables ≡ map (λ (load : ℕ × Table). load.1) (kept_loads run) → IsMergeOf (layout journal) m
  run_merges m from left tables =
      let planned : numbers_in m.from ≡ numbers_of run = ap (λ (ps : List (ℕ × List ℕ)). numbers_in ps) from ∙ numbers_named run in
      let same : m.kept ≡ positions_in (unmarked_of run) = left ∙ positions_kept (unmarked_of run) in
      let now : run_of (numbers_in m.from) (layout journal) ≡ run = ap (λ (ns : List ℕ). run_of ns (layout journal)) planned ∙ planned_is in
      record {
        adjacent = ap (λ (ps : List Part). named ps) now ∙ sym from;
        may = (λ i. may_swap (layout journal) (planned i) (same i)) ∙ run_may_swap (layout journal) run stands numbers positions some;
        merges = (λ i. does_merge (layout journal) (planned i) (same i)) ∙ run_does_merge (layout journal) run stands numbers positions merging;
        tables = tables ∙ tables_kept (unmarked_of run) ∙ sym ((λ i. kept_tables (same i) (now i)) ∙ unmarked_tables);
      }
