-- The parts in turn: room for those that are left, and the result of all of them.
use Rattle.std.proofs.Common.{◌≡◌, ap, ◌∙◌, ℕ, ◌+◌, ◌<◌, ◌≤◌, List, [], ◌++◌, length, take, drop, arith}
use Rattle.std.specs.Prelude.{bytes_eq}
use Rattle.std.specs.BinaryHeap.{lt_by_cmp}
use Rattle.std.specs.List.{flat_map, IsDistinct, sum_by}
use Rattle.std.specs.List.Sorted.{IsPermutation, IsSortedBy}
use Rattle.std.proofs.lemmas.List.{take_all}
use Rattle.std.proofs.lemmas.List.Sums.{sum_by-drop_more, sum_by_more}
use Rattle.lake_model.specs.Answer.{Row, row_cmp}
use Rattle.lake_model.specs.Layout.{Part}
use Rattle.lake_model.specs.Sorting.{in_order}
use Rattle.lake_model.specs.Texts.{Text}
use Rattle.contain_search.proofs.ReadLemmas.{piece_more}
use Rattle.contain_search.specs.Met.{first_lists, looks_for, met, rows_for}
use Rattle.part_columns.specs.Room.{asked_in, looks_bound, probes_bound}
use Rattle.search_laws.proofs.FoundLemmas.{found_contained}
use Rattle.search_laws.proofs.SelectLemmas.{sorted_rows}
use Rattle.search_laws.specs.Found.{found_rows}
use Rattle.search_model.specs.Contain.{contain, contain_log, contain_looks, need, of_all_tables}
use Rattle.search_model.specs.declared.Look.{Look}
use Rattle.search_model.specs.Looks.{searched}
use Rattle.segment_core.specs.Versions.{live_of, part_at, part_with}

module _ (keys : List Text) (parts : List Part) (part : ℕ) (within : part < length parts) (tokens : List ℕ) (is : tokens ≡ asked_in keys (part_at parts part)) (least : ℕ) where
  pub looks_here : (spare : ℕ) → sum_by (looks_for keys least) (drop part parts) ≤ spare → looks_bound (part_at parts part) (first_lists least tokens) + sum_by (looks_for keys least) (drop (part + 1) parts) ≤ spare
  looks_here spare room = omega (arith, room, sum_by-drop_more (looks_for keys least) parts part (part_with 0 []) within, ap (λ (ts : List ℕ). looks_bound (part_at parts part) (first_lists least ts)) is)

  pub rows_here : (have room : ℕ) → have + sum_by (rows_for keys least) (drop part parts) ≤ room → have + probes_bound (part_at parts part) (first_lists least tokens) + sum_by (rows_for keys least) (drop (part + 1) parts) ≤ room
  rows_here have room holds = omega (arith, holds, sum_by-drop_more (rows_for keys least) parts part (part_with 0 []) within, ap (λ (ts : List ℕ). probes_bound (part_at parts part) (first_lists least ts)) is)

  -- the same for the parts so far
  pub looks_so_far : (spare more : ℕ) → sum_by (looks_for keys least) (take part parts) ≤ spare → spare + looks_bound (part_at parts part) (first_lists least tokens) ≤ more → sum_by (looks_for keys least) (take (part + 1) parts) ≤ more
  looks_so_far spare more room bound = omega (arith, room, bound, sum_by_more (looks_for keys least) parts part (part_with 0 []) within, ap (λ (ts : List ℕ). looks_bound (part_at parts part) (first_lists least ts)) is)

  pub rows_so_far : (have more : ℕ) → sum_by (rows_for keys least) (take part parts) ≤ have → have + probes_bound (part_at parts part) (first_lists least tokens) ≤ more → sum_by (rows_for keys least) (take (part + 1) parts) ≤ more
  rows_so_far have more room bound = omega (arith, room, bound, sum_by_more (rows_for keys least) parts part (part_with 0 []) within, ap (λ (ts : List ℕ). probes_bound (part_at parts part) (first_lists least ts)) is)

  pub log_on : (old news : List Look) → old ≡ flat_map (λ part. contain_looks least (searched (of_all_tables keys) part)) (take part parts) → news ≡ old ++ contain_looks least (met (part_at parts part) tokens)
      → news ≡ flat_map (λ part. contain_looks least (searched (of_all_tables keys) part)) (take (part + 1) parts)
  log_on old news e more =
      piece_more (λ (p : Part). contain_looks least (searched (of_all_tables keys) p)) parts part (part_with 0 []) [] old news within e (more ∙ ap (λ (ts : List ℕ). old ++ contain_looks least (met (part_at parts part) ts)) is)

  pub rows_on : (old news : List Row) → old ≡ flat_map (λ part. found_rows least (searched (of_all_tables keys) part)) (take part parts) → news ≡ old ++ found_rows least (met (part_at parts part) tokens)
      → news ≡ flat_map (λ part. found_rows least (searched (of_all_tables keys) part)) (take (part + 1) parts)
  rows_on old news e more =
      piece_more (λ (p : Part). found_rows least (searched (of_all_tables keys) p)) parts part (part_with 0 []) [] old news within e (more ∙ ap (λ (ts : List ℕ). old ++ found_rows least (met (part_at parts part) ts)) is)

module _ (keys : List Text) (a b : ℕ) (parts : List Part) (least part : ℕ) (is : least ≡ need a b (length keys)) (all : length parts ≤ part) where
  pub all_log : (log : List Look) → log ≡ flat_map (λ part. contain_looks least (searched (of_all_tables keys) part)) (take part parts) → log ≡ contain_log keys a b parts
  unfolding contain_log
  all_log log e = e ∙ (λ i. flat_map (λ part. contain_looks (is i) (searched (of_all_tables keys) part)) (take_all part parts all i))

  pub all_rows : (rows sorted : List Row) → IsDistinct bytes_eq keys → rows ≡ flat_map (λ part. found_rows least (searched (of_all_tables keys) part)) (take part parts) → IsPermutation rows sorted → IsSortedBy (lt_by_cmp row_cmp) sorted
      → sorted ≡ contain (live_of parts) keys a b
  all_rows rows sorted distinct e moved up =
      sorted_rows rows sorted moved up
      ∙ ap (in_order row_cmp) (e ∙ (λ i. flat_map (λ part. found_rows (is i) (searched (of_all_tables keys) part)) (take_all part parts all i)))
      ∙ found_contained keys a b parts distinct
