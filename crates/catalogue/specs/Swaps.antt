-- Merges that a catalogue can swap in, and what refuses one.
use Rattle.std.specs.Prelude.{◌≡◌, ℕ, ◌&&◌, Bool, true, List, length, map, find, not, nat_eq, bytes_eq, Option, option_map}
use Rattle.std.specs.List.{list_any}
use Rattle.lake_model.specs.Tables.{Table}
use Rattle.lake_model.specs.Journal.{Entry}
use Rattle.lake_model.specs.Layout.{Part, layout, may_swap, run_of}
use Rattle.layout_laws.specs.Places.{kept_places}
use Rattle.layout_laws.specs.Weight.{does_merge}
use Rattle.segment_core.specs.Plans.{MergedOf, named}
use Rattle.segment_core.specs.Positions.{loads_of}
use Rattle.catalogue.specs.declared.refusal.SwapRefused.{SwapRefused}
use Rattle.catalogue.specs.declared.refusal.SwapRefused.TheVariants.{Stale}

-- the numbers of planned parts
abbrev pub numbers_in : List (ℕ × List ℕ) → List ℕ
numbers_in from = map (λ planned. planned.0) from

-- whether the layout has a part with the number and the positions of a planned part
abbrev pub is_there : List Part → ℕ × List ℕ → Bool
is_there parts planned = list_any (λ part. nat_eq part.number planned.0 && bytes_eq (loads_of part) planned.1) parts

-- the tables and the marks of the kept positions of parts
abbrev pub kept_tables : List ℕ → List Part → List Table
kept_tables kept parts = map (λ place. place.table) (kept_places kept parts)

abbrev pub kept_marks : List ℕ → List Part → List Bool
kept_marks kept parts = map (λ place. place.marked) (kept_places kept parts)

-- The merge is of this layout: the planned parts are adjacent there, in this order and with these positions; the kept
-- positions are taken from theirs in layout order, and every other one is marked; two parts or more are merged, or not
-- every position is kept; and the tables are those that were put at the kept positions, by a load or a replace.
pub record IsMergeOf (parts : List Part) (merged : MergedOf) : Type 0 where
  pub adjacent : named (run_of (numbers_in merged.from) parts) ≡ merged.from
  pub may : may_swap parts (numbers_in merged.from) merged.kept ≡ true
  pub merges : does_merge parts (numbers_in merged.from) merged.kept ≡ true
  pub tables : merged.tables ≡ kept_tables merged.kept (run_of (numbers_in merged.from) parts)

-- a swap is refused because of the first planned part that is not there
abbrev pub swap_refusal : List (ℕ × List ℕ) → List Entry → Option SwapRefused
swap_refusal from journal = option_map (λ planned. Stale planned.0 (length journal)) (find (λ planned. not (is_there (layout journal) planned)) from)
