-- Plans of merges, merged segments, and the parts after a swap.
use Rattle.std.specs.Prelude.{ℕ, ◌+◌, Bool, List, [], ◌∷◌, ◌++◌, map, filter, not, take, drop, if◌then◌else◌, Option}
use Rattle.std.specs.Option.{option_to_list}
use Rattle.lake_model.specs.Tables.{Table}
use Rattle.lake_model.specs.Layout.{Place, Part, unmarked_of}
use Rattle.segment_core.specs.Positions.{loads_of}

-- a plan: the number and the positions of each part to be merged, the loads that are kept, and the version's position
pub record PlanOf : Type 0 where
  pub from : List (ℕ × List ℕ)
  pub kept : List (ℕ × Table)
  pub at : ℕ

abbrev pub plan_with : List (ℕ × List ℕ) → List (ℕ × Table) → ℕ → PlanOf
plan_with from kept at = record { from = from; kept = kept; at = at }

-- the result of merging a plan: the positions that are kept, and their tables
pub record MergedOf : Type 0 where
  pub from : List (ℕ × List ℕ)
  pub kept : List ℕ
  pub tables : List Table
  pub at : ℕ

abbrev pub merged_with : List (ℕ × List ℕ) → List ℕ → List Table → ℕ → MergedOf
merged_with from kept tables at = record { from = from; kept = kept; tables = tables; at = at }

-- the number of each part, and the positions of its loads
abbrev pub named : List Part → List (ℕ × List ℕ)
named parts = map (λ part. (part.number, loads_of part)) parts

-- the unmarked loads among places, and those of parts
abbrev pub loads_in : List Place → List (ℕ × Table)
loads_in places = map (λ place. (place.position, place.table)) (filter (λ place. not place.marked) places)

abbrev pub kept_loads : List Part → List (ℕ × Table)
kept_loads parts = map (λ place. (place.position, place.table)) (unmarked_of parts)

-- the same from positions, tables and marks
abbrev pub loads_without : List ℕ → List Table → List Bool → List (ℕ × Table)
loads_without [] tables marks = []
loads_without (n ∷ ns) [] marks = []
loads_without (n ∷ ns) (t ∷ ts) [] = []
loads_without (n ∷ ns) (t ∷ ts) (m ∷ ms) = if m then loads_without ns ts ms else (n, t) ∷ loads_without ns ts ms

-- the plan of adjacent parts
abbrev pub plan_run : ℕ → List Part → PlanOf
plan_run at run = plan_with (named run) (kept_loads run) at

-- the parts, with `count` of them, from index `first` on, replaced by one part or by none
abbrev pub replaced : ℕ → ℕ → Option Part → List Part → List Part
replaced first count part parts = take first parts ++ (option_to_list part ++ drop (first + count) parts)
