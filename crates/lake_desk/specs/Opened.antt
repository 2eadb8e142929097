-- The passes of an unused lake.
use Rattle.std.specs.Prelude.{ℕ, ◌+◌, false, List, [], map, Some, None}
use Rattle.std.specs.List.{range_with_len}
use Rattle.atomic_table.specs.Seated.{TableId}
use Rattle.lake_model.specs.Journal.{Entry}
use Rattle.turn_lock.specs.Passes.{Known, known}

-- the opening pass, after it gave the numbers from 1 to `given`, with `left` numbers left
abbrev pub opened : TableId → ℕ → ℕ → Known Entry
opened lock given left = known lock 0 [] [] false (Some (given + 1)) left

-- the pass with a number that the opening pass gave
abbrev pub numbered : TableId → ℕ → Known Entry
numbered lock number = known lock number [] [] false None 0

-- the passes of the given number of lanes, numbered from 1
abbrev pub opened_desks : TableId → ℕ → List (Known Entry)
opened_desks lock lanes = map (numbered lock) (range_with_len 1 lanes)
