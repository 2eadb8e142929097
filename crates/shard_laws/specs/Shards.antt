-- Tables that are spread over shards, and the shards' answers.
use Rattle.std.specs.Prelude.{ℕ, zero, suc, ◌==◌, List, [], ◌∷◌, filter, flat_map, map, take, Option}
use Rattle.lake_model.specs.Sorting.{in_order}
use Rattle.lake_model.specs.Texts.{Text}
use Rattle.lake_model.specs.Tables.{Table}
use Rattle.lake_model.specs.Answer.{Row, row_cmp, answer}

-- the tables of all shards
abbrev pub all_tables : List (List Table) → List Table
all_tables shards = flat_map (λ shard. shard) shards

-- the rows of several answers, merged in answer order
abbrev pub merged : List (List Row) → List Row
merged answers = in_order row_cmp (flat_map (λ rows. rows) answers)

-- the first k rows of the shards' answers, merged
abbrev pub sharded_answer : List (List Table) → List Text → ℕ → Option Text → List Row
sharded_answer shards keys k except = take k (merged (map (λ shard. answer shard keys k except) shards))

-- the tables that are placed in shard n, in the order of the lake
abbrev pub placed : (Text → ℕ) → ℕ → List Table → List Table
placed shard_of n tables = filter (λ table. shard_of table.name == n) tables

-- the shards numbered below a count, the last of them first
abbrev pub shards_below : (Text → ℕ) → ℕ → List Table → List (List Table)
shards_below shard_of zero tables = []
shards_below shard_of (suc n) tables = placed shard_of n tables ∷ shards_below shard_of n tables
