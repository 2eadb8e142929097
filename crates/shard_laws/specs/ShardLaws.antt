-- The law of shards.
use Rattle.std.specs.Prelude.{ℕ, ◌≡◌, ◌<◌, List, Option}
use Rattle.std.specs.List.{AllByRecursion}
use Rattle.lake_model.specs.Texts.{Text}
use Rattle.lake_model.specs.Tables.{Table}
use Rattle.lake_model.specs.Answer.{answer}
use Rattle.shard_laws.specs.Shards.{all_tables, sharded_answer, shards_below}

-- The first k rows of the shards' answers, merged in answer order, are the answer over the tables of all shards.
abbrev pub MergedIsAnswer : Type 0
MergedIsAnswer = (shards : List (List Table)) (keys : List Text) (k : ℕ) (except : Option Text) → sharded_answer shards keys k except ≡ answer (all_tables shards) keys k except

-- If each table of a lake is in the shard that a rule gives for its name, this is the answer over the lake.
abbrev pub PlacedIsAnswer : Type 0
PlacedIsAnswer = (shard_of : Text → ℕ) (count : ℕ) (tables : List Table) (keys : List Text) (k : ℕ) (except : Option Text) → AllByRecursion (λ table. shard_of table.name < count) tables
    → sharded_answer (shards_below shard_of count tables) keys k except ≡ answer tables keys k except
