-- Worked runs of two shards, with the results that the rules give by hand.
use Rattle.std.proofs.Common.{◌≡◌, refl, List, [], ◌∷◌, None}
use Rattle.std.specs.Prelude.{codes, length}
use Rattle.lake_model.specs.Sorting.{in_order, put_in_order}
use Rattle.lake_model.specs.Texts.{Text}
use Rattle.lake_model.specs.Tables.{Table, column_with, table_with}
use Rattle.lake_model.specs.Answer.{Row, row_of}
use Rattle.shard_laws.specs.Shards.{sharded_answer, shards_below}

abbrev keys : List Text
keys = codes "x" ∷ codes "y" ∷ []

abbrev much : Table
much = table_with (codes "much") (column_with (codes "c") keys ∷ [])

abbrev less : Table
less = table_with (codes "less") (column_with (codes "c") (codes "x" ∷ []) ∷ [])

abbrev row : Table → List Row
row much = row_of keys much.name 1 (column_with (codes "c") keys) ∷ []

-- the greater overlap comes first, although its shard is asked last
later_shard_first : sharded_answer ((less ∷ []) ∷ (much ∷ []) ∷ []) keys 1 None ≡ row much
unfolding in_order put_in_order
later_shard_first = refl

-- the shards of two tables that are placed by the length of their names
by_length : shards_below (λ name. length name) 5 (much ∷ less ∷ []) ≡ (much ∷ less ∷ []) ∷ [] ∷ [] ∷ [] ∷ [] ∷ []
by_length = refl
