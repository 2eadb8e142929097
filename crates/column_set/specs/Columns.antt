-- A table from its titles and the sets of its columns, one set for each column of the titles.
use Rattle.std.specs.Prelude.{◌≡◌, ◌≤◌, ℕ, List, [], ◌∷◌, bytes_eq, length}
use Rattle.std.specs.List.{AllByRecursion, IsDistinct}
use Rattle.lake_model.specs.Texts.{Text}
use Rattle.lake_model.specs.Tables as tables
use Rattle.lake_model.specs.Tables.{Column, Table, Titles, column_with, table_with}

abbrev pub columns_with : List Text → List (List Text) → List Column
columns_with [] sets = []
columns_with (name ∷ names) [] = []
columns_with (name ∷ names) (keys ∷ sets) = column_with name keys ∷ columns_with names sets

abbrev pub table_from : Titles → List (List Text) → Table
table_from titles sets = table_with titles.table (columns_with titles.columns sets)

-- no column has a key twice
abbrev pub HasDistinctKeys : Table → Type 0
HasDistinctKeys table = AllByRecursion (λ column. IsDistinct bytes_eq column.keys) table.columns

-- a set of no more keys than a column may have
abbrev pub IsSmall : List Text → Type 0
IsSmall keys = length keys ≤ 4194304

-- what is stored of a table: one set for each column, none too large and none with a key twice, with the number of all
-- keys and the number of their bytes
pub record IsHeld (titles : Titles) (sets : List (List Text)) (members key_bytes : ℕ) : Type 0 where
  pub as_many : length titles.columns ≡ length sets
  pub narrow : length sets ≤ 4096
  pub small : AllByRecursion IsSmall sets
  pub different : AllByRecursion (IsDistinct bytes_eq) sets
  pub counted : members ≡ tables.members (table_from titles sets)
  pub weighed : key_bytes ≡ tables.key_bytes (table_from titles sets)
