-- The columns of tables, each with the number of its first member.
use Rattle.std.specs.Prelude.{◌≡◌, ℕ, ◌<◌, ◌≤◌, List, ◌++◌, flat_map, get_or, length, map, take}
use Rattle.std.specs.List.{All}
use Rattle.lake_model.specs.Texts.{Text}
use Rattle.lake_model.specs.Tables.{Table, keys_at}
use Rattle.search_model.specs.declared.Owner.{Owner}
use Rattle.search_model.specs.Arrays.{owner_of, table_at}
use Rattle.search_model.specs.Segment.{Titled}
use Rattle.token_order.specs.declared.columns.ColumnAt.{ColumnAt}

abbrev pub no_column : ColumnAt
no_column = record { table = 0; place = 0; first = 0 }

-- the column with a number
abbrev pub column_at : List ColumnAt → ℕ → ColumnAt
column_at columns number = get_or columns number no_column

-- where a column is
abbrev pub owner_there : ColumnAt → Owner
owner_there column = record { table = column.table; place = column.place }

-- the keys of a column
abbrev pub keys_there : List Table → ColumnAt → List Text
keys_there tables column = keys_at (table_at tables column.table) column.place

-- the keys of columns, one column after another
abbrev pub keys_through : List Table → List ColumnAt → List Text
keys_through tables columns = flat_map (keys_there tables) columns

-- a column of the tables
pub record IsColumn (tables : List Table) (column : ColumnAt) : Type 0 where
  pub table : column.table < length tables
  pub low : 0 < column.place
  pub high : column.place ≤ length (table_at tables column.table).columns

-- columns of the tables: each column's `first` is the number of keys before it
pub record AreColumns (tables : List Table) (columns : List ColumnAt) : Type 0 where
  pub each : All (IsColumn tables) columns
  pub firsts : (i : ℕ) (d : ColumnAt) → i < length columns → (get_or columns i d).first ≡ length (keys_through tables (take i columns))

-- these columns, with these keys, were appended to others, and `next` is the number of the first member after them
pub record AreMoreColumns (tables : List Table) (old new : List ColumnAt) (added : List Titled) (keys : List Text) (next : ℕ) : Type 0 where
  pub columns : AreColumns tables new
  pub owned : map owner_there new ≡ map owner_there old ++ map owner_of added
  pub held : keys_through tables new ≡ keys_through tables old ++ keys
  pub counted : next ≡ length (keys_through tables new)
