-- The keys of tables, one column after another, and the members of columns, which point at them.
use Rattle.std.specs.Prelude.{◌<◌, List, [], flat_map, length, get_or}
use Rattle.lake_model.specs.Texts.{Text}
use Rattle.lake_model.specs.Tables.{Table, sets_of}
use Rattle.search_model.specs.declared.TokenAt.{TokenAt}
use Rattle.search_model.specs.Arrays.{all_of}
use Rattle.token_order.specs.Columns.{column_at, keys_there}
use Rattle.token_order.specs.declared.columns.ColumnAt.{ColumnAt}

-- the keys of all columns of a table
abbrev pub keys_in : Table → List Text
keys_in table = all_of (sets_of table)

-- the keys of all columns of the tables: a member's number is its index in this list, from 0
abbrev pub keys_of : List Table → List Text
keys_of tables = flat_map keys_in tables

-- the key that a member points at
abbrev pub pointed_by : List Table → List ColumnAt → TokenAt → Text
pointed_by tables columns member = get_or (keys_there tables (column_at columns member.column)) member.index []

-- a member is a key of one of the columns
pub record IsThere (tables : List Table) (columns : List ColumnAt) (member : TokenAt) : Type 0 where
  pub column : member.column < length columns
  pub index : member.index < length (keys_there tables (column_at columns member.column))
