-- Tables, columns and their sets of keys.
use Rattle.std.specs.Prelude.{ℕ, ◌-◌, Bool, ◌&&◌, List, [], ◌∷◌, ◌++◌, map, length, count_by, sum_by, bytes_eq, fold, get_or, nat_le, if◌then◌else◌}
use Rattle.std.specs.List.{list_any, list_all}
use Rattle.lake_model.specs.Texts.{Text}

-- a column's set is the list of its distinct keys in order of first occurrence
pub record Column : Type 0 where
  pub name : Text
  pub keys : List Text

pub record Table : Type 0 where
  pub name : Text
  pub columns : List Column

-- whether the key is in the set
abbrev pub has_key : List Text → Text → Bool
has_key keys key = list_any (bytes_eq key) keys

abbrev pub add_key : List Text → Text → List Text
add_key keys key = if has_key keys key then keys else keys ++ key ∷ []

-- each text once, in order of first occurrence
abbrev pub distinct : List Text → List Text
distinct texts = fold add_key [] texts

-- The number of keys of the query that are in the set (Zhu, Deng, Nargesian and Miller, JOSIE, SIGMOD 2019, problem
-- statement).
abbrev pub overlap : List Text → List Text → ℕ
overlap query keys = count_by (has_key keys) query

-- the sum of the sizes of a table's sets, and the number of bytes of all their keys
abbrev pub members : Table → ℕ
members table = sum_by (λ column. length column.keys) table.columns

abbrev pub key_bytes : Table → ℕ
key_bytes table = sum_by (λ column. sum_by length column.keys) table.columns

-- a table's name and its columns' names
pub record Titles : Type 0 where
  pub table : Text
  pub columns : List Text

abbrev pub titles_with : Text → List Text → Titles
titles_with table columns = record { table = table; columns = columns }

abbrev pub titles_of : Table → Titles
titles_of table = titles_with table.name (map (λ column. column.name) table.columns)

-- the name of the column at a place, counted from 1
abbrev pub column_name : Titles → ℕ → Text
column_name titles place = get_or titles.columns (place - 1) []

-- a line of a list of tables: the name, the number of columns, and the number of members
pub record Line : Type 0 where
  pub name : Text
  pub columns : ℕ
  pub members : ℕ

abbrev pub line_with : Text → ℕ → ℕ → Line
line_with name columns members = record { name = name; columns = columns; members = members }

abbrev pub line_of : Table → Line
line_of table = line_with table.name (length table.columns) (members table)

abbrev pub column_with : Text → List Text → Column
column_with name keys = record { name = name; keys = keys }

abbrev pub table_with : Text → List Column → Table
table_with name columns = record { name = name; columns = columns }

abbrev pub sets_of : Table → List (List Text)
sets_of table = map (λ column. column.keys) table.columns

-- the set of the column at a place, counted from 1
abbrev pub keys_at : Table → ℕ → List Text
keys_at table place = get_or (sets_of table) (place - 1) []

-- a table's name: 1 to 255 bytes, each of them printable ASCII other than the space
abbrev pub is_name : Text → Bool
is_name text = nat_le 1 (length text) && nat_le (length text) 255 && list_all (λ byte. nat_le 0x21 byte && nat_le byte 0x7E) text
