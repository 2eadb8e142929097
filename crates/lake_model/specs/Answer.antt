-- The answer to a query: the columns that share the most keys with it.
use Rattle.std.specs.Prelude.{ℕ, Bool, List, map, take, filter, flat_map, bytes_eq, nat_lt, not, false, Option, Some, None}
use Rattle.std.specs.List.{enumerate_from}
use Rattle.std.specs.Ordering.{ordering_then, nat_cmp}
use Rattle.std.specs.declared.cmp.Ordering.{Ordering}
use Rattle.std.specs.Cmp.Lexicographic.{slice_cmp}
use Rattle.lake_model.specs.Sorting.{in_order}
use Rattle.lake_model.specs.Texts.{Text}
use Rattle.lake_model.specs.Tables.{Column, Table, Titles, column_name, overlap}

pub record Row : Type 0 where
  pub overlap : ℕ
  pub table : Text
  pub column : Text
  pub place : ℕ

-- the greater overlap first, and then by table name, column name and place
abbrev pub row_cmp : Row → Row → Ordering
row_cmp a b = ordering_then (nat_cmp b.overlap a.overlap) (ordering_then (slice_cmp nat_cmp a.table b.table)
    (ordering_then (slice_cmp nat_cmp a.column b.column) (nat_cmp a.place b.place)))

-- whether a table of this name is the excepted one
abbrev pub is_excepted : Option Text → Text → Bool
is_excepted None name = false
is_excepted (Some excepted) name = bytes_eq excepted name

-- the row of the column at a place
abbrev pub row_of : List Text → Text → ℕ → Column → Row
row_of query table place column = record { overlap = overlap query column.keys; table = table; column = column.name; place = place }

-- a row for each column that shares a key with the query; the columns' places are counted from n
abbrev pub rows_from : List Text → Text → ℕ → List Column → List Row
rows_from query table n columns = filter (λ row. nat_lt 0 row.overlap) (map (λ c. row_of query table c.0 c.1) (enumerate_from n columns))

abbrev pub rows_of_table : List Text → Table → List Row
rows_of_table query table = rows_from query table.name 1 table.columns

-- the rows of the tables that are not excepted
abbrev pub all_rows : List Table → List Text → Option Text → List Row
all_rows tables query except = flat_map (rows_of_table query) (filter (λ table. not (is_excepted except table.name)) tables)

abbrev pub answer : List Table → List Text → ℕ → Option Text → List Row
answer tables query k except = take k (in_order row_cmp (all_rows tables query except))

-- the row at a place of a titled table
abbrev pub row_at : ℕ → Titles → ℕ → Row
row_at overlap titles place = record { overlap = overlap; table = titles.table; column = column_name titles place; place = place }

-- what is asked: the keys, the number of rows, and the name of a table that is left out
pub record Query : Type 0 where
  pub keys : List Text
  pub k : ℕ
  pub except : Option Text
