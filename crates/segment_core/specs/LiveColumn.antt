-- The column of a live table, by the table's name and the column's place: why there may be none, and its keys.
use Rattle.std.specs.Prelude.{ℕ, ◌-◌, Bool, not, List, [], ◌∷◌, map, filter, find, nat_eq, slice_get, if◌then◌else◌, Option, Some, None}
use Rattle.lake_model.specs.Texts.{Text}
use Rattle.lake_model.specs.Tables.{Column, Table}
use Rattle.lake_model.specs.Journal.{has_name}
use Rattle.lake_model.specs.Layout.{Part}
use Rattle.segment_core.specs.Versions.{live_of}
use Rattle.segment_core.specs.declared.column.ColumnRefused.{ColumnRefused}
use Rattle.segment_core.specs.declared.column.ColumnRefused.TheVariants.{UnknownTable, UnknownColumn}

-- the first unmarked table with this name
abbrev pub live_named : List Part → Text → Option Table
live_named parts name = find (has_name name) (live_of parts)

-- the column at a place, counted from 1
abbrev pub column_of : Table → ℕ → Option Column
column_of table place = if nat_eq place 0 then None else slice_get table.columns (place - 1)

abbrev pub fault_of : Option Column → Option ColumnRefused
fault_of None = Some UnknownColumn
fault_of (Some column) = None

abbrev pub fault_in : ℕ → Option Table → Option ColumnRefused
fault_in place None = Some UnknownTable
fault_in place (Some table) = fault_of (column_of table place)

abbrev pub keys_of : Option Column → List Text
keys_of None = []
keys_of (Some column) = column.keys

abbrev pub keys_in : ℕ → Option Table → List Text
keys_in place None = []
keys_in place (Some table) = keys_of (column_of table place)

-- why there is no such column
abbrev pub column_fault : List Part → Text → ℕ → Option ColumnRefused
column_fault parts name place = fault_in place (live_named parts name)

abbrev pub column_keys : List Part → Text → ℕ → List Text
column_keys parts name place = keys_in place (live_named parts name)

-- the unmarked tables
abbrev pub tables_without : List Table → List Bool → List Table
tables_without [] marks = []
tables_without (t ∷ ts) [] = []
tables_without (t ∷ ts) (m ∷ ms) = if m then tables_without ts ms else t ∷ tables_without ts ms

abbrev pub unmarked_in : Part → List Table
unmarked_in part = map (λ place. place.table) (filter (λ place. not place.marked) part.places)
