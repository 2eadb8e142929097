-- The table read from bytes: the records that the crate `csv` reads from them, and what keeps these from being a
-- table.
use Rattle.std.specs.Prelude.{ℕ, ◌+◌, ◌-◌, ◌==◌, ◌≡◌, ◌≤◌, if◌then◌else◌, nat_lt, List, [], ◌∷◌, length, map, drop, find, filter_map, get_or, Option, Some, None, option_map, sum_by}
use Rattle.std.specs.List.{AllByRecursion, range_with_len}
use Rattle.std.specs.Str.{is_utf8}
use Rattle.csv.specs.Reading.{default_config, records, strip_bom}
use Rattle.csv.specs.Records.{AllText}
use Rattle.lake_model.specs.declared.CsvRefused.{CsvRefused}
use Rattle.lake_model.specs.declared.CsvRefused.TheVariants as csv
use Rattle.lake_model.specs.declared.Keys.{Keys}
use Rattle.lake_model.specs.declared.Keys.TheVariants.{Canonical, Compatibility}
use Rattle.lake_model.specs.declared.SetRefused.{SetRefused}
use Rattle.lake_model.specs.declared.SetRefused.TheVariants as sets
use Rattle.lake_model.specs.Texts.{Text}
use Rattle.lake_model.specs.Keys.{key}
use Rattle.lake_model.specs.Tables.{Column, column_with, Table, table_with, distinct}

-- a record is a list of fields
abbrev pub Record : Type 0
Record = List Text

-- The records that the crate reads from a text, with a comma, double quotes, doubled quotes, no trimming, flexible
-- lengths and no header of its own. The crate itself drops one byte order mark.
abbrev pub crate_records : Text → List Record
crate_records text = records default_config (strip_bom text)

-- the records of the bytes after one byte order mark, or of all the bytes if they do not begin with one
abbrev pub records_of : List ℕ → List Record
records_of bytes = crate_records (strip_bom bytes)

-- ---- what keeps records from being a table

abbrev pub or_else : Option CsvRefused → Option CsvRefused → Option CsvRefused
or_else None later = later
or_else (Some first) later = Some first

-- the first field that is not UTF-8, among the fields from the one numbered `place` on
unfoldable pub text_fault : ℕ → ℕ → Record → Option CsvRefused
text_fault row place [] = None
text_fault row place (field ∷ fields) = if is_utf8 field then text_fault row (place + 1) fields else Some (csv.NotUtf8 row place)

abbrev pub record_fault : ℕ → ℕ → Record → Option CsvRefused
record_fault row want fields = if length fields == want then text_fault row 1 fields else Some (csv.Unequal row want (length fields))

-- the first record at fault, among the records from the one numbered `row` on
unfoldable pub rows_fault : ℕ → ℕ → List Record → Option CsvRefused
rows_fault row want [] = None
rows_fault row want (fields ∷ rows) = or_else (record_fault row want fields) (rows_fault (row + 1) want rows)

-- the most columns that a table may have
abbrev pub most_columns : Keys → ℕ
most_columns Canonical = 1024
most_columns Compatibility = 4096

abbrev pub header_fault : ℕ → Record → Option CsvRefused
header_fault most names = if nat_lt most (length names) then Some (csv.TooManyColumns (length names)) else text_fault 1 1 names

-- what keeps records from being a table of at most `most` columns
abbrev pub table_fault : ℕ → List Record → Option CsvRefused
table_fault most [] = Some csv.NoHeader
table_fault most (names ∷ rows) = or_else (header_fault most names) (rows_fault 2 (length names) rows)

abbrev pub csv_fault : ℕ → List ℕ → Option CsvRefused
csv_fault most bytes = table_fault most (records_of bytes)

-- the same stated directly: there is a record, the first has at most `most` fields, all have its length, and every
-- field is UTF-8
abbrev pub IsRow : Record → Record → Type 0
IsRow names fields = (length fields ≡ length names) × AllText fields

abbrev pub IsTable : ℕ → List Record → Type 0
IsTable most [] = ⊥
IsTable most (names ∷ rows) = (length names ≤ most) × AllText names × AllByRecursion (IsRow names) rows

-- ---- the table of records

-- the number of columns, that is, of the fields of the header
abbrev pub column_count : List Record → ℕ
column_count rows = length (get_or rows 0 [])

-- the field of a record, counted from 0 for the header, at a place, counted from 1
abbrev pub field_at : List Record → ℕ → ℕ → Text
field_at rows row place = get_or (get_or rows row []) (place - 1) []

-- the sum of the lengths of all fields
abbrev pub text_size : List Record → ℕ
text_size rows = sum_by (λ fields. sum_by length fields) rows

-- the keys of the fields at a place, one record after another; an empty value has none
abbrev pub field_keys : Keys → ℕ → List Record → List Text
field_keys keys place rows = filter_map (λ fields. key keys (get_or fields (place - 1) [])) rows

abbrev pub column_at : Keys → List Record → ℕ → Column
column_at keys rows place = column_with (field_at rows 0 place) (distinct (field_keys keys place (drop 1 rows)))

-- the places of the columns
abbrev pub places_of : List Record → List ℕ
places_of rows = range_with_len 1 (column_count rows)

abbrev pub table_of : Keys → Text → List Record → Table
table_of keys name rows = table_with name (map (column_at keys rows) (places_of rows))

-- the first column with more distinct keys than a column may have
abbrev pub sets_fault : Keys → List Record → Option SetRefused
sets_fault keys rows = option_map sets.TooManyValues (find (λ place. nat_lt 4194304 (length (column_at keys rows place).keys)) (places_of rows))
