-- The first record that has more fields than a table may have columns.
use Rattle.std.specs.Prelude.{ℕ, ◌+◌, if◌then◌else◌, nat_lt, List, [], ◌∷◌, length, Option, Some, None}
use Rattle.lake_model.specs.Records.{Record}
use Rattle.csv_table.specs.declared.widths.WideRecord.{WideRecord}

-- a record by its number and by how many fields it has
abbrev pub wide_with : ℕ → ℕ → WideRecord
wide_with number fields = record { number = number; fields = fields }

-- the first record with more than `most` fields, among the records from the one numbered `number` on
unfoldable pub first_wide : ℕ → ℕ → List Record → Option WideRecord
first_wide most number [] = None
first_wide most number (fields ∷ rows) =
    if nat_lt most (length fields) then Some (wide_with number (length fields)) else first_wide most (number + 1) rows
