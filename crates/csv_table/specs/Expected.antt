-- What keeps a record from being the one that is expected, and what is known once it has been read.
use Rattle.std.specs.Prelude.{◌≡◌, ◌++◌, ◌∷◌, ◌==◌, ℕ, if◌then◌else◌, nat_lt, List, length, Option, Some, None}
use Rattle.lake_model.specs.Records.{Record, or_else, text_fault}
use Rattle.lake_model.specs.declared.CsvRefused.{CsvRefused}
use Rattle.lake_model.specs.declared.CsvRefused.TheVariants as csv
use Rattle.csv_table.specs.declared.expected.Expected.{Expected}
use Rattle.csv_table.specs.declared.expected.Expected.TheVariants as expected

abbrev pub number_of : Expected → ℕ
number_of (expected.Header most) = 1
number_of (expected.Record number columns) = number

-- a number of fields that the record may not have
abbrev pub length_fault : Expected → ℕ → Option CsvRefused
length_fault (expected.Header most) count = if nat_lt most count then Some (csv.TooManyColumns count) else None
length_fault (expected.Record number columns) count = if count == columns then None else Some (csv.Unequal number columns count)

-- the length comes before the texts
abbrev pub fault_of : Expected → Record → Option CsvRefused
fault_of next fields = or_else (length_fault next (length fields)) (text_fault (number_of next) 1 fields)

-- The first of the records that were left has no fault, and its fields, so many as are counted, follow those that were
-- stored before.
pub record IsAdded (next : Expected) (left rest : List Record) (before after : Record) (count : ℕ) : Type 0 where
  pub fields : Record
  pub taken : left ≡ fields ∷ rest
  pub sound : fault_of next fields ≡ None
  pub added : after ≡ before ++ fields
  pub counted : count ≡ length fields

-- the first of the records that are left has this fault
pub record IsRefused (next : Expected) (left : List Record) (fault : CsvRefused) : Type 0 where
  pub fields : Record
  pub rest : List Record
  pub first : left ≡ fields ∷ rest
  pub bad : fault_of next fields ≡ Some fault
