-- The records of bytes that have not been read yet: those that a reader of the crate `csv` has left, or those of lines.
use Rattle.std.specs.Prelude.{◌≡◌, ◌+◌, List, [], length, true, false, Option, Some, None, IsSome}
use Rattle.std.specs.Borrow.{Bor}
use Rattle.csv.specs.Machine.{ends_at_end}
use Rattle.csv.specs.Reading.{Ready, default_config, is_flexible, reader_config, reader_state, reader_trim, records_from, source_of}
use Rattle.csv.specs.declared.parser.State.{State}
use Rattle.csv.specs.declared.reader.Reader.{Reader}
use Rattle.csv.specs.declared.reader.Trim.TheVariants as trim
use Rattle.lake_model.specs.Texts.{Text}
use Rattle.lake_model.specs.Records.{Record}
use Rattle.csv_table.specs.Lines.{lines_of, HasNoQuotes}
use Rattle.csv_table.specs.declared.records_left.RecordsLeft.{RecordsLeft}
use Rattle.csv_table.specs.declared.records_left.RecordsLeft.TheVariants as left

-- the bytes that a reader over a slice has not read yet, if they are known
abbrev pub bytes_left : Reader (Bor Text) → Option Text
bytes_left reader = source_of (λ slice. Some slice.now) reader

-- the records of known bytes, read from a state of the crate's machine
abbrev pub records_left_from : Option Text → State → List Record
records_left_from None state = []
records_left_from (Some bytes) state = records_from default_config (length bytes + 1) state bytes

-- the records that a reader has not read yet
abbrev pub records_left : Reader (Bor Text) → List Record
records_left reader = records_left_from (bytes_left reader) (reader_state reader)

-- The reader is between two records of known bytes. It has the crate's defaults, but takes records of any length and no header.
pub record IsReading (reader : Reader (Bor Text)) : Type 0 where
  pub trim : reader_trim reader ≡ trim.None
  pub ready : Ready reader
  pub config : reader_config reader ≡ default_config
  pub known : IsSome (bytes_left reader)
  pub flexible : is_flexible reader ≡ true
  pub quiet : ends_at_end (reader_state reader) ≡ false

-- the records that have not been read yet
abbrev pub left_of : RecordsLeft → List Record
left_of (left.Lines text) = lines_of text.now
left_of (left.Reader rows) = records_left rows.reader.value

-- the next record can be read
abbrev pub IsOpen : RecordsLeft → Type 0
IsOpen (left.Lines text) = HasNoQuotes text.now
IsOpen (left.Reader rows) = IsReading rows.reader.value
