use Rattle.std.proofs.Common.{◌≡◌, ◌≤◌, ◌+◌, drop}
use Rattle.csv.specs.Reading.{default_config, records}
use Rattle.csv_table.specs.Places.{state_of}
use Rattle.csv_table.specs.WideRecords.{first_wide}
use Rattle.csv_table.proofs.WideLemmas.{wide_from}
use Rattle.csv_table.proofs.widths.first_wide_record.Given as goal

abbrev pub invariant-loop-byte : goal.invariant-loop-byte
invariant-loop-byte l = record {
  numbered : l.number ≤ l.byte-index + 1;
  counted : l.fields ≤ l.byte-index + 1;
  left : first_wide l.most 1 (records default_config l.text) ≡ wide_from l.most l.number (state_of l.place) l.fields (drop l.byte-index l.text);
}
