use Rattle.std.proofs.Common.{◌≡◌, ◌+◌, ◌++◌, take, drop}
use Rattle.csv.specs.Records.{fields_of}
use Rattle.lake_model.specs.Records.{text_fault}
use Rattle.csv_table.proofs.records_left.add_fields.Given as goal

abbrev pub invariant-loop-i : goal.invariant-loop-i
invariant-loop-i l = record {
  row : l.field-iterator.row.now ≡ l.row;
  at : l.field-iterator.at ≡ l.i;
  added : l.store ≡ l.fn.store ++ take l.i (fields_of l.row);
  text : text_fault l.number 1 (fields_of l.row) ≡ text_fault l.number (l.i + 1) (drop l.i (fields_of l.row));
}
