use Rattle.std.proofs.Common.{◌≤◌}
use Rattle.csv_table.proofs.field_ends.Given as goal

abbrev pub invariant-loop-byte : goal.invariant-loop-byte
invariant-loop-byte l = record {
  few : l.ends ≤ l.byte-index;
}
