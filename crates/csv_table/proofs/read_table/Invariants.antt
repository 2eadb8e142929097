use Rattle.std.proofs.Common.{◌≤◌}
use Rattle.csv_table.specs.RecordsLeft.{left_of, IsOpen}
use Rattle.csv_table.proofs.TableLemmas.{IsLeft}
use Rattle.csv_table.proofs.read_table.Given as goal

abbrev pub invariant-loop-records : goal.invariant-loop-records
invariant-loop-records l = record {
  ready : IsOpen l.left;
  narrow : l.columns ≤ l.fn.most;
  left : IsLeft l.fn.most l.fn.bytes l.records l.columns l.store (left_of l.left);
}
