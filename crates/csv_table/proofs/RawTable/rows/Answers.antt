use Rattle.std.proofs.Common.{arith}
use Rattle.csv_table.proofs.SplitLemmas.{length-split_records}
use Rattle.csv_table.proofs.RawTable.rows.Goals as goal

pub returns : goal.returns
returns c = rw (← c.self.view_is, length-split_records) (omega (arith, c.self.invariant.1))
