use Rattle.std.proofs.Common.{sym}
use Rattle.csv_table.proofs.SplitLemmas.{column_count-split_records}
use Rattle.csv_table.proofs.RawTable.columns.Goals as goal

pub returns-clause-value : goal.returns-clause-value
returns-clause-value c = rw (← c.self.view_is) (sym (column_count-split_records _ _ _ c.self.invariant.1 c.self.invariant.0))
