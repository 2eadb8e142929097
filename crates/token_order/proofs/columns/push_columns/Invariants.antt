use Rattle.std.proofs.Common.{take}
use Rattle.lake_model.specs.Tables.{sets_of}
use Rattle.search_model.specs.Arrays.{all_of, table_at}
use Rattle.search_model.specs.Segment.{columns_in}
use Rattle.token_order.specs.Columns.{AreMoreColumns}
use Rattle.token_order.proofs.columns.push_columns.Given as goal

abbrev pub invariant-loop-i : goal.invariant-loop-i
invariant-loop-i l = AreMoreColumns l.tables l.fn.columns.items l.columns.items (take l.i (columns_in l.table (table_at l.tables l.table))) (all_of (take l.i (sets_of (table_at l.tables l.table)))) l.first
