use Rattle.std.proofs.Common.{◌*◌, ◌≤◌, length, sum_by, take}
use Rattle.lake_model.specs.Tables.{members}
use Rattle.search_tests.proofs.making.are_few.Given as goal

abbrev pub invariant-loop-table : goal.invariant-loop-table
invariant-loop-table l = record {
  columns : sum_by (λ t. length t.columns) (take l.table-index l.tables) ≤ 1000 * l.table-index;
  members : sum_by members (take l.table-index l.tables) ≤ 1000 * l.table-index;
}
