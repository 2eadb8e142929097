use Rattle.std.proofs.Common.{◌*◌, ◌≤◌, length, sum_by}
use Rattle.lake_model.specs.Tables.{members}
use Rattle.index_tests.proofs.segment_build_tests.numbered_tables.Given as goal

abbrev pub invariant-loop-number : goal.invariant-loop-number
invariant-loop-number l =
    record { columns : sum_by (λ t. length t.columns) l.tables.items ≤ 3 * l.number; members : sum_by members l.tables.items ≤ 3 * l.number }
