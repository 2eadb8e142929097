use Rattle.std.proofs.Common.{rules}
use Rattle.std.specs.Ordering.{is_lt}
use Rattle.std.proofs.lemmas.List.Sorted.{IsPartitionPoint-from_clause}
use Rattle.lake_model.specs.Answer.{Row, row_cmp}
use Rattle.column_watch.proofs.OrderLemmas.{parted, put_at}
use Rattle.column_watch.proofs.held.index_for.Goals as goal

pub returns-clause-put : goal.returns-clause-put
returns-clause-put c =
    let rows = c.args.rows.now in
    let row = c.args.row.now in
    let at = c.partition_point.result in
    let point = IsPartitionPoint-from_clause (λ (y : Row). is_lt (row_cmp y row)) rows at c.partition_point.ensures.partitioned (parted row rows c.requires) (λ a r f' called. search rules) in
    put_at row rows at c.partition_point.ensures.bound point.0 point.1
