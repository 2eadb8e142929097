use Rattle.std.proofs.Common.{◌≡◌, ◌≤◌, ◌+◌, ◌++◌, vec_capacity, vec_len}
use Rattle.lake_model.specs.Answer.{row_cmp}
use Rattle.lake_model.specs.Sorting.{in_order}
use Rattle.column_watch.proofs.held.put_all.Given as goal

abbrev pub invariant-loop-row : goal.invariant-loop-row
invariant-loop-row l = record {
  order : l.rows.items ≡ in_order row_cmp l.rows.items;
  all : in_order row_cmp (l.rows.items ++ l.coming.items) ≡ in_order row_cmp (l.initial.rows.items ++ l.initial.coming.items);
  room : vec_len l.rows + vec_len l.coming ≤ vec_capacity l.rows;
  capacity : vec_capacity l.initial.rows ≤ vec_capacity l.rows;
}

abbrev pub decreases-loop-row : goal.decreases-loop-row
decreases-loop-row l = goal.left-loop-row l
