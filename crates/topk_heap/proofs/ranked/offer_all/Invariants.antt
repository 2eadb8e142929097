use Rattle.std.proofs.Common.{◌≡◌, ◌≤◌, drop, length}
use Rattle.lake_model.specs.Answer.{row_cmp}
use Rattle.lake_model.specs.Sorting.{in_order}
use Rattle.topk_heap.specs.Ranked.{rows_in}
use Rattle.topk_heap.proofs.ranked.offer_all.Given as goal

abbrev pub invariant-loop-left : goal.invariant-loop-left
invariant-loop-left l = record {
  within : l.left ≤ length l.entries;
  k : l.top.k ≡ l.fn.top.k;
  rows : l.top.rows ≡ in_order row_cmp (rows_in l.titles (drop l.left l.entries));
}

abbrev pub decreases-loop-left : goal.decreases-loop-left
decreases-loop-left l = l.left
