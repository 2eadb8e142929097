use Rattle.std.proofs.Common.{ap, arith, length}
use Rattle.topk_heap.proofs.top.len_counts_rows.Goals as goal

pub returns : goal.returns
returns c = omega (arith, c.as_slice.ensures.len, ap length c.as_slice.ensures.value)
