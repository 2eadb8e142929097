use Rattle.std.proofs.Common.{arith}
use Rattle.column_watch.proofs.OrderLemmas.{none_in_order}
use Rattle.column_watch.proofs.watched.Watched.new.Goals as goal

pub invariant_of-result : goal.invariant_of-result
invariant_of-result c = (none_in_order c.new.result.items c.new.ensures.items, omega (arith, c.new.ensures.len, c.new-2.ensures.len))
