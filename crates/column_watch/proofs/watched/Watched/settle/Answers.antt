use Rattle.std.proofs.Common.{arith}
use Rattle.column_watch.proofs.OrderLemmas.{stays_in_order}
use Rattle.column_watch.proofs.watched.Watched.settle.Goals as goal

pub invariant_of-self : goal.invariant_of-self
invariant_of-self c = (stays_in_order _ _ c.put_all.ensures.rows, omega (arith, c.put_all.ensures.none, c.put_all.ensures.room))
