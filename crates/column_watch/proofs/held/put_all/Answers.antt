use Rattle.std.proofs.Common.{◌∙◌, ◌∷◌, arith}
use Rattle.column_watch.proofs.OrderLemmas.{moved, stays_in_order}
use Rattle.column_watch.proofs.held.put_all.Goals as goal

pub loop-row-preserved : goal.loop-row-preserved
loop-row-preserved c = record {
  order = stays_in_order (c.in-Some.row ∷ c.loop-row.rows.items) c.put.new.rows.items c.put.ensures.rows;
  all = moved c.in-Some.row c.loop-row.rows.items c.loop-row.coming.items c.pop.new.self.items c.put.new.rows.items c.in-Some.ensures.items c.put.ensures.rows ∙ c.loop-row.invariant.all;
  room = omega (arith, c.in-Some.ensures.len, c.put.ensures.len, c.put.ensures.capacity, c.loop-row.invariant.room);
  capacity = omega (arith, c.put.ensures.capacity, c.loop-row.invariant.capacity);
}
