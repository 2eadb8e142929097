use Rattle.block_pool.specs.Chains.{IsOf, KeepsOthers}
use Rattle.block_pool.proofs.tests.push_many.Given as goal

abbrev pub invariant-loop-i : goal.invariant-loop-i
invariant-loop-i l = record {
  own : IsOf l.pool l.to;
  others : KeepsOthers l.fn.pool l.pool l.fn.to l.to;
}
