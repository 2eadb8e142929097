use Rattle.block_pool.specs.Chains.{AreTwo}
use Rattle.block_pool.proofs.tests.random_changes.Given as goal

abbrev pub invariant-loop : goal.invariant-loop
invariant-loop g l = AreTwo l.pool l.a l.b
