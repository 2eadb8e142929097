use Rattle.block_pool.proofs.KeptLemmas.{none_of}
use Rattle.block_pool.proofs.pool.Pool.chain.Goals as goal

pub returns-clause-own : goal.returns-clause-own
returns-clause-own c = none_of c.args.self.now c.empty.result c.empty.ensures
