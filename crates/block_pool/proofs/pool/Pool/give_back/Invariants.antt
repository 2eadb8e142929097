use Rattle.std.proofs.Common.{◌<◌, ◌^◌, length}
use Rattle.block_pool.specs.Chains.{blocks_for, IsGiving}
use Rattle.block_pool.proofs.pool.Pool.give_back.Given as goal

abbrev pub invariant-loop : goal.invariant-loop
invariant-loop l = record {
  few : length l.fn.self.blocks < 2 ^ 32;
  giving : IsGiving l.fn.self l.self l.fn.what.first (blocks_for l.fn.what.length) l.counter l.number;
}
