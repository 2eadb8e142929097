use Rattle.std.proofs.Common.{◌≡◌, ◌+◌, length}
use Rattle.block_pool.specs.Chains.{AllKept}
use Rattle.block_pool.proofs.pool.Pool.reserve.Given as goal

abbrev pub invariant-loop : goal.invariant-loop
invariant-loop l = record {
  spare : length l.self.free ≡ length l.fn.self.free + l.counter;
  blocks : length l.self.blocks ≡ length l.fn.self.blocks + l.counter;
  kept : AllKept l.fn.self l.self;
}
