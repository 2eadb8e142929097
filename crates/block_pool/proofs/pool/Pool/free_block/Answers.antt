use Rattle.std.proofs.Common.{◌<◌, ◌≢◌, subst, sym, length, arith}
use Rattle.block_pool.specs.Blocks.{block_of, nobody, Blocks}
use Rattle.block_pool.proofs.GiveLemmas.{room_to_free}
use Rattle.block_pool.proofs.KeptLemmas.{pool_with}
use Rattle.block_pool.proofs.pool.Pool.free_block.Goals as goal

pub unreachable-requires : goal.unreachable-requires
unreachable-requires c =
    let held = c.self.inside in
    let pool = pool_with held.blocks.items held.slots.items held.free.items in
    let there = subst (λ (p : Blocks). c.args.number < length p.blocks) (sym c.self.view_is) c.requires.there in
    let owned = subst (λ (p : Blocks). (block_of p.blocks c.args.number).owner ≢ nobody) (sym c.self.view_is) c.requires.owned in
    omega (arith, room_to_free pool c.args.number c.self.invariant.0 there owned, c.self.invariant.1, c.in-Err.ensures.full)
