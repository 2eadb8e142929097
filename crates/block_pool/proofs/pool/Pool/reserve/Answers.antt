use Rattle.std.proofs.Common.{arith}
use Rattle.block_pool.proofs.GiveLemmas.{all_kept, kept_self}
use Rattle.block_pool.proofs.pool.Pool.reserve.Goals as goal

pub loop-init : goal.loop-init
loop-init c = record { spare = omega arith; blocks = omega arith; kept = kept_self c.args.self.now }

pub loop-preserved : goal.loop-preserved
loop-preserved c =
    let before = c.loop.invariant in
    record {
      spare = omega (arith, before.spare, c.in_ok-add_spare.ensures.spare);
      blocks = omega (arith, before.blocks, c.in_ok-add_spare.ensures.blocks);
      kept = all_kept c.args.self.now c.loop.self c.add_spare.new.self before.kept c.in_ok-add_spare.ensures.kept;
    }

pub add_spare-requires : goal.add_spare-requires
add_spare-requires c = omega (arith, c.loop.invariant.blocks, c.requires, c.loop-test.true)

pub returns-in_err-add_spare-clause-kept : goal.returns-in_err-add_spare-clause-kept
returns-in_err-add_spare-clause-kept c = all_kept c.args.self.now c.loop.self c.add_spare.new.self c.loop.invariant.kept c.in_err-add_spare.ensures.kept
