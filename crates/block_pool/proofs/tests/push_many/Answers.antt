use Rattle.block_pool.proofs.ChangeLemmas.{others_more, others_same}
use Rattle.block_pool.proofs.tests.push_many.Goals as goal

pub loop-i-init : goal.loop-i-init
loop-i-init c = record { own = c.requires; others = others_same c.args.pool.now c.args.to.now }

pub loop-i-preserved : goal.loop-i-preserved
loop-i-preserved c =
    record {
      own = c.in_ok-push_one.ensures.own;
      others = others_more c.args.pool.now c.loop-i.pool c.push_one.new.pool c.args.to.now c.loop-i.to c.push_one.new.to c.loop-i.invariant.others c.in_ok-push_one.ensures.others;
    }
