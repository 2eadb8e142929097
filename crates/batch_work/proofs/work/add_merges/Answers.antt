use Rattle.batch_work.specs.Works.{works_of}
use Rattle.batch_work.proofs.WorkLemmas.{merge_more}
use Rattle.batch_work.proofs.work.add_merges.Goals as goal

pub loop-added-preserved : goal.loop-added-preserved
loop-added-preserved c = merge_more c.args.first c.loop-added.added (works_of c.args.works.now.items) c.loop-added.works.items c.push.new.self.items c.loop-added.invariant c.in_ok-push.ensures.items
