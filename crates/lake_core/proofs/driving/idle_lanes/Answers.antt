use Rattle.lake_core.proofs.ShareLemmas.{shared_idle}
use Rattle.lake_core.proofs.driving.idle_lanes.Goals as goal

pub loop-made-preserved : goal.loop-made-preserved
loop-made-preserved c =
    shared_idle c.loop-made._made c.loop-made.all.items c.push-in-loop-made.new.self.items c.new-in-loop-made.result c.loop-made.invariant c.new-in-loop-made.ensures c.in_ok-push-2.ensures.items
