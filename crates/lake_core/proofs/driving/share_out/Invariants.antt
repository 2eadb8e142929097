use Rattle.std.proofs.Common.{take}
use Rattle.batch_work.specs.Works.{works_of}
use Rattle.lake_core.specs.Lanes.{AreShared}
use Rattle.lake_core.proofs.driving.share_out.Given as goal

abbrev pub invariant-loop-work : goal.invariant-loop-work
invariant-loop-work l = AreShared l.lanes (take l.work-index (works_of l.works)) l.all.items
