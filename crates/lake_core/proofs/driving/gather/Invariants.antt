use Rattle.batch_work.specs.Works.{works_of}
use Rattle.lake_core.proofs.GatherLemmas.{Gathers}
use Rattle.lake_core.proofs.driving.gather.Given as goal

abbrev pub invariant-loop-work : goal.invariant-loop-work
invariant-loop-work l = Gathers (works_of l.works) l.work-index l.initial.lanes l.lanes l.initial.out l.out
