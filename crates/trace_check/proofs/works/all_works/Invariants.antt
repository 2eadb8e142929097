use Rattle.std.proofs.Common.{◌≡◌, ◌++◌, drop, take}
use Rattle.std.specs.List.{AllByRecursion}
use Rattle.trace_laws.specs.Verdict.{all_commands}
use Rattle.batch_work.specs.Named.{HaveNames}
use Rattle.batch_work.specs.Works.{works_of}
use Rattle.trace_check.proofs.works.all_works.Given as goal

abbrev pub invariant-loop-batch : goal.invariant-loop-batch
invariant-loop-batch l = (works_of l.works.items ++ all_commands l.merge l.next (drop l.batch-index l.batches) ≡ all_commands l.merge 1 l.batches) × AllByRecursion HaveNames (take l.batch-index l.batches)
