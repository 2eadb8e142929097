use Rattle.std.proofs.Common.{◌≡◌, ◌++◌, false, map}
use Rattle.std.specs.List.{range_with_len}
use Rattle.script_model.specs.Commands.{command_with, Merge}
use Rattle.batch_work.specs.Works.{works_of}
use Rattle.batch_work.proofs.work.add_merges.Given as goal

abbrev pub invariant-loop-added : goal.invariant-loop-added
invariant-loop-added l = works_of l.works.items ≡ works_of l.initial.works.items ++ map (λ n. command_with n 0 (Merge false)) (range_with_len l.first l.added)
