-- What a lane has to do, as a command of the definitions.
use Rattle.std.specs.Prelude.{ℕ, ◌≤◌, false, List, map, Option, Some, None}
use Rattle.std.specs.List.{AllByRecursion}
use Rattle.lake_model.specs.declared.Policy.{Policy}
use Rattle.script_model.specs.Commands.{Command, command_with, Task, Load, LoadFile, DropTable, Replace, Tables, Search, Like, Contain, AsOf, Merge, Batch}
use Rattle.record_model.specs.Answered.{policy_of}
use Rattle.batch_work.specs.declared.work.Work.{Work}
use Rattle.batch_work.specs.declared.work.Work.TheVariants as work

abbrev pub work_of : Work → Command
work_of (work.Given command) = command.now
work_of (work.Merge number) = command_with number 0 (Merge false)

abbrev pub works_of : List Work → Batch
works_of works = map work_of works

-- every command is of a lane up to n, or the merger's
abbrev pub IsWithinLanes : ℕ → Batch → Type 0
IsWithinLanes n batch = AllByRecursion (λ command. command.lane ≤ n) batch

-- the policy of a merge
abbrev pub merge_policy : Task → Option Policy
merge_policy (Load name body) = None
merge_policy (LoadFile name file) = None
merge_policy (DropTable name) = None
merge_policy (Replace name body) = None
merge_policy Tables = None
merge_policy (Search k body) = None
merge_policy (Like k name place) = None
merge_policy (Contain a b body) = None
merge_policy (AsOf asked k body) = None
merge_policy (Merge all) = Some (policy_of all)
