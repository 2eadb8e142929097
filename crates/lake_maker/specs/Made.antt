-- The parts of the batch of a made lake.
use Rattle.std.specs.Prelude.{ℕ, ◌+◌, ◌%◌, ◌==◌, if◌then◌else◌, List, [], ◌∷◌, map, false}
use Rattle.std.specs.List.{enumerate_from}
use Rattle.lake_model.specs.Texts.{Text}
use Rattle.script_model.specs.Commands.{Batch, Task, Load, Like, Merge, command_with}
use Rattle.option_model.specs.Generator.{draw, table_name}

-- the commands of lane 1 with these tasks, numbered from 1
abbrev pub numbered : List Task → Batch
numbered tasks = map (λ task. command_with task.0 1 task.1) (enumerate_from 1 tasks)

abbrev pub tasks_of : Batch → List Task
tasks_of batch = map (λ command. command.task) batch

-- a merge after every fourth table
abbrev pub merge_behind : ℕ → List Task
merge_behind number = if number % 4 == 0 then Merge false ∷ [] else []

-- the load of a table with this number and these bytes
abbrev pub load_with : ℕ → Text → List Task
load_with number body = Load (table_name number) body ∷ merge_behind number

-- the search that the two draws from a state choose, among `tables` tables
abbrev pub search_at : ℕ → ℕ → Task
search_at state tables = Like 10 (table_name (1 + draw state 0 % tables)) (1 + draw state 1 % 3)
