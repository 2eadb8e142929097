-- Numbered commands: one more, and their lanes.
use Rattle.std.proofs.Common.{◌≡◌, refl, ap, sym, ◌∙◌, ℕ, ◌+◌, List, [], ◌∷◌, ◌++◌, length, map, arith}
use Rattle.std.specs.List.{enumerate_from}
use Rattle.std.proofs.lemmas.List.{length-map, map_push}
use Rattle.script_model.specs.Commands.{Batch, Command, Task, command_with}
use Rattle.script_model.specs.Lanes.{IsOfLanes}
use Rattle.lake_maker.specs.Made.{numbered, tasks_of}

abbrev from : ℕ → List Task → Batch
from n tasks = map (λ (task : ℕ × Task). command_with task.0 1 task.1) (enumerate_from n tasks)

from_push : (n m : ℕ) (tasks : List Task) (task : Task) → n + length tasks ≡ m → from n (tasks ++ task ∷ []) ≡ from n tasks ++ command_with m 1 task ∷ []
from_push n m [] task e = ap (λ (number : ℕ). command_with number 1 task ∷ []) (omega (arith, e))
from_push n m (t ∷ ts) task e = ap (λ (batch : Batch). command_with n 1 t ∷ batch) (from_push (n + 1) m ts task (omega (arith, e)))

tasks_of_from : (n : ℕ) (tasks : List Task) → tasks_of (from n tasks) ≡ tasks
tasks_of_from n [] = refl
tasks_of_from n (t ∷ ts) = ap (λ (ts : List Task). t ∷ ts) (tasks_of_from (n + 1) ts)

pub numbered_push : (tasks : List Task) (task : Task) → numbered (tasks ++ task ∷ []) ≡ numbered tasks ++ command_with (length tasks + 1) 1 task ∷ []
numbered_push tasks task = from_push 1 (length tasks + 1) tasks task (omega arith)

from_lanes : (n : ℕ) (tasks : List Task) → IsOfLanes 1 (from n tasks)
from_lanes n [] = tt
from_lanes n (t ∷ ts) = ((omega arith, omega arith), from_lanes (n + 1) ts)

pub numbered_lanes : (tasks : List Task) → IsOfLanes 1 (numbered tasks)
numbered_lanes tasks = from_lanes 1 tasks

-- numbered commands stay numbered with one more
pub pushed_is_numbered : (before after : Batch) (number : ℕ) (task : Task) → before ≡ numbered (tasks_of before) → number ≡ length before + 1 → after ≡ before ++ command_with number 1 task ∷ []
    → after ≡ numbered (tasks_of after)
pushed_is_numbered before after number task is_numbered behind pushed =
    let tasks : tasks_of after ≡ tasks_of before ++ task ∷ [] = ap tasks_of pushed ∙ map_push (λ (command : Command). command.task) before (command_with number 1 task) in
    let size : length (tasks_of before) + 1 ≡ number = ap (λ (n : ℕ). n + 1) (length-map before (λ (command : Command). command.task)) ∙ sym behind in
    pushed
    ∙ ap (λ (batch : Batch). batch ++ command_with number 1 task ∷ []) is_numbered
    ∙ ap (λ (n : ℕ). numbered (tasks_of before) ++ command_with n 1 task ∷ []) (sym size)
    ∙ sym (numbered_push (tasks_of before) task)
    ∙ ap numbered (sym tasks)
