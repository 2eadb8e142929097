-- The record that the commands of a script and the hints of a text determine.
use Rattle.std.specs.Prelude.{ℕ, zero, suc, ◌+◌, ◌==◌, ◌≡◌, Bool, false, List, [], ◌∷◌, ◌++◌, length, map, take, drop, find, Option, Some, None}
use Rattle.std.specs.List.{AllByRecursion}
use Rattle.record_model.specs.Rules.{Rules}
use Rattle.lake_model.specs.Journal.{Entry, entry_with}
use Rattle.script_model.specs.Commands.{Command, Batch}
use Rattle.record_model.specs.Answered.{Standing, Nowhere, Saw, Added, PlannedAndSaw, PlannedAndAdded, change_of}
use Rattle.record_model.specs.Record.{Answered, answered_with, RunRecord}
use Rattle.record_model.specs.Play.{Done, who_of, merger_commands}
use Rattle.script_model.specs.Commands.{updates}
use Rattle.script_model.specs.Lanes.{IsOfLanes}
use Rattle.record_model.specs.Right.{pinned_by, IsRecordRight}
use Rattle.trace_laws.specs.Hints.{Hint, Wanting, Stands, hint_of, reply_by}
use Rattle.trace_laws.specs.Checks.{dones}

-- a command, and the hint of its answer
pub record Hinted : Type 0 where
  pub command : Command
  pub hint : Hint

abbrev pub hinted_with : Command → Hint → Hinted
hinted_with command hint = record { command = command; hint = hint }

-- whether the answer is that of the update that made the entry at the position
abbrev pub stands_at : ℕ → Standing → Bool
stands_at n Nowhere = false
stands_at n (Saw at) = false
stands_at n (Added at) = at == n
stands_at n (PlannedAndSaw pinned at) = false
stands_at n (PlannedAndAdded pinned at) = at == n

abbrev pub is_at : ℕ → Hint → Bool
is_at n Wanting = false
is_at n (Stands s) = stands_at n s

abbrev pub pinned_of : Hint → ℕ
pinned_of Wanting = 0
pinned_of (Stands s) = pinned_by s

-- the entry that the update with the next position adds to a journal
abbrev pub put_by : Rules → List Entry → Option Hinted → List Entry
put_by rules journal None = []
put_by rules journal (Some h) = map (entry_with (who_of h.command)) (change_of rules h.command.task (take (pinned_of h.hint) journal))

-- the first n entries
abbrev pub rebuilt : Rules → List Hinted → ℕ → List Entry
rebuilt rules hinted zero = []
rebuilt rules hinted (suc n) = rebuilt rules hinted n ++ put_by rules (rebuilt rules hinted n) (find (λ h. is_at (suc n) h.hint) hinted)

-- all commands of a run with their answers
abbrev pub all_dones : Bool → ℕ → List Batch → List Answered → List Done
all_dones merge next [] answers = []
all_dones merge next (batch ∷ batches) answers =
    let commands = batch ++ merger_commands merge next batch in
    dones commands (take (length commands) answers) ++ all_dones merge (next + updates batch) batches (drop (length commands) answers)

abbrev pub hinted_of : List Done → List Hinted
hinted_of done = map (λ d. hinted_with d.command (hint_of d.reply)) done

abbrev pub answer_again : Rules → List Entry → Hinted → Answered
answer_again rules journal h = answered_with (who_of h.command) (reply_by rules journal h.command h.hint)

-- A right record is the one that its commands and the hints of its answers determine.
abbrev pub HintsTell : Type 0
HintsTell = (rules : Rules) (lanes : ℕ) (merge : Bool) (batches : List Batch) (made : RunRecord) → AllByRecursion (IsOfLanes lanes) batches → IsRecordRight rules lanes merge batches made
    → let hinted = hinted_of (all_dones merge 1 batches made.answers) in (rebuilt rules hinted (length made.journal) ≡ made.journal) × (map (answer_again rules made.journal) hinted ≡ made.answers)
