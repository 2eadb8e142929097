-- When a lane's answers, and when a record, are right.
use Rattle.std.specs.Prelude.{ℕ, ◌+◌, ◌-◌, ◌==◌, ◌≡◌, ◌≤◌, ◌<◌, ◌⊎◌, ⊤, Bool, true, false, List, [], ◌∷◌, ◌++◌, length, map, take, drop, filter, flat_map, zip}
use Rattle.std.specs.List.{AllByRecursion, enumerate_from}
use Rattle.record_model.specs.Rules.{Rules}
use Rattle.lake_model.specs.Journal.{Entry}
use Rattle.lake_model.specs.Layout.{is_legal}
use Rattle.script_model.specs.Commands.{Command, Batch, updates}
use Rattle.record_model.specs.Replies.{Reply, NoMemory}
use Rattle.record_model.specs.Answered.{answer_to, Standing, Nowhere, Saw, Added, PlannedAndSaw, PlannedAndAdded, standing}
use Rattle.record_model.specs.Record.{Answered, RunRecord}
use Rattle.record_model.specs.Play.{Done, done_with, who_of, entries_of, merger_commands}

-- ---- the positions along a lane

-- a position that a reply shows, and whether it is the position of the reply's own entry
pub record Moment : Type 0 where
  pub own : Bool
  pub at : ℕ

abbrev pub saw : ℕ → Moment
saw at = record { own = false; at = at }

abbrev pub own : ℕ → Moment
own at = record { own = true; at = at }

abbrev pub moments_by : Standing → List Moment
moments_by Nowhere = []
moments_by (Saw at) = saw at ∷ []
moments_by (Added at) = own at ∷ []
moments_by (PlannedAndSaw pinned at) = saw pinned ∷ saw at ∷ []
moments_by (PlannedAndAdded pinned at) = saw pinned ∷ own at ∷ []

abbrev pub moments : List Done → List Moment
moments done = flat_map (λ d. moments_by (standing d.reply)) done

abbrev pub IsBehind : Bool → ℕ → ℕ → Type 0
IsBehind true low at = low < at
IsBehind false low at = low ≤ at

-- the positions never fall, from the lower bound to the upper one, and the position of an own entry is greater than
-- each before it
abbrev pub MomentsRise : ℕ → List Moment → ℕ → Type 0
MomentsRise low [] high = low ≤ high
MomentsRise low (moment ∷ moments) high = IsBehind moment.own low moment.at × MomentsRise moment.at moments high

-- ---- replies

-- the position of the plan or the pin, and the position at which the reply is made
abbrev pub pinned_by : Standing → ℕ
pinned_by Nowhere = 0
pinned_by (Saw at) = at
pinned_by (Added at) = at - 1
pinned_by (PlannedAndSaw pinned at) = pinned
pinned_by (PlannedAndAdded pinned at) = pinned

abbrev pub made_by : Standing → ℕ
made_by Nowhere = 0
made_by (Saw at) = at
made_by (Added at) = at - 1
made_by (PlannedAndSaw pinned at) = at
made_by (PlannedAndAdded pinned at) = at - 1

-- the reply to the command at these positions; a reply with no position is the same at each journal, so also at the
-- empty one
abbrev pub answer_by : Rules → List Entry → Command → Standing → Reply
answer_by rules journal command standing = answer_to rules command.task (take (pinned_by standing) journal) (take (made_by standing) journal)

abbrev pub IsPlaced : Rules → List Entry → Command → Reply → Standing → Type 0
IsPlaced rules journal command reply Nowhere = ⊤
IsPlaced rules journal command reply (Saw at) = reply ≡ answer_by rules journal command (Saw at)
IsPlaced rules journal command reply (Added at) = reply ≡ answer_by rules journal command (Added at)
IsPlaced rules journal command reply (PlannedAndSaw pinned at) = reply ≡ answer_by rules journal command (PlannedAndSaw pinned at)
IsPlaced rules journal command reply (PlannedAndAdded pinned at) = reply ≡ answer_by rules journal command (PlannedAndAdded pinned at)

abbrev pub IsUnplaced : Rules → Command → Reply → Standing → Type 0
IsUnplaced rules command reply Nowhere = (reply ≡ NoMemory) ⊎ (reply ≡ answer_to rules command.task [] [])
IsUnplaced rules command reply (Saw at) = ⊤
IsUnplaced rules command reply (Added at) = ⊤
IsUnplaced rules command reply (PlannedAndSaw pinned at) = ⊤
IsUnplaced rules command reply (PlannedAndAdded pinned at) = ⊤

-- ---- entries

-- a lane's own entries after a journal, with their positions
abbrev pub own_entries : ℕ → List Entry → List Entry → List (ℕ × Entry)
own_entries lane before behind = filter (λ e. e.1.who.caller == lane) (enumerate_from (length before + 1) behind)

abbrev pub at_position : ℕ → List Entry → List (ℕ × Entry)
at_position at entries = map (λ e. (at, e)) entries

-- the entry of an accepted update, at its reply's position; other commands have none
abbrev pub entries_by : Rules → List Entry → Command → Reply → Standing → List (ℕ × Entry)
entries_by rules journal command reply Nowhere = []
entries_by rules journal command reply (Saw at) = []
entries_by rules journal command reply (Added at) = at_position at (entries_of rules (take (at - 1) journal) command reply)
entries_by rules journal command reply (PlannedAndSaw pinned at) = []
entries_by rules journal command reply (PlannedAndAdded pinned at) = at_position at (entries_of rules (take pinned journal) command reply)

abbrev pub accepted : Rules → List Entry → List Done → List (ℕ × Entry)
accepted rules journal done = flat_map (λ d. entries_by rules journal d.command d.reply (standing d.reply)) done

-- ---- a lane's answers between a journal and the same with more entries after it

pub record IsRight (rules : Rules) (lane : ℕ) (before behind : List Entry) (done : List Done) : Type 0 where
  pub entries : own_entries lane before behind ≡ accepted rules (before ++ behind) done
  pub placed : AllByRecursion (λ d. IsPlaced rules (before ++ behind) d.command d.reply (standing d.reply)) done
  pub positions : MomentsRise (length before) (moments done) (length (before ++ behind))
  pub unplaced : AllByRecursion (λ d. IsUnplaced rules d.command d.reply (standing d.reply)) done

-- ---- a record

abbrev pub done_of : ℕ → List Command → List Answered → List Done
done_of lane commands answers = filter (λ d. d.command.lane == lane) (map (λ pair. done_with pair.0 pair.1.reply) (zip commands answers))

abbrev pub between : ℕ → ℕ → List Entry → List Entry
between from to journal = take (to - from) (drop from journal)

-- the answers of a batch with these commands, of which the merger's come last
pub record IsBatchRight (rules : Rules) (lanes : ℕ) (journal : List Entry) (from to : ℕ) (commands : List Command) (answers : List Answered) : Type 0 where
  pub answered : map (λ a. a.who) answers ≡ map who_of commands
  pub each : (lane : ℕ) → lane ≤ lanes → IsRight rules lane (take from journal) (between from to journal) (done_of lane commands answers)

-- there is one sync for each batch, and the syncs rise; every command has one answer
abbrev pub AreBatchesRight : Rules → ℕ → Bool → ℕ → List Entry → ℕ → List Batch → List ℕ → List Answered → Type 0
AreBatchesRight rules lanes merge next journal from [] [] [] = from ≡ length journal
AreBatchesRight rules lanes merge next journal from [] [] (answer ∷ answers) = ⊥
AreBatchesRight rules lanes merge next journal from [] (sync ∷ syncs) answers = ⊥
AreBatchesRight rules lanes merge next journal from (batch ∷ batches) [] answers = ⊥
AreBatchesRight rules lanes merge next journal from (batch ∷ batches) (sync ∷ syncs) answers =
    let commands = batch ++ merger_commands merge next batch in
    (from ≤ sync) × IsBatchRight rules lanes journal from sync commands (take (length commands) answers)
    × AreBatchesRight rules lanes merge (next + updates batch) journal sync batches syncs (drop (length commands) answers)

pub record IsRecordRight (rules : Rules) (lanes : ℕ) (merge : Bool) (batches : List Batch) (made : RunRecord) : Type 0 where
  pub legal : is_legal made.journal ≡ true
  pub callers : AllByRecursion (λ e. e.who.caller ≤ lanes) made.journal
  pub each : AreBatchesRight rules lanes merge 1 made.journal 0 batches made.syncs made.answers
