-- The tests of a checker, reply by reply and entry by entry, which decide whether a record is right.
use Rattle.std.specs.Prelude.{ℕ, ◌+◌, ◌-◌, ◌≡◌, ◌≤◌, Bool, true, false, ◌&&◌, nat_lt, nat_le, List, [], ◌∷◌, ◌++◌, length, map, take, drop, zip, slice_get, Some}
use Rattle.std.specs.List.{AllByRecursion}
use Rattle.record_model.specs.Rules.{Rules}
use Rattle.lake_model.specs.Journal.{Entry}
use Rattle.lake_model.specs.Layout.{is_legal}
use Rattle.script_model.specs.Commands.{Command, Batch}
use Rattle.record_model.specs.Record.{Answered, RunRecord}
use Rattle.record_model.specs.Play.{Done, done_with, who_of, merger_commands}
use Rattle.script_model.specs.Commands.{updates}
use Rattle.script_model.specs.Lanes.{IsOfLanes}
use Rattle.record_model.specs.Right.{Moment, MomentsRise, moments, done_of, accepted, IsRecordRight}
use Rattle.trace_laws.specs.Hints.{hint_of, reply_by}

-- ---- positions

abbrev pub is_behind : Bool → ℕ → ℕ → Bool
is_behind true low at = nat_lt low at
is_behind false low at = nat_le low at

-- whether the positions never fall, from the lower bound to the upper one, and the position of an own entry is greater
-- than each before it
abbrev pub rises : ℕ → List Moment → ℕ → Bool
rises low [] high = nat_le low high
rises low (moment ∷ moments) high = is_behind moment.own low moment.at && rises moment.at moments high

abbrev pub PositionsDecide : Type 0
PositionsDecide = (low : ℕ) (moments : List Moment) (high : ℕ) → (rises low moments high ≡ true → MomentsRise low moments high) × (MomentsRise low moments high → rises low moments high ≡ true)

-- ---- a batch

-- the commands with their replies, in the order of the script
abbrev pub dones : List Command → List Answered → List Done
dones commands answers = map (λ pair. done_with pair.0 pair.1.reply) (zip commands answers)

-- the reply is the one that is made again at the positions that it shows
abbrev pub IsMadeAgain : Rules → List Entry → Done → Type 0
IsMadeAgain rules journal d = d.reply ≡ reply_by rules journal d.command (hint_of d.reply)

-- each of these entries is in the journal, at its position
abbrev pub AreEntered : List Entry → List (ℕ × Entry) → Type 0
AreEntered journal entries = AllByRecursion (λ e. slice_get journal (e.0 - 1) ≡ Some e.1) entries

-- Each reply is the same when it is made again, each accepted update has its entry, there are as many of these as
-- entries, and the positions rise along each lane. The entries of single lanes are not mentioned.
pub record IsBatchChecked (rules : Rules) (lanes : ℕ) (journal : List Entry) (from to : ℕ) (commands : List Command) (answers : List Answered) : Type 0 where
  pub answered : map (λ a. a.who) answers ≡ map who_of commands
  pub again : AllByRecursion (IsMadeAgain rules journal) (dones commands answers)
  pub entered : AreEntered journal (accepted rules journal (dones commands answers))
  pub many : to ≡ from + length (accepted rules journal (dones commands answers))
  pub rising : (lane : ℕ) → lane ≤ lanes → rises from (moments (done_of lane commands answers)) to ≡ true

abbrev pub AreBatchesChecked : Rules → ℕ → Bool → ℕ → List Entry → ℕ → List Batch → List ℕ → List Answered → Type 0
AreBatchesChecked rules lanes merge next journal from [] [] [] = from ≡ length journal
AreBatchesChecked rules lanes merge next journal from [] [] (answer ∷ answers) = ⊥
AreBatchesChecked rules lanes merge next journal from [] (sync ∷ syncs) answers = ⊥
AreBatchesChecked rules lanes merge next journal from (batch ∷ batches) [] answers = ⊥
AreBatchesChecked rules lanes merge next journal from (batch ∷ batches) (sync ∷ syncs) answers =
    let commands = batch ++ merger_commands merge next batch in
    IsBatchChecked rules lanes journal from sync commands (take (length commands) answers)
    × AreBatchesChecked rules lanes merge (next + updates batch) journal sync batches syncs (drop (length commands) answers)

pub record IsRecordChecked (rules : Rules) (lanes : ℕ) (merge : Bool) (batches : List Batch) (made : RunRecord) : Type 0 where
  pub legal : is_legal made.journal ≡ true
  pub callers : AllByRecursion (λ e. e.who.caller ≤ lanes) made.journal
  pub each : AreBatchesChecked rules lanes merge 1 made.journal 0 batches made.syncs made.answers

-- A record is right exactly if it passes the tests.
abbrev pub ChecksDecide : Type 0
ChecksDecide = (rules : Rules) (lanes : ℕ) (merge : Bool) (batches : List Batch) (made : RunRecord) → AllByRecursion (IsOfLanes lanes) batches
    → (IsRecordChecked rules lanes merge batches made → IsRecordRight rules lanes merge batches made) × (IsRecordRight rules lanes merge batches made → IsRecordChecked rules lanes merge batches made)
