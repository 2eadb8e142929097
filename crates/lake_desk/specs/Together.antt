-- The desks of a run between two batches, and what a batch adds to the record.
use Rattle.std.specs.Prelude.{ℕ, ◌+◌, ◌≡◌, ◌≤◌, true, false, List, [], ◌∷◌, ◌++◌, length, slice_get, Some}
use Rattle.std.specs.List.{AllByRecursion}
use Rattle.atomic_table.specs.Seated.{TableId}
use Rattle.record_model.specs.Rules.{Rules}
use Rattle.lake_model.specs.Journal.{Entry}
use Rattle.lake_model.specs.Layout.{is_legal}
use Rattle.turn_lock.specs.Passes.{Known}
use Rattle.script_model.specs.Commands.{Command}
use Rattle.record_model.specs.Record.{Answered, RunRecord}
use Rattle.record_model.specs.InTurn.{with_sync, with_answers}
use Rattle.record_model.specs.Right.{IsBatchRight}

-- The desks have one lock, are numbered from 0, hold no turn, and have each seen the whole journal. The first is that
-- of the pass that gave the others their numbers.
pub record AreTogether (lanes : ℕ) (journal : List Entry) (desks : List (Known Entry)) : Type 0 where
  pub lock : TableId
  pub count : length desks ≡ lanes + 1
  pub each : (l : ℕ) (desk : Known Entry) → slice_get desks l ≡ Some desk → (desk.lock ≡ lock) × (desk.caller ≡ l) × (desk.holds ≡ false) × (desk.seen ≡ journal)
  pub opening : (desk : Known Entry) → slice_get desks 0 ≡ Some desk → desk.given ≡ Some (lanes + 1)

-- The record got one more batch: the entries that it made, one answer for each command, and the length of the journal
-- after it. The journal is legal and its callers are these lanes and the merger, and each lane's answers are right
-- between the journal before the batch and the one after it.
pub record IsOneBatchMore (rules : Rules) (lanes : ℕ) (commands : List Command) (before now : RunRecord) : Type 0 where
  pub behind : List Entry
  pub answers : List Answered
  pub journal_is : now.journal ≡ before.journal ++ behind
  pub answers_are : now.answers ≡ before.answers ++ answers
  pub syncs_are : now.syncs ≡ before.syncs ++ length now.journal ∷ []
  pub options_are : now.options ≡ before.options
  pub ended_is : now.ended ≡ before.ended
  pub legal : is_legal now.journal ≡ true
  pub callers : AllByRecursion (λ e. e.who.caller ≤ lanes) now.journal
  pub right : IsBatchRight rules lanes now.journal (length before.journal) (length now.journal) commands answers

-- the record with more entries
abbrev pub with_entries : List Entry → RunRecord → RunRecord
with_entries entries made = record made { journal = made.journal ++ entries }

-- the record with the answers of one more batch, the entries that it made, and its end
abbrev pub with_batch : List Answered → List Entry → RunRecord → RunRecord
with_batch answers behind made = with_sync (with_entries behind (with_answers answers made))
