-- The laws of play.
use Rattle.std.specs.Prelude.{ℕ, ◌+◌, ◌==◌, ◌≡◌, Bool, false, List, [], ◌∷◌, ◌++◌, get_or, length, sum_by}
use Rattle.std.specs.List.{AllByRecursion}
use Rattle.record_model.specs.Rules.{Rules}
use Rattle.lake_model.specs.Journal.{Entry}
use Rattle.script_model.specs.Commands.{Command, Batch, updates}
use Rattle.script_model.specs.Options.{Options}
use Rattle.record_model.specs.Record.{RunRecord}
use Rattle.record_model.specs.Play.{Done, IsPlayed, batch_after, merger_commands, played_from}
use Rattle.record_model.specs.Right.{IsRecordRight, IsRight}
use Rattle.record_model.specs.InTurn.{after_command, in_turn, with_sync, IsOneLane}
use Rattle.script_model.specs.Lanes.{IsOfLanes}

-- What was played is right, in whatever order it was played, wherever memory ran out, with merges and a merger.
abbrev pub PlayedIsRight : Type 0
PlayedIsRight = (rules : Rules) (options : Options) (batches : List Batch) (made : RunRecord) → AllByRecursion (IsOfLanes options.lanes) batches
    → IsPlayed rules options batches made → IsRecordRight rules options.lanes options.merge batches made

-- One more command in turn is answered after all the others.
abbrev pub GoesOnInTurn : Type 0
GoesOnInTurn = (rules : Rules) (commands : List Command) (denials : List Bool) (command : Command) (denied : Bool) (before : RunRecord) → length denials ≡ length commands
    → in_turn rules (commands ++ command ∷ []) (denials ++ denied ∷ []) before ≡ after_command rules (in_turn rules commands denials before) command denied

-- The record of answering the commands of a one-lane batch in turn is that of the batch played without a stated order,
-- in which memory runs out at some turns or at none.
abbrev pub BatchIsPlayed : Type 0
BatchIsPlayed = (rules : Rules) (batch : Batch) (denials : List Bool) (before : RunRecord) → IsOneLane batch
    → (turns : List Bool) × (batch_after rules 1 batch [] [] turns before ≡ with_sync (in_turn rules batch denials before))

-- One more batch is played after the others, with the piece at its place in the order, where `next` was the merger's
-- next number before the others.
abbrev pub BatchesGoOn : Type 0
BatchesGoOn = (rules : Rules) (lanes : ℕ) (merge : Bool) (next : ℕ) (batches : List Batch) (batch : Batch) (pieces : List (List ℕ)) (denials : List (List Bool)) (turns : List Bool) (before : RunRecord)
    → length denials ≡ length batches
    → played_from rules lanes merge next (batches ++ batch ∷ []) pieces (denials ++ turns ∷ []) before
    ≡ batch_after rules lanes batch (merger_commands merge (next + sum_by updates batches) batch) (get_or pieces (length batches) []) turns (played_from rules lanes merge next batches pieces denials before)

-- Right answers of a lane stay right when entries of other callers follow.
abbrev pub AnswersStayRight : Type 0
AnswersStayRight = (rules : Rules) (lane : ℕ) (before behind more : List Entry) (done : List Done) → AllByRecursion (λ e. (e.who.caller == lane) ≡ false) more
    → IsRight rules lane before behind done → IsRight rules lane before (behind ++ more) done

-- Two lists of a lane's answers, one right up to a journal and the other from there on, are right in a row.
abbrev pub AnswersGoOn : Type 0
AnswersGoOn = (rules : Rules) (lane : ℕ) (before behind more : List Entry) (done later : List Done) → IsRight rules lane before behind done
    → IsRight rules lane (before ++ behind) more later → IsRight rules lane before (behind ++ more) (done ++ later)
