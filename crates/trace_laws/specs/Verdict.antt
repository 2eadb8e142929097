-- The verdict on a trace: whether it is the text of a right record. Only one record has to be considered.
use Rattle.std.specs.Prelude.{ℕ, ◌+◌, ◌^◌, ◌<◌, ◌≡◌, Bool, true, List, [], ◌∷◌, ◌++◌, length, map, take, drop, zip}
use Rattle.std.specs.List.{AllByRecursion}
use Rattle.record_model.specs.Rules.{Rules}
use Rattle.lake_model.specs.Texts.{Text}
use Rattle.script_model.specs.Commands.{Command, Batch}
use Rattle.record_model.specs.Answered.{Nowhere, Saw, Added, PlannedAndSaw, PlannedAndAdded}
use Rattle.script_model.specs.Options.{Options}
use Rattle.record_model.specs.Record.{RunRecord}
use Rattle.script_model.specs.Commands.{updates}
use Rattle.record_model.specs.Play.{merger_commands}
use Rattle.script_model.specs.Lanes.{IsOfLanes}
use Rattle.record_model.specs.Right.{IsRecordRight}
use Rattle.record_model.specs.Texts.{text}
use Rattle.trace_laws.specs.Hints.{Hint, Wanting, Stands}
use Rattle.trace_laws.specs.Rebuilt.{Hinted, hinted_with, rebuilt, answer_again}
use Rattle.trace_laws.specs.Reading.{hint_read, groups_of}
use Rattle.trace_laws.specs.Named.{IsBatchNamed, IsRecordNamed}

-- the trace is the text of this ended record with these options, which is right for the batches
pub record IsTraceOf (rules : Rules) (options : Options) (batches : List Batch) (trace : Text) (made : RunRecord) : Type 0 where
  pub right : IsRecordRight rules options.lanes options.merge batches made
  pub options_are : made.options ≡ options
  pub ended : made.ended ≡ true
  pub is : text made ≡ trace

-- ---- the record that the hints of a trace determine

-- the commands of a run, in each batch the merger's last
abbrev pub all_commands : Bool → ℕ → List Batch → List Command
all_commands merge next [] = []
all_commands merge next (batch ∷ batches) = (batch ++ merger_commands merge next batch) ++ all_commands merge (next + updates batch) batches

abbrev pub hinted_zip : List Command → List Hint → List Hinted
hinted_zip commands hints = map (λ pair. hinted_with pair.0 pair.1) (zip commands hints)

abbrev pub puts_one : Hint → ℕ
puts_one Wanting = 0
puts_one (Stands Nowhere) = 0
puts_one (Stands (Saw at)) = 0
puts_one (Stands (Added at)) = 1
puts_one (Stands (PlannedAndSaw pinned at)) = 0
puts_one (Stands (PlannedAndAdded pinned at)) = 1

-- the number of accepted updates
abbrev pub counted : List Hinted → ℕ
counted [] = 0
counted (h ∷ hinted) = puts_one h.hint + counted hinted

-- the length of the journal after each batch, which is the number of updates accepted so far
abbrev pub syncs_from : Bool → ℕ → ℕ → List Batch → List Hint → List ℕ
syncs_from merge next from [] hints = []
syncs_from merge next from (batch ∷ batches) hints =
    let commands = batch ++ merger_commands merge next batch in
    let sync = from + counted (hinted_zip commands (take (length commands) hints)) in
    sync ∷ syncs_from merge (next + updates batch) sync batches (drop (length commands) hints)

abbrev pub remade_of : Rules → Options → List Batch → List Hint → RunRecord
remade_of rules options batches hints =
    let hinted = hinted_zip (all_commands options.merge 1 batches) hints in
    let journal = rebuilt rules hinted (counted hinted) in
    record { options = options; journal = journal; answers = map (answer_again rules journal) hinted; syncs = syncs_from options.merge 1 0 batches hints; ended = true }

-- the hints of the first answers of a trace, at most one for each command
abbrev pub hints_of : List Batch → Bool → Text → List Hint
hints_of batches merge trace = take (length (all_commands merge 1 batches)) (map hint_read (groups_of trace))

abbrev pub remade : Rules → Options → List Batch → Text → RunRecord
remade rules options batches trace = remade_of rules options batches (hints_of batches options.merge trace)

-- Any right record that has the trace as its text is the one that the hints of the trace determine.
abbrev pub OneRecord : Type 0
OneRecord = (rules : Rules) (options : Options) (batches : List Batch) (trace : Text) (made : RunRecord) → AllByRecursion (IsOfLanes options.lanes) batches
    → options.trace ≡ true → length (all_commands options.merge 1 batches) < 2 ^ 64 → IsRecordNamed made
    → IsTraceOf rules options batches trace made → made ≡ remade rules options batches trace

-- The verdict can be taken from the record that the hints of the trace determine: if any right record has the trace as
-- its text, this one does.
abbrev pub HintsDecide : Type 0
HintsDecide = (rules : Rules) (options : Options) (batches : List Batch) (trace : Text) (made : RunRecord) → AllByRecursion (IsOfLanes options.lanes) batches → AllByRecursion IsBatchNamed batches
    → options.trace ≡ true → length (all_commands options.merge 1 batches) < 2 ^ 64
    → IsTraceOf rules options batches trace made → (made ≡ remade rules options batches trace) × IsTraceOf rules options batches trace (remade rules options batches trace)
