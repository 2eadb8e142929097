-- The verdict as a function that can be computed.
use Rattle.std.specs.Prelude.{ℕ, zero, suc, ◌+◌, ◌^◌, ◌<◌, ◌==◌, ◌≡◌, Bool, true, false, ◌&&◌, not, List, [], ◌∷◌, ◌++◌, length, map, take, drop, filter, flat_map, bytes_eq}
use Rattle.std.specs.List.{AllByRecursion, list_all, list_any, range_with_len}
use Rattle.record_model.specs.Rules.{Rules}
use Rattle.lake_model.specs.Texts.{Text}
use Rattle.lake_model.specs.Journal.{Entry}
use Rattle.lake_model.specs.Layout.{is_legal}
use Rattle.script_model.specs.Commands.{Batch}
use Rattle.record_model.specs.Answered.{Standing, Nowhere, Saw, Added, PlannedAndSaw, PlannedAndAdded}
use Rattle.script_model.specs.Options.{Options}
use Rattle.record_model.specs.Record.{RunRecord}
use Rattle.script_model.specs.Commands.{updates}
use Rattle.record_model.specs.Play.{merger_commands}
use Rattle.script_model.specs.Lanes.{IsOfLanes}
use Rattle.record_model.specs.Right.{Moment, moments_by, IsRecordRight}
use Rattle.record_model.specs.Texts.{answer_lines, journal_lines, text}
use Rattle.trace_laws.specs.Hints.{Hint, Wanting, Stands, hint_of, reply_by}
use Rattle.trace_laws.specs.Checks.{rises}
use Rattle.trace_laws.specs.Rebuilt.{Hinted, is_at, rebuilt}
use Rattle.trace_laws.specs.Reading.{groups_of, is_cut}
use Rattle.trace_laws.specs.Named.{IsBatchNamed}
use Rattle.trace_laws.specs.Verdict.{IsTraceOf, all_commands, hinted_zip, counted, remade_of, hints_of, remade}

abbrev pub same_standing : Standing → Standing → Bool
same_standing Nowhere Nowhere = true
same_standing (Saw a) (Saw b) = a == b
same_standing (Added a) (Added b) = a == b
same_standing (PlannedAndSaw p a) (PlannedAndSaw q b) = p == q && a == b
same_standing (PlannedAndAdded p a) (PlannedAndAdded q b) = p == q && a == b
same_standing s t = false

abbrev pub same_hint : Hint → Hint → Bool
same_hint Wanting Wanting = true
same_hint (Stands s) (Stands t) = same_standing s t
same_hint h k = false

-- the reply that is made again has the positions of the hint
abbrev pub tells : Rules → List Entry → Hinted → Bool
tells rules journal h = same_hint (hint_of (reply_by rules journal h.command h.hint)) h.hint

abbrev pub moments_of : Hint → List Moment
moments_of Wanting = []
moments_of (Stands s) = moments_by s

abbrev pub lane_rises : List Hinted → ℕ → ℕ → ℕ → Bool
lane_rises hinted from to lane = rises from (flat_map (λ h. moments_of h.hint) (filter (λ h. h.command.lane == lane) hinted)) to

-- in each batch the positions rise along each lane, from the sync before it to the one after it
abbrev pub batches_rise : ℕ → Bool → ℕ → ℕ → List Batch → List Hint → Bool
batches_rise lanes merge next from [] hints = true
batches_rise lanes merge next from (batch ∷ batches) hints =
    let commands = batch ++ merger_commands merge next batch in
    let now = hinted_zip commands (take (length commands) hints) in
    let sync = from + counted now in
    list_all (lane_rises now from sync) (range_with_len 0 (lanes + 1)) && batches_rise lanes merge (next + updates batch) sync batches (drop (length commands) hints)

-- no later answer has its entry at the same position
abbrev pub is_apart : Hint → List Hinted → Bool
is_apart Wanting hinted = true
is_apart (Stands Nowhere) hinted = true
is_apart (Stands (Saw at)) hinted = true
is_apart (Stands (Added at)) hinted = not (list_any (λ h. is_at at h.hint) hinted)
is_apart (Stands (PlannedAndSaw pinned at)) hinted = true
is_apart (Stands (PlannedAndAdded pinned at)) hinted = not (list_any (λ h. is_at at h.hint) hinted)

-- no two updates have their entries at one position
abbrev pub are_apart : List Hinted → Bool
are_apart [] = true
are_apart (h ∷ hinted) = is_apart h.hint hinted && are_apart hinted

-- there is an update for each of the positions 1 to n
abbrev pub is_filled : List Hinted → ℕ → Bool
is_filled hinted zero = true
is_filled hinted (suc n) = list_any (λ h. is_at (suc n) h.hint) hinted && is_filled hinted n

abbrev pub passes : Rules → Options → List Batch → List Hint → Bool
passes rules options batches hints =
    let hinted = hinted_zip (all_commands options.merge 1 batches) hints in
    let journal = rebuilt rules hinted (counted hinted) in
    length hints == length (all_commands options.merge 1 batches) && (are_apart hinted && (is_filled hinted (counted hinted)
    && (batches_rise options.lanes options.merge 1 0 batches hints && (list_all (tells rules journal) hinted && is_legal journal))))

-- The verdict: the record that the hints of the trace determine passes, and has the trace as its text.
abbrev pub verdict : Rules → Options → List Batch → Text → Bool
verdict rules options batches trace =
    let hints = hints_of batches options.merge trace in
    passes rules options batches hints && bytes_eq (text (remade_of rules options batches hints)) trace

-- What passes is right.
abbrev pub PassingIsRight : Type 0
PassingIsRight = (rules : Rules) (options : Options) (batches : List Batch) (hints : List Hint) → AllByRecursion (IsOfLanes options.lanes) batches
    → passes rules options batches hints ≡ true → IsRecordRight rules options.lanes options.merge batches (remade_of rules options batches hints)

-- What is right passes with its own hints.
abbrev pub RightPasses : Type 0
RightPasses = (rules : Rules) (options : Options) (batches : List Batch) (made : RunRecord) → AllByRecursion (IsOfLanes options.lanes) batches
    → IsRecordRight rules options.lanes options.merge batches made → passes rules options batches (map (λ a. hint_of a.reply) made.answers) ≡ true

-- The verdict is true exactly if some right record, ended and with these options, has the trace as its text.
abbrev pub VerdictDecides : Type 0
VerdictDecides = (rules : Rules) (options : Options) (batches : List Batch) (trace : Text) → AllByRecursion (IsOfLanes options.lanes) batches → AllByRecursion IsBatchNamed batches
    → options.trace ≡ true → length (all_commands options.merge 1 batches) < 2 ^ 64
    → (verdict rules options batches trace ≡ true → IsTraceOf rules options batches trace (remade rules options batches trace))
    × ((made : RunRecord) → IsTraceOf rules options batches trace made → verdict rules options batches trace ≡ true)

-- If the verdict is true, the trace consists of the lines of each answer that is made again, and those of the journal:
-- any difference makes it false.
abbrev pub VerdictGroups : Type 0
VerdictGroups = (rules : Rules) (options : Options) (batches : List Batch) (trace : Text) → AllByRecursion (IsOfLanes options.lanes) batches → AllByRecursion IsBatchNamed batches
    → options.trace ≡ true → length (all_commands options.merge 1 batches) < 2 ^ 64 → verdict rules options batches trace ≡ true
    → (is_cut trace ≡ true) × (groups_of trace ≡ map (answer_lines true) (remade rules options batches trace).answers ++ journal_lines (remade rules options batches trace).journal ∷ [])
