-- The table of statuses: what holds after a run with each status. It relates the bytes that the source gave, what the
-- source has left if that is known, the outcomes of the fetches, the bytes that the sink took, and the record. `came`
-- states of a list of paths that the outcomes are those of fetching these paths.
use Rattle.std.specs.Prelude.{ℕ, ◌-◌, ◌≡◌, ◌≤◌, ◌⊎◌, ⊤, Bool, true, false, if◌then◌else◌, List, [], ◌++◌, ◌+◌, length, take, sum_by, Option, MatchOption}
use Rattle.std.specs.Io.KnownBytes.{IsAtEnd}
use Rattle.record_model.specs.Rules.{Rules}
use Rattle.lake_model.specs.Texts.{Text, lines_of}
use Rattle.record_model.specs.declared.Status.{Status}
use Rattle.record_model.specs.declared.Status.TheVariants.{Done, Script, Usage, Given, ReadFault, WriteFault, Refuted, NoMemory}
use Rattle.script_model.specs.declared.Reason.{Reason}
use Rattle.script_model.specs.Commands.{Batch, File, fetches, updates}
use Rattle.script_model.specs.Reading.{Reached, Stands, AtFault, LinesRead, read, read_with}
use Rattle.script_model.specs.Script.{Commands, Whole, FaultAt, commands, grammar_of, left_of, standard, start}
use Rattle.script_model.specs.Options.{Options, plain}
use Rattle.record_model.specs.Record.{RunRecord, empty}
use Rattle.record_model.specs.Play.{IsPlayed}
use Rattle.record_model.specs.Right.{IsRecordRight}
use Rattle.record_model.specs.Texts.{answers_text, text}

-- the part is the beginning of the text
abbrev pub IsPrefix : List ℕ → List ℕ → Type 0
IsPrefix part text = (rest : List ℕ) × (text ≡ part ++ rest)

-- the commands of the input, which is what the source gave and what it has left
abbrev pub script_of : Options → List File → List ℕ → Option (List ℕ) → Commands
script_of options outcomes given left = commands standard options.lanes (given ++ left_of left) outcomes

-- the options state an order
abbrev pub IsStated : Options → Type 0
IsStated options = MatchOption options.order ⊥ (λ order. ⊤)

-- The record has these options and is right for these batches. If the options state an order, the batches were played
-- in that order.
pub record IsRecordOf (rules : Rules) (options : Options) (batches : List Batch) (made : RunRecord) : Type 0 where
  pub options_are : made.options ≡ options
  pub right : IsRecordRight rules options.lanes options.merge batches made
  pub played : IsStated options → IsPlayed rules options batches made

-- nothing was written, and the record is empty
abbrev pub NothingDone : List ℕ → RunRecord → Type 0
NothingDone taken made = (taken ≡ []) × (made ≡ empty plain)

-- The script was read to its end and has no fault, all its commands were answered, and all text was written.
pub record IsDone (rules : Rules) (options : Options) (came : List Text → Type 0) (script : Commands) (left : Option (List ℕ)) (taken : List ℕ) (made : RunRecord) : Type 0 where
  pub read : IsAtEnd left
  pub whole : script.end ≡ Whole
  pub fetched : came script.asked
  pub ended : made.ended ≡ true
  pub record_of : IsRecordOf rules options script.batches made
  pub written : taken ≡ text made

-- The line is the first at fault. The batches before the one that contains it were answered, and all text was written.
pub record IsRefused (rules : Rules) (options : Options) (came : List Text → Type 0) (script : Commands) (line : ℕ) (reason : Reason) (taken : List ℕ) (made : RunRecord) : Type 0 where
  pub fault : script.end ≡ FaultAt line reason
  pub fetched : came script.asked
  pub ended : made.ended ≡ false
  pub record_of : IsRecordOf rules options script.batches made
  pub written : taken ≡ text made

-- what the bytes give up to their last line feed, as the beginning of an input that goes on
abbrev pub begun : Options → List File → List ℕ → LinesRead
begun options outcomes given = read (grammar_of standard options.lanes) (read_with [] (Stands (start outcomes))) (lines_of given).ended

abbrev pub HasNoFault : Reached → Type 0
HasNoFault (Stands reading) = ⊤
HasNoFault (AtFault line reason asked) = ⊥

abbrev pub asked_by : Reached → List Text
asked_by (Stands reading) = reading.asked
asked_by (AtFault line reason asked) = asked

-- The batches whose `sync` line came whole were answered, and all text was written. No line that came whole is at
-- fault.
pub record IsBrokenOff (rules : Rules) (options : Options) (came : List Text → Type 0) (begun : LinesRead) (taken : List ℕ) (made : RunRecord) : Type 0 where
  pub no_fault : HasNoFault begun.reached
  pub fetched : came (asked_by begun.reached)
  pub ended : made.ended ≡ false
  pub record_of : IsRecordOf rules options begun.batches made
  pub written : taken ≡ text made

-- the number of answers of these batches, including the merger's
abbrev pub answer_count : Bool → List Batch → ℕ
answer_count merge batches = sum_by (λ batch. length batch + (if merge then updates batch else 0)) batches

-- The first `count` batches were answered, and each file that they ask for has its outcome. What was written is a
-- beginning of the record's text, and contains the text of these batches except the last.
pub record IsCutOff (rules : Rules) (options : Options) (outcomes : List File) (came : List Text → Type 0) (script : Commands) (left : Option (List ℕ)) (taken : List ℕ) (made : RunRecord) : Type 0 where
  pub count : ℕ
  pub fetched : came (take (length outcomes) script.asked)
  pub asked : sum_by fetches (take count script.batches) ≤ length outcomes
  pub record_of : IsRecordOf rules options (take count script.batches) made
  pub ended : made.ended ≡ true → IsAtEnd left × (script.end ≡ Whole) × (take count script.batches ≡ script.batches)
  pub beginning : IsPrefix taken (text made)
  pub holds : IsPrefix (answers_text options.trace (take (answer_count options.merge (take (count - 1) script.batches)) made.answers)) taken

-- the row of the table for a status
abbrev pub Row : Rules → Options → List File → (List Text → Type 0) → Status → List ℕ → Option (List ℕ) → List ℕ → RunRecord → Type 0
Row rules options outcomes came Done given left taken made = IsDone rules options came (script_of options outcomes given left) left taken made
Row rules options outcomes came (Script line reason) given left taken made = IsRefused rules options came (script_of options outcomes given left) line reason taken made
Row rules options outcomes came Usage given left taken made = (given ≡ []) × NothingDone taken made
Row rules options outcomes came (Given path why) given left taken made = ⊥
Row rules options outcomes came ReadFault given left taken made = IsBrokenOff rules options came (begun options outcomes given) taken made
Row rules options outcomes came WriteFault given left taken made = IsCutOff rules options outcomes came (script_of options outcomes given left) left taken made
Row rules options outcomes came Refuted given left taken made = ⊥
Row rules options outcomes came NoMemory given left taken made = NothingDone taken made ⊎ IsCutOff rules options outcomes came (script_of options outcomes given left) left taken made
