-- What holds after a run that checks a trace.
use Rattle.std.specs.Prelude.{ℕ, ◌≡◌, ◌⊎◌, ⊤, Bool, true, false, List, [], ◌∷◌, codes, Option, Some, None}
use Rattle.std.specs.Io.KnownBytes.{Appends, Consumes, IsAtEnd}
use Rattle.lake_model.specs.Texts.{Text}
use Rattle.script_model.specs.Commands.{Batch, Bytes, Failed, File, Missing, TooLong}
use Rattle.script_model.specs.Options.{Options, plain}
use Rattle.script_model.specs.declared.Reason.{Reason}
use Rattle.script_model.specs.Reading.{LinesRead}
use Rattle.script_model.specs.Script.{Commands, FaultAt, Whole, commands_with}
use Rattle.script_text.specs.Gathering.{Gathering}
use Rattle.script_text.specs.Outcomes.{AreFetched}
use Rattle.record_model.specs.declared.GivenWhy.{GivenWhy}
use Rattle.record_model.specs.declared.GivenWhy.TheVariants as given
use Rattle.record_model.specs.declared.Status.{Status}
use Rattle.record_model.specs.declared.Status.TheVariants.{Done, Script, Usage, Given, ReadFault, WriteFault, Refuted, NoMemory}
use Rattle.record_model.specs.Record.{RunRecord, empty}
use Rattle.record_model.specs.Rules.{Rules, standard_rules}
use Rattle.record_model.specs.Statuses.{HasNoFault, IsPrefix, asked_by, begun, script_of}
use Rattle.trace_laws.specs.Verdict.{IsTraceOf}
use Rattle.josie_top.specs.Meets.{FetchedBy}
use Rattle.josie_top.specs.Progress.{AreRead, IsGoingOn}
use Rattle.josie_top.specs.Watching.{AreGiven, IsNotBegun}
use Rattle.josie_top.specs.World.{HasMoved, World}

-- ---- the trace

-- why a file holds no trace
abbrev pub trace_fault : File → Option GivenWhy
trace_fault (Bytes bytes) = None
trace_fault Failed = Some given.Failed
trace_fault Missing = Some given.Missing
trace_fault TooLong = Some given.TooLong

-- The file at this path was fetched, and holds no trace. Nothing was read from the source or written.
pub record HasNoTrace (path : Text) (why : GivenWhy) (before now : World) : Type 0 where
  pub file : File
  pub came : AreGiven (path ∷ []) before now (file ∷ [])
  pub fault : trace_fault file ≡ Some why

-- ---- the verdict

-- a right record of these batches has the trace as its text, or no right record has
abbrev pub IsVerdict : Rules → Options → List Batch → Text → Bool → Type 0
IsVerdict rules options batches trace true = (made : RunRecord) × IsTraceOf rules options batches trace made
IsVerdict rules options batches trace false = (made : RunRecord) → IsTraceOf rules options batches trace made → ⊥

abbrev pub verdict_text : Bool → Text
verdict_text true = codes "yes\n"
verdict_text false = codes "no\n"

-- The source was read to its end, the script is not at fault, and this is the verdict on the trace.
pub record IsJudged (rules : Rules) (options : Options) (trace : Text) (came : List Text → Type 0) (script : Commands) (left : Option (List ℕ)) (verdict : Bool) : Type 0 where
  pub read : IsAtEnd left
  pub whole : script.end ≡ Whole
  pub fetched : came script.asked
  pub verdict_is : IsVerdict rules options script.batches trace verdict

-- The line is the first at fault.
pub record IsFaultAt (came : List Text → Type 0) (script : Commands) (line : ℕ) (reason : Reason) : Type 0 where
  pub fault : script.end ≡ FaultAt line reason
  pub fetched : came script.asked

-- The source failed, and no line that was read in full is at fault.
pub record IsCutShort (came : List Text → Type 0) (begun : LinesRead) : Type 0 where
  pub no_fault : HasNoFault begun.reached
  pub fetched : came (asked_by begun.reached)

-- what the source gave of a script that was not read to its end, or is at fault, by the status
abbrev pub StopRow : Options → List File → (List Text → Type 0) → Status → List ℕ → Option (List ℕ) → Type 0
StopRow options outcomes came Done given left = ⊥
StopRow options outcomes came (Script line reason) given left = IsFaultAt came (script_of options outcomes given left) line reason
StopRow options outcomes came Usage given left = ⊥
StopRow options outcomes came (Given path why) given left = ⊥
StopRow options outcomes came ReadFault given left = IsCutShort came (begun options outcomes given)
StopRow options outcomes came WriteFault given left = ⊥
StopRow options outcomes came Refuted given left = ⊥
StopRow options outcomes came NoMemory given left = ⊤

-- the row of a status, for the bytes that the source gave, what it has left, and the bytes that the sink took
abbrev pub CheckRow : Rules → Options → Text → List File → (List Text → Type 0) → Status → List ℕ → Option (List ℕ) → List ℕ → Type 0
CheckRow rules options trace outcomes came Done given left taken = IsJudged rules options trace came (script_of options outcomes given left) left true × (taken ≡ verdict_text true)
CheckRow rules options trace outcomes came (Script line reason) given left taken = StopRow options outcomes came (Script line reason) given left × (taken ≡ [])
CheckRow rules options trace outcomes came Usage given left taken = ⊥
CheckRow rules options trace outcomes came (Given path why) given left taken = ⊥
CheckRow rules options trace outcomes came ReadFault given left taken = StopRow options outcomes came ReadFault given left × (taken ≡ [])
CheckRow rules options trace outcomes came WriteFault given left taken =
    (verdict : Bool) × IsJudged rules options trace came (script_of options outcomes given left) left verdict × IsPrefix taken (verdict_text verdict)
CheckRow rules options trace outcomes came Refuted given left taken = IsJudged rules options trace came (script_of options outcomes given left) left false × (taken ≡ verdict_text false)
CheckRow rules options trace outcomes came NoMemory given left taken = StopRow options outcomes came NoMemory given left × (taken ≡ [])

-- What the source gave, what was fetched for the script, and what the sink took; and for these, the row of the status.
pub record IsChecked (rules : Rules) (options : Options) (trace : Text) (status : Status) (before now : World) : Type 0 where
  pub given : List ℕ
  pub taken : List ℕ
  pub outcomes : List File
  pub gave : Consumes before.left now.left given
  pub took : Appends before.written now.written taken
  pub row : CheckRow rules options trace outcomes (λ asked. FetchedBy status before now asked outcomes) status given now.left taken

-- ---- the whole

-- The file at this path held the trace, and the script was read and judged by it. The record stays empty.
pub record AreChecked (path : Text) (options : Options) (status : Status) (before now : World) (made : RunRecord) : Type 0 where
  pub begun : World
  pub trace : Text
  pub came : AreGiven (path ∷ []) before begun (Bytes trace ∷ [])
  pub checked : IsChecked (standard_rules options.keys) options trace status begun now
  pub empty_is : made ≡ empty plain

-- what holds after a run that checks the trace in the file at this path
abbrev pub Checks : Text → Options → Status → World → World → RunRecord → Type 0
Checks path options Done before now made = AreChecked path options Done before now made
Checks path options (Script line reason) before now made = AreChecked path options (Script line reason) before now made
Checks path options Usage before now made = ⊥
Checks path options (Given number why) before now made = (number ≡ 1) × HasNoTrace path why before now × (made ≡ empty plain)
Checks path options ReadFault before now made = AreChecked path options ReadFault before now made
Checks path options WriteFault before now made = AreChecked path options WriteFault before now made
Checks path options Refuted before now made = AreChecked path options Refuted before now made
Checks path options NoMemory before now made = IsNotBegun before now made ⊎ AreChecked path options NoMemory before now made

-- the possible ends if no fault is counted: a verdict, or a fault of the script or of the trace's file
abbrev pub EndsInVerdict : Status → Type 0
EndsInVerdict Done = ⊤
EndsInVerdict (Script line reason) = ⊤
EndsInVerdict Usage = ⊥
EndsInVerdict (Given path given.Missing) = ⊤
EndsInVerdict (Given path given.TooLong) = ⊤
EndsInVerdict (Given path why) = ⊥
EndsInVerdict ReadFault = ⊥
EndsInVerdict WriteFault = ⊥
EndsInVerdict Refuted = ⊤
EndsInVerdict NoMemory = ⊤

-- ---- on the way

-- These batches have been read, and the rest of the script is still to come.
pub record IsReading (options : Options) (before now : World) (gathering : Gathering) (batches : List Batch) : Type 0 where
  pub moved : HasMoved before now
  pub been : AreRead options before now gathering batches
  pub goes : IsGoingOn options gathering

-- The source was read to its end, and these are the batches of the whole script, which is not at fault.
pub record IsReadWhole (options : Options) (before now : World) (batches : List Batch) : Type 0 where
  pub given : List ℕ
  pub asked : List Text
  pub outcomes : List File
  pub gave : Consumes before.left now.left given
  pub fetched : AreFetched before.files before.fetch_faults now.fetch_faults asked outcomes
  pub read : IsAtEnd now.left
  pub script : script_of options outcomes given now.left ≡ commands_with batches Whole asked

-- The script was not read to its end, or is at fault.
pub record IsStoppedAt (options : Options) (status : Status) (before now : World) : Type 0 where
  pub given : List ℕ
  pub outcomes : List File
  pub gave : Consumes before.left now.left given
  pub row : StopRow options outcomes (λ asked. FetchedBy status before now asked outcomes) status given now.left

-- what was written of a verdict, by the status
abbrev pub IsVerdictWritten : Bool → Status → Option (List ℕ) → Option (List ℕ) → Type 0
IsVerdictWritten verdict Done before now = (verdict ≡ true) × Appends before now (verdict_text true)
IsVerdictWritten verdict (Script line reason) before now = ⊥
IsVerdictWritten verdict Usage before now = ⊥
IsVerdictWritten verdict (Given path why) before now = ⊥
IsVerdictWritten verdict ReadFault before now = ⊥
IsVerdictWritten verdict WriteFault before now = (part : List ℕ) × IsPrefix part (verdict_text verdict) × Appends before now part
IsVerdictWritten verdict Refuted before now = (verdict ≡ false) × Appends before now (verdict_text false)
IsVerdictWritten verdict NoMemory before now = ⊥
