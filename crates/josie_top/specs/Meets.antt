-- What holds after a run: what moved, and the row of its status.
use Rattle.std.specs.Prelude.{ℕ, ◌≡◌, ◌<◌, ◌≤◌, ◌⊎◌, ⊤, false, List, ◌++◌, length, Some}
use Rattle.std.specs.Io.KnownBytes.{Consumes, Appends}
use Rattle.lake_io.specs.Causes.{Rose}
use Rattle.record_model.specs.Rules.{Rules}
use Rattle.lake_model.specs.Texts.{Text}
use Rattle.record_model.specs.declared.Status.{Status}
use Rattle.record_model.specs.declared.Status.TheVariants.{Done, Script, Usage, Given, ReadFault, WriteFault, Refuted, NoMemory}
use Rattle.script_model.specs.Commands.{File}
use Rattle.script_model.specs.Script.{Commands, Whole, commands, standard}
use Rattle.script_model.specs.Options.{Options}
use Rattle.record_model.specs.Record.{RunRecord}
use Rattle.record_model.specs.Statuses.{Row, begun}
use Rattle.option_model.specs.Makes.{MakeRow}
use Rattle.script_text.specs.Outcomes.{AreFetched, AreFetchedSoFar}
use Rattle.josie_top.specs.World.{World}

-- the results of the fetches of a run, by its status
abbrev pub FetchedBy : Status → World → World → List Text → List File → Type 0
FetchedBy Done before now asked outcomes = AreFetched before.files before.fetch_faults now.fetch_faults asked outcomes
FetchedBy (Script line reason) before now asked outcomes = AreFetched before.files before.fetch_faults now.fetch_faults asked outcomes
FetchedBy Usage before now asked outcomes = AreFetched before.files before.fetch_faults now.fetch_faults asked outcomes
FetchedBy (Given path why) before now asked outcomes = AreFetched before.files before.fetch_faults now.fetch_faults asked outcomes
FetchedBy ReadFault before now asked outcomes = AreFetched before.files before.fetch_faults now.fetch_faults asked outcomes
FetchedBy WriteFault before now asked outcomes = AreFetched before.files before.fetch_faults now.fetch_faults asked outcomes
FetchedBy Refuted before now asked outcomes = AreFetched before.files before.fetch_faults now.fetch_faults asked outcomes
FetchedBy NoMemory before now asked outcomes = AreFetchedSoFar before.files before.fetch_faults now.fetch_faults asked outcomes

-- The bytes that were read before the last read, which gave at most 65,536 bytes, have fewer whole batches than were
-- answered: the replies to a batch are written before the next batch is read.
pub record IsReadLate (options : Options) (given : List ℕ) (outcomes : List File) (made : RunRecord) : Type 0 where
  pub first : List ℕ
  pub last : List ℕ
  pub given_is : given ≡ first ++ last
  pub few : length last ≤ 65536
  pub fewer : length (begun options outcomes first).batches < length made.syncs

-- if the sink failed before the input was read to its end, the source was read late
abbrev pub ReadsLate : Status → Options → List ℕ → List File → RunRecord → Type 0
ReadsLate Done options given outcomes made = ⊤
ReadsLate (Script line reason) options given outcomes made = ⊤
ReadsLate Usage options given outcomes made = ⊤
ReadsLate (Given path why) options given outcomes made = ⊤
ReadsLate ReadFault options given outcomes made = ⊤
ReadsLate WriteFault options given outcomes made = made.ended ≡ false → IsReadLate options given outcomes made
ReadsLate Refuted options given outcomes made = ⊤
ReadsLate NoMemory options given outcomes made = ⊤

-- The bytes that the source gave and those that the sink took, if their content is known, and the results of the
-- fetches; and for these, the row of the status in the table.
pub record Meets (rules : Rules) (options : Options) (status : Status) (before now : World) (made : RunRecord) : Type 0 where
  pub given : List ℕ
  pub taken : List ℕ
  pub outcomes : List File
  pub gave : Consumes before.left now.left given
  pub took : Appends before.written now.written taken
  pub row : Row rules options outcomes (λ asked. FetchedBy status before now asked outcomes) status given now.left taken made
  pub late : ReadsLate status options given outcomes made

-- The bytes of the summary of a made lake that the sink took, if its content is known; and for these, the row of the
-- status.
pub record Makes (rules : Rules) (seed tables rows : ℕ) (status : Status) (before now : World) (made : RunRecord) : Type 0 where
  pub taken : List ℕ
  pub took : Appends before.written now.written taken
  pub row : MakeRow rules seed tables rows status taken made

-- whatever the results of the fetches of a script between these two moments are, it has no line at fault
abbrev pub HasNoFault : Options → List ℕ → World → World → Type 0
HasNoFault options script before now = (outcomes : List File) → let made : Commands = commands standard options.lanes script outcomes in
    AreFetched before.files before.fetch_faults now.fetch_faults made.asked outcomes → made.end ≡ Whole

-- If neither the source nor the sink counts a fault, a script whose content is known and that has no line at fault ends
-- well, or memory runs out.
abbrev pub EndsWell : Options → Status → World → World → Type 0
EndsWell options status before now = (script : List ℕ) → before.left ≡ Some script → HasNoFault options script before now
    → (Rose before.read_faults now.read_faults → ⊥) → (Rose before.write_faults now.write_faults → ⊥) → (status ≡ Done) ⊎ (status ≡ NoMemory)
