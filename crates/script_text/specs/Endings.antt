-- What the end of a script gives.
use Rattle.std.specs.Prelude.{ℕ, ◌≡◌, ◌<◌, ⊤, List, [], ◌∷◌, ◌++◌, length, Option, Some, None, Result, Ok, Err}
use Rattle.lake_io.specs.Files as shelf
use Rattle.lake_model.specs.Texts.{Text}
use Rattle.script_model.specs.Commands.{Batch, File}
use Rattle.script_model.specs.Reading.{Open, Reading}
use Rattle.script_model.specs.Script.{Commands, Whole, FaultAt, commands_with}
use Rattle.script_text.specs.declared.refused.ScriptEnd.{ScriptEnd}
use Rattle.script_text.specs.declared.refused.ScriptEnd.TheVariants.{Script, ReadFault, NoMemory}
use Rattle.script_text.specs.Gathering.{reading_at}
use Rattle.script_text.specs.Outcomes.{FetchedBy}

-- what the end gives, by the result of the code: the last batch, no further batch, or a fault
abbrev pub EndsAs : Result (Option Batch) ScriptEnd → List Text → Commands → Type 0
EndsAs (Ok None) asked commands = commands ≡ commands_with [] Whole asked
EndsAs (Ok (Some batch)) asked commands = commands ≡ commands_with (batch ∷ []) Whole asked
EndsAs (Err (Script line reason)) asked commands = commands ≡ commands_with [] (FaultAt line reason) asked
EndsAs (Err ReadFault) asked commands = ⊥
EndsAs (Err NoMemory) asked commands = ⊤

-- The end of a script, and what was fetched there, whatever was asked for before.
pub record Ends (end : Reading → Commands) (result : Result (Option Batch) ScriptEnd) (before : Reading) (files : Option (List shelf.File)) (faults_before faults_now : ℕ) : Type 0 where
  pub asked : List Text
  pub outcomes : List File
  pub fetched : FetchedBy result files faults_before faults_now asked outcomes
  pub ended : (paths : List Text) (later : List File) → EndsAs result (paths ++ asked) (end (reading_at before paths (outcomes ++ later)))

-- if the last line gave a batch, there is no command left and no open block
abbrev pub IsLast : Option Batch → Batch → Option Open → Type 0
IsLast None commands block = ⊤
IsLast (Some batch) commands block = (commands ≡ []) × (block ≡ None)

-- the batch at the end is the one that the last line gave, or else the commands at hand, of which there is at least one
abbrev pub IsGiven : Option Batch → Batch → Batch → Type 0
IsGiven None commands batch = (batch ≡ commands) × (0 < length batch)
IsGiven (Some last) commands batch = batch ≡ last
