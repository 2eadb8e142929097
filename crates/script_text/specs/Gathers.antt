-- What each result of a gatherer means.
use Rattle.std.specs.Prelude.{ℕ, ◌⊎◌, ⊤, List, [], ◌∷◌, Option, Some, None, Result, Ok, Err}
use Rattle.std.specs.Io.KnownBytes.{Consumes}
use Rattle.lake_io.specs.Files as shelf
use Rattle.lake_model.specs.Texts.{Text}
use Rattle.script_model.specs.Commands.{File, Batch}
use Rattle.script_text.specs.declared.refused.ScriptEnd.{ScriptEnd}
use Rattle.script_text.specs.declared.refused.ScriptEnd.TheVariants.{Script, ReadFault, NoMemory}
use Rattle.script_text.specs.Outcomes.{FetchedBy}
use Rattle.script_text.specs.Gathering.{Gathering, IsSynced, IsWhole, IsFaulty, IsUnfinished}

-- what the source gave in a call with this result, and what was fetched
pub record Taken (result : Result (Option Batch) ScriptEnd) (left_before left_now : Option (List ℕ)) (files : Option (List shelf.File)) (faults_before faults_now : ℕ) : Type 0 where
  pub given : List ℕ
  pub asked : List Text
  pub outcomes : List File
  pub gave : Consumes left_before left_now given
  pub fetched : FetchedBy result files faults_before faults_now asked outcomes

-- A result, by what was given and fetched: a batch is ended by its `sync` or by the end of the input, and there is none
-- if the input ends without a further command; a fault of the script is the first one; and if the source failed, no
-- line that was read in full is at fault or ends a batch.
abbrev pub Gathers : Result (Option Batch) ScriptEnd → Gathering → Gathering → Option (List ℕ) → List ℕ → List Text → List File → Type 0
Gathers (Ok (Some batch)) before now left given asked outcomes = IsSynced before now given asked outcomes batch ⊎ IsWhole before now left given asked outcomes (batch ∷ [])
Gathers (Ok None) before now left given asked outcomes = IsWhole before now left given asked outcomes []
Gathers (Err (Script line reason)) before now left given asked outcomes = IsFaulty before left given asked outcomes line reason
Gathers (Err ReadFault) before now left given asked outcomes = IsUnfinished before given asked outcomes
Gathers (Err NoMemory) before now left given asked outcomes = ⊤
