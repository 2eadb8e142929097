-- What the parts of a gatherer's call mean.
use Rattle.std.specs.Prelude.{ℕ, ◌≡◌, ⊤, List, [], ◌++◌}
use Rattle.lake_model.specs.Texts.{Text}
use Rattle.script_model.specs.Commands.{File}
use Rattle.script_model.specs.Script.{Commands, FaultAt, commands_from, commands_with}
use Rattle.script_text.specs.declared.refused.ScriptEnd.{ScriptEnd}
use Rattle.script_text.specs.declared.refused.ScriptEnd.TheVariants.{Script, ReadFault, NoMemory}
use Rattle.script_text.specs.Gathering.{Gathering, grammar, reading_at}

-- the limits and the lanes stay the same, and so does whether a further batch may be asked for
pub record HasSameRules (before now : Gathering) : Type 0 where
  pub limits : now.limits ≡ before.limits
  pub lanes : now.lanes ≡ before.lanes
  pub ended : now.ended ≡ before.ended

-- a script that ends with a fault of a line; the other errors say nothing about it
abbrev pub IsFaultOf : ScriptEnd → List Text → Commands → Type 0
IsFaultOf (Script line reason) asked commands = commands ≡ commands_with [] (FaultAt line reason) asked
IsFaultOf ReadFault asked commands = ⊤
IsFaultOf NoMemory asked commands = ⊤

-- a fault of what is held is the first of the script, however the script goes on and whatever was asked for before
abbrev pub IsHeldFault : Gathering → ScriptEnd → Type 0
IsHeldFault at e = (paths : List Text) (later : List File) (more : List ℕ) → IsFaultOf e paths (commands_from (grammar at) (reading_at at.reading paths later) (at.held ++ more))
