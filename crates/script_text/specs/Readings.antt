-- How far a script was read, as the code holds it, and what its lines give.
use Rattle.std.specs.Prelude.{ℕ, ◌+◌, ◌≡◌, ◌<◌, ◌≤◌, ⊤, List, [], ◌∷◌, ◌++◌, length, Option, Some, None, Result, Ok, Err}
use Rattle.lake_io.specs.Files as shelf
use Rattle.lake_model.specs.Texts.{Text}
use Rattle.script_model.specs.Commands.{Batch, File, Task, Load, LoadFile, DropTable, Replace, Tables, Search, Like, Contain, AsOf, Merge}
use Rattle.script_model.specs.Lanes.{IsOfLanes}
use Rattle.script_model.specs.Reading.{Grammar, Open, Reading, Turn, unless_fault, body_fault, with_body}
use Rattle.script_model.specs.Reading as turn
use Rattle.script_model.specs.Saying.{Front}
use Rattle.script_model.specs.Script.{grammar_of}
use Rattle.script_model.specs.declared.Reason.{Reason}
use Rattle.script_model.specs.declared.Reason.TheVariants as reason
use Rattle.script_text.specs.declared.refused.ScriptEnd.{ScriptEnd}
use Rattle.script_text.specs.declared.refused.ScriptEnd.TheVariants.{Script, ReadFault, NoMemory}
use Rattle.script_text.specs.declared.rules.Rules.{Rules}
use Rattle.script_text.specs.Gathering.{reading_at}
use Rattle.script_text.specs.Outcomes.{FetchedBy}

-- the bytes of the body of a task
abbrev pub body_size : Task → ℕ
body_size (Load name body) = length body
body_size (Replace name body) = length body
body_size (Search k body) = length body
body_size (Contain a b body) = length body
body_size (AsOf asked k body) = length body
body_size (LoadFile name file) = 0
body_size (DropTable name) = 0
body_size Tables = 0
body_size (Like k name place) = 0
body_size (Merge all) = 0

abbrev pub open_with : ℕ → ℕ → Front → List ℕ → Open
open_with line lane front body = record { line = line; lane = lane; front = front; body = body }

-- a reading that keeps no paths and no outcomes
abbrev pub reading_with : ℕ → ℕ → ℕ → Batch → ℕ → Option Open → Reading
reading_with lines used numbered commands bytes block =
    record { lines = lines; used = used; numbered = numbered; commands = commands; bytes = bytes; block = block; asked = []; later = [] }

-- how far a script was read, and by which rules
pub record ReaderState : Type 0 where
  pub reading : Reading
  pub rules : Rules

abbrev pub state_with : Reading → Rules → ReaderState
state_with reading rules = record { reading = reading; rules = rules }

abbrev pub grammar_by : Rules → Grammar
grammar_by rules = grammar_of rules.limits rules.lanes

-- each limit is at most the standard one, and there is at least one lane
pub record AreRules (rules : Rules) : Type 0 where
  pub line : rules.limits.line ≤ 4096
  pub block : rules.limits.block ≤ 67108864
  pub commands : rules.limits.commands ≤ 4096
  pub bytes : rules.limits.bytes ≤ 536870912
  pub input : rules.limits.input ≤ 68719476736
  pub lanes : 1 ≤ rules.lanes

-- the command of the open block has no number yet but has used a byte, its lane exists, and its body so far is within
-- the limits
abbrev pub IsWithin : Rules → ℕ → ℕ → ℕ → Option Open → Type 0
IsWithin rules used numbered bytes None = ⊤
IsWithin rules used numbered bytes (Some block) = (numbered < used) × (1 ≤ block.lane) × (block.lane ≤ rules.lanes) × (length block.body ≤ rules.limits.block) × (bytes + length block.body ≤ rules.limits.bytes)

-- each line and each command has a byte, and everything is within the limits
pub record IsBounded (rules : Rules) (lines used numbered : ℕ) (commands : Batch) (bytes : ℕ) (block : Option Open) : Type 0 where
  pub rules_are : AreRules rules
  pub lines_within : lines ≤ used
  pub numbers_within : numbered ≤ used
  pub used_within : used ≤ rules.limits.input
  pub bytes_within : bytes ≤ rules.limits.bytes
  pub body_within : IsWithin rules used numbered bytes block
  pub lanes : IsOfLanes rules.lanes commands

-- ---- what lines give

-- a turn by the result of the code: it goes on to a reading, gives a batch, or fails at this line
abbrev pub Turned : Result (Option Batch) ScriptEnd → ℕ → Reading → List Text → List File → Turn → Type 0
Turned (Ok None) line reading asked later turned = turned ≡ turn.Goes (reading_at reading asked later)
Turned (Ok (Some batch)) line reading asked later turned = turned ≡ turn.Gives batch (reading_at reading asked later)
Turned (Err (Script at reason)) line reading asked later turned = (at ≡ line) × (turned ≡ turn.Fails reason asked)
Turned (Err ReadFault) line reading asked later turned = ⊥
Turned (Err NoMemory) line reading asked later turned = ⊤

-- The turn of a line, and what was fetched in it, whatever was asked for before.
pub record Turns (step : Reading → Turn) (result : Result (Option Batch) ScriptEnd) (line : ℕ) (before after : Reading) (files : Option (List shelf.File)) (faults_before faults_now : ℕ) : Type 0 where
  pub asked : List Text
  pub outcomes : List File
  pub fetched : FetchedBy result files faults_before faults_now asked outcomes
  pub turned : (paths : List Text) (later : List File) → Turned result line after (paths ++ asked) later (step (reading_at before paths (outcomes ++ later)))

-- a batch that was given or goes on has at most one command more than before
abbrev pub GrowsByOne : Result (Option Batch) ScriptEnd → Batch → Batch → Type 0
GrowsByOne (Ok None) before after = length after ≤ length before + 1
GrowsByOne (Ok (Some batch)) before after = (after ≡ []) × (length batch ≤ length before)
GrowsByOne (Err e) before after = ⊤

-- the same at the end of a script, whose last line has `size` bytes
abbrev pub GrowsAtEnd : Option Batch → ℕ → Batch → Batch → Type 0
GrowsAtEnd None size before after = length after ≤ length before + size
GrowsAtEnd (Some batch) size before after = (0 < size) × (length batch ≤ length before)

-- the batch as a list of none or one
abbrev pub batches_of : Option Batch → List Batch
batches_of None = []
batches_of (Some batch) = batch ∷ []

-- the same result, which gives no batch
abbrev pub none_given : Result Unit ScriptEnd → Result (Option Batch) ScriptEnd
none_given (Ok done) = Ok None
none_given (Err e) = Err e

-- a turn by the result of the code, if it gives no batch
abbrev pub GoesOn : Result Unit ScriptEnd → ℕ → Reading → List Text → List File → Turn → Type 0
GoesOn result line reading asked later turn = Turned (none_given result) line reading asked later turn

-- adds a line, without its dot, to the body of a block
abbrev pub added : Grammar → Open → Text → Reading → Turn
added grammar block text reading =
    unless_fault (body_fault grammar reading.bytes ((block.body ++ text) ++ 0x0A ∷ [])) reading (turn.Goes (with_body block ((block.body ++ text) ++ 0x0A ∷ []) reading))

-- the fault of a line that is too long, by whether it is in a block
abbrev pub too_long : Option Open → Reason
too_long None = reason.LineTooLong
too_long (Some block) = reason.BlockTooLong
