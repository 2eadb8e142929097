-- Runs of whole lines of a block, and the lines that lead from one reading to another.
use Rattle.std.specs.Prelude.{ℕ, ◌+◌, ◌-◌, ◌==◌, ◌≡◌, ◌<◌, ◌≤◌, false, List, [], ◌++◌, length, get_or, IfSome}
use Rattle.std.specs.List.{AllByRecursion}
use Rattle.lake_model.specs.Texts.{Text}
use Rattle.script_model.specs.Commands.{File}
use Rattle.script_model.specs.Reading.{Grammar, Reading, Stands, read, read_with}
use Rattle.script_model.specs.Words.{NoFeed}
use Rattle.script_text.specs.declared.rules.Rules.{Rules}
use Rattle.script_text.specs.Gathering.{lines_text, reading_at}

-- a whole line that does not begin with a dot: in a block it stands for itself
abbrev pub IsPlain : Text → Type 0
IsPlain line = NoFeed line × ((get_or line 0 0 == 0x2E) ≡ false)

-- These bytes are whole lines, none of which begins with a dot.
pub record IsRun (bytes : List ℕ) : Type 0 where
  pub lines : List Text
  pub plain : AllByRecursion IsPlain lines
  pub cut : bytes ≡ lines_text lines

-- no line but the first begins with a dot
abbrev pub NoDotBehind : Text → Type 0
NoDotBehind text = (k : ℕ) → k + 1 < length text → get_or text k 0 ≡ 0x0A → get_or text (k + 1) 0 ≡ 0x2E → ⊥

-- the last line is whole
abbrev pub EndsInFeed : Text → Type 0
EndsInFeed text = 0 < length text → get_or text (length text - 1) 0 ≡ 0x0A

-- `size` more bytes fit into the open block, by every limit
pub record HasRoom (rules : Rules) (reading : Reading) (size : ℕ) : Type 0 where
  pub block : IfSome reading.block (λ block. (length block.body + size ≤ rules.limits.block) × (reading.bytes + (length block.body + size) ≤ rules.limits.bytes))
  pub input : reading.used + size ≤ rules.limits.input

-- These lines lead from one reading to another, whatever was asked for before or is fetched later.
abbrev pub Leads : Grammar → Reading → List Text → Reading → Type 0
Leads from before lines after = (paths : List Text) (later : List File)
    → read from (read_with [] (Stands (reading_at before paths later))) lines ≡ read_with [] (Stands (reading_at after paths later))

-- These bytes are whole lines, which lead from one reading to another, followed by the bytes that are held.
pub record LeadsOn (from : Grammar) (before after : Reading) (bytes held : List ℕ) : Type 0 where
  pub lines : List Text
  pub whole : AllByRecursion NoFeed lines
  pub cut : bytes ≡ lines_text lines ++ held
  pub leads : Leads from before lines after
