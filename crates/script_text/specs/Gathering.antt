-- How far a gatherer is, and what each of its batches is made from.
use Rattle.std.specs.Prelude.{ℕ, ◌≡◌, ◌≤◌, Bool, true, false, List, [], ◌∷◌, ◌++◌, flat_map, length, Option}
use Rattle.std.specs.List.{AllByRecursion}
use Rattle.std.specs.Io.KnownBytes.{IsAtEnd}
use Rattle.lake_model.specs.Texts.{Text}
use Rattle.script_model.specs.declared.Reason.{Reason}
use Rattle.script_model.specs.declared.ScriptLimits.{ScriptLimits}
use Rattle.script_model.specs.Commands.{File, Batch}
use Rattle.script_model.specs.Reading.{Grammar, Reading, Stands, read, read_with}
use Rattle.script_model.specs.Script.{Whole, FaultAt, commands_with, commands_from, grammar_of, left_of}
use Rattle.script_model.specs.Words.{line_text, NoFeed}

-- what was read, the bytes at hand after that, whether no further batch may be asked for, the limits, and the number of
-- lanes
pub record Gathering : Type 0 where
  pub reading : Reading
  pub held : List ℕ
  pub ended : Bool
  pub limits : ScriptLimits
  pub lanes : ℕ

abbrev pub gathering_with : Reading → List ℕ → Bool → ScriptLimits → ℕ → Gathering
gathering_with reading held ended limits lanes = record { reading = reading; held = held; ended = ended; limits = limits; lanes = lanes }

abbrev pub grammar : Gathering → Grammar
grammar gathering = grammar_of gathering.limits gathering.lanes

-- the reading that has asked for these paths, and for which the fetches that follow have these outcomes
abbrev pub reading_at : Reading → List Text → List File → Reading
reading_at reading asked later = record reading { asked = asked; later = later }

-- whole lines, each with its line feed
abbrev pub lines_text : List Text → List ℕ
lines_text lines = flat_map line_text lines

-- These bytes are whole lines, which give these batches and no fault, followed by the bytes that are held; `asked` are
-- the paths that the lines ask for.
pub record ReadsOn (from : Grammar) (before : Reading) (bytes : List ℕ) (outcomes : List File) (made : List Batch) (after : Reading) (held : List ℕ) (asked : List Text) : Type 0 where
  pub lines : List Text
  pub whole : AllByRecursion NoFeed lines
  pub cut : bytes ≡ lines_text lines ++ held
  pub reads : (later : List File) → read from (read_with [] (Stands (reading_at before [] (outcomes ++ later)))) lines ≡ read_with made (Stands (reading_at after asked later))

-- The lines up to a `sync` gave the batch.
pub record IsSynced (before now : Gathering) (given : List ℕ) (asked : List Text) (outcomes : List File) (batch : Batch) : Type 0 where
  pub lines_read : ReadsOn (grammar before) before.reading (before.held ++ given) outcomes (batch ∷ []) now.reading now.held asked
  pub goes_on : now.ended ≡ false

-- The input is at its end and not at fault, and gave these batches.
pub record IsWhole (before now : Gathering) (left : Option (List ℕ)) (given : List ℕ) (asked : List Text) (outcomes : List File) (batches : List Batch) : Type 0 where
  pub at_end : IsAtEnd left
  pub commands : commands_from (grammar before) (reading_at before.reading [] outcomes) (before.held ++ given) ≡ commands_with batches Whole asked
  pub ended : now.ended ≡ true

-- The line is the first at fault, even if the source has more bytes.
pub record IsFaulty (before : Gathering) (left : Option (List ℕ)) (given : List ℕ) (asked : List Text) (outcomes : List File) (line : ℕ) (reason : Reason) : Type 0 where
  pub commands : commands_from (grammar before) (reading_at before.reading [] outcomes) ((before.held ++ given) ++ left_of left) ≡ commands_with [] (FaultAt line reason) asked

-- The lines that were read in full have no fault and no `sync`.
pub record IsUnfinished (before : Gathering) (given : List ℕ) (asked : List Text) (outcomes : List File) : Type 0 where
  pub reading : Reading
  pub held : List ℕ
  pub lines_read : ReadsOn (grammar before) before.reading (before.held ++ given) outcomes [] reading held asked
  pub rest : NoFeed held

-- The source was asked for no further bytes while a whole batch was at hand: the lines that are whole in all of these
-- bytes but those of the last read, at most 65,536, have no fault and no `sync`.
pub record IsLate (before : Gathering) (given : List ℕ) (outcomes : List File) : Type 0 where
  pub first : List ℕ
  pub last : List ℕ
  pub asked : List Text
  pub came : List File
  pub later : List File
  pub given_is : given ≡ first ++ last
  pub few : length last ≤ 65536
  pub outcomes_are : outcomes ≡ came ++ later
  pub unfinished : IsUnfinished before first asked came
