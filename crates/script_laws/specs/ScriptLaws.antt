-- The laws of the script grammar.
use Rattle.std.specs.Prelude.{ℕ, ◌≡◌, ◌≤◌, List, [], ◌∷◌, ◌++◌, flat_map, length, sum_by}
use Rattle.std.specs.List.{AllByRecursion}
use Rattle.lake_model.specs.Texts.{Text, lines_of}
use Rattle.script_model.specs.declared.ScriptLimits.{ScriptLimits}
use Rattle.script_model.specs.Commands.{Batch, File, fetches}
use Rattle.script_model.specs.Lanes.{IsOfLanes}
use Rattle.script_model.specs.Reading.{Stands, read, read_with}
use Rattle.script_model.specs.Saying.{Sync, said}
use Rattle.script_model.specs.Script.{Whole, commands, commands_with, grammar_of, start}
use Rattle.script_model.specs.Words.{NoFeed, without_return}
use Rattle.script_laws.specs.Printed.{AreNumberedFrom, IsPrintable, files_of, printed}
use Rattle.script_text.specs.Gathering.{lines_text}

-- the commands of all batches, in order
abbrev pub all_commands : List Batch → Batch
all_commands batches = flat_map (λ batch. batch) batches

-- The commands of a script are numbered from 1.
abbrev pub AreNumbered : Type 0
AreNumbered = (limits : ScriptLimits) (lanes : ℕ) (bytes : List ℕ) (files : List File) → AreNumberedFrom 1 (all_commands (commands limits lanes bytes files).batches)

-- If there is a lane, each command of a script is in a lane that exists.
abbrev pub AreOfLanes : Type 0
AreOfLanes = (limits : ScriptLimits) (lanes : ℕ) (bytes : List ℕ) (files : List File) → 1 ≤ lanes → IsOfLanes lanes (all_commands (commands limits lanes bytes files).batches)

-- A script asks for a path for each file that its batches fetch.
abbrev pub AskForFiles : Type 0
AskForFiles = (limits : ScriptLimits) (lanes : ℕ) (bytes : List ℕ) (files : List File) → sum_by fetches (commands limits lanes bytes files).batches ≤ length (commands limits lanes bytes files).asked

-- the batches that the whole lines of a text give
abbrev pub line_batches : ScriptLimits → ℕ → Text → List File → List Batch
line_batches limits lanes text files = (read (grammar_of limits lanes) (read_with [] (Stands (start files))) (lines_of text).ended).batches

-- They are the first batches of the text, however it goes on.
abbrev pub BatchesStay : Type 0
BatchesStay = (limits : ScriptLimits) (lanes : ℕ) (text more : Text) (files : List File) → length (text ++ more) ≤ limits.input
    → (later : List Batch) × ((commands limits lanes (text ++ more) files).batches ≡ line_batches limits lanes text files ++ later)

-- A script whose last line is a `sync` has the first batches of every longer script.
abbrev pub SyncedStay : Type 0
SyncedStay = (limits : ScriptLimits) (lanes : ℕ) (lines : List Text) (sync more : Text) (files : List File) → AllByRecursion NoFeed lines → NoFeed sync → said lanes (without_return sync) ≡ Sync
    → length (lines_text (lines ++ sync ∷ []) ++ more) ≤ limits.input
    → (later : List Batch) × ((commands limits lanes (lines_text (lines ++ sync ∷ []) ++ more) files).batches ≡ (commands limits lanes (lines_text (lines ++ sync ∷ [])) files).batches ++ later)

-- A printed batch reads back if its files are the outcomes of the fetches.
abbrev pub ReadsBack : Type 0
ReadsBack = (limits : ScriptLimits) (lanes : ℕ) (paths : List Text) (batch : Batch) → IsPrintable limits lanes paths batch
    → commands limits lanes (printed paths batch) (files_of batch) ≡ commands_with (batch ∷ []) Whole paths
