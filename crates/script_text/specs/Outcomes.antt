-- The outcomes of fetches.
use Rattle.std.specs.Prelude.{ℕ, ◌≡◌, ◌≤◌, List, [], ◌∷◌, length, Option, Result, Ok, Err}
use Rattle.lake_io.specs.Causes.{Rose}
use Rattle.lake_io.specs.Files as shelf
use Rattle.lake_io.specs.Files.{HasFile, LacksFile, HasLongFile}
use Rattle.lake_model.specs.Texts.{Text}
use Rattle.script_model.specs.Commands.{Batch, File, Bytes, Failed, Missing, TooLong}
use Rattle.script_text.specs.declared.refused.ScriptEnd.{ScriptEnd}
use Rattle.script_text.specs.declared.refused.ScriptEnd.TheVariants.{Script, ReadFault, NoMemory}

-- the possible outcomes of a fetch of a path, of at most 67,108,864 bytes, from these files if they are known, by the
-- shelf's count of faults before and after the fetch
abbrev pub CameOf : Option (List shelf.File) → ℕ → ℕ → Text → File → Type 0
CameOf files before now path (Bytes bytes) = HasFile files path bytes × (length bytes ≤ 67108864) × (before ≤ now)
CameOf files before now path Failed = Rose before now
CameOf files before now path Missing = (now ≡ before) × LacksFile files path
CameOf files before now path TooLong = (now ≡ before) × HasLongFile files path 67108864

-- these are the outcomes of the fetches of these paths, one fetch after another, with no other fetch
abbrev pub AreFetched : Option (List shelf.File) → ℕ → ℕ → List Text → List File → Type 0
AreFetched files before now [] [] = now ≡ before
AreFetched files before now [] (outcome ∷ outcomes) = ⊥
AreFetched files before now (path ∷ asked) [] = ⊥
AreFetched files before now (path ∷ asked) (outcome ∷ outcomes) = (between : ℕ) × CameOf files before between path outcome × AreFetched files between now asked outcomes

-- The same, except that memory may have run out in one fetch after these: that fetch has no outcome, but may be
-- counted.
pub record AreFetchedSoFar (files : Option (List shelf.File)) (before now : ℕ) (asked : List Text) (outcomes : List File) : Type 0 where
  pub between : ℕ
  pub fetched : AreFetched files before between asked outcomes
  pub later : between ≤ now

-- the outcomes of the fetches in a call, by its result
abbrev pub FetchedBy : Result (Option Batch) ScriptEnd → Option (List shelf.File) → ℕ → ℕ → List Text → List File → Type 0
FetchedBy (Ok found) files before now asked outcomes = AreFetched files before now asked outcomes
FetchedBy (Err (Script line reason)) files before now asked outcomes = AreFetched files before now asked outcomes
FetchedBy (Err ReadFault) files before now asked outcomes = AreFetched files before now asked outcomes
FetchedBy (Err NoMemory) files before now asked outcomes = AreFetchedSoFar files before now asked outcomes
