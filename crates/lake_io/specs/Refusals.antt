-- When a shelf refuses to give a file.
use Rattle.std.specs.Prelude.{ℕ, ◌≡◌, Bool, true, false, List, Option, Result, Ok, Err}
use Rattle.lake_io.specs.declared.ShelfRefused.{ShelfRefused}
use Rattle.lake_io.specs.declared.ShelfRefused.TheVariants.{Failed, Missing, TooLong, NoMemory}
use Rattle.lake_io.specs.Causes.{Rose}
use Rattle.lake_io.specs.Files.{File, LacksFile, HasLongFile}

-- a refusal, by the files if they are known, and by the count of faults before and after the call
abbrev pub Refuses : Option (List File) → List ℕ → ℕ → ℕ → ℕ → ShelfRefused → Type 0
Refuses files path most before now Failed = Rose before now
Refuses files path most before now Missing = (now ≡ before) × LacksFile files path
Refuses files path most before now TooLong = (now ≡ before) × HasLongFile files path most
Refuses files path most before now NoMemory = Unit {0}

-- whether a result is a failure, which is counted
abbrev pub is_failed : {T : Type 0} → Result T ShelfRefused → Bool
is_failed (Ok file) = false
is_failed (Err Failed) = true
is_failed (Err Missing) = false
is_failed (Err TooLong) = false
is_failed (Err NoMemory) = false
