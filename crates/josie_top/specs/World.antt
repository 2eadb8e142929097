-- The world outside a run, and what a run moves of it.
use Rattle.std.specs.Prelude.{ℕ, ◌≡◌, ◌≤◌, List, Option}
use Rattle.lake_io.specs.Causes.{Rose}
use Rattle.lake_io.specs.Files as shelf
use Rattle.record_model.specs.declared.Status.{Status}
use Rattle.record_model.specs.declared.Status.TheVariants.{ReadFault, Usage, WriteFault}

-- What the source has left, what the sink was given, and the files of the store, if these are known; and how many
-- faults each of the three has counted.
pub record World : Type 0 where
  pub left : Option (List ℕ)
  pub written : Option (List ℕ)
  pub files : Option (List shelf.File)
  pub read_faults : ℕ
  pub write_faults : ℕ
  pub fetch_faults : ℕ

-- the world of a source, a sink and a store, each given by its content and the number of faults that it has counted
abbrev pub world_of : Option (List ℕ) → ℕ → Option (List ℕ) → ℕ → Option (List shelf.File) → ℕ → World
world_of left read_faults written write_faults files fetch_faults = record {
  left = left;
  written = written;
  files = files;
  read_faults = read_faults;
  write_faults = write_faults;
  fetch_faults = fetch_faults;
}

-- the same world with another sink
abbrev pub with_sink : Option (List ℕ) → ℕ → World → World
with_sink written write_faults world = record world { written = written; write_faults = write_faults }

-- No count of faults fell, and the files are the same.
pub record HasMoved (before now : World) : Type 0 where
  pub files : now.files ≡ before.files
  pub reads : before.read_faults ≤ now.read_faults
  pub writes : before.write_faults ≤ now.write_faults
  pub fetches : before.fetch_faults ≤ now.fetch_faults

-- What a run that ends with this status moves: it ends with `Usage` only if the words are refused, and with a read or a
-- write fault only if the source or the sink counted a fault.
pub record Moves (refused : Type 0) (status : Status) (before now : World) : Type 0 where
  pub moved : HasMoved before now
  pub usage : status ≡ Usage → refused
  pub read_fault : status ≡ ReadFault → Rose before.read_faults now.read_faults
  pub write_fault : status ≡ WriteFault → Rose before.write_faults now.write_faults
