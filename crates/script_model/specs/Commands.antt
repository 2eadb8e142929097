-- Commands: what a script asks for.
use Rattle.std.specs.Prelude.{ℕ, Bool, true, false, List, count_by}
use Rattle.lake_model.specs.Texts.{Text}

-- the result of fetching a file
pub data File : Type 0 where
  Bytes : (bytes : List ℕ) → File
  Failed : File
  Missing : File
  TooLong : File

pub data Task : Type 0 where
  Load : (name : Text) (body : List ℕ) → Task
  LoadFile : (name : Text) (file : File) → Task
  DropTable : (name : Text) → Task
  Replace : (name : Text) (body : List ℕ) → Task
  Tables : Task
  Search : (k : ℕ) (body : List ℕ) → Task
  Like : (k : ℕ) (name : Text) (place : ℕ) → Task
  Contain : (a b : ℕ) (body : List ℕ) → Task
  AsOf : (asked k : ℕ) (body : List ℕ) → Task
  Merge : (all : Bool) → Task

pub record Command : Type 0 where
  pub number : ℕ
  pub lane : ℕ
  pub task : Task

abbrev pub command_with : ℕ → ℕ → Task → Command
command_with number lane task = record { number = number; lane = lane; task = task }

abbrev pub Batch : Type 0
Batch = List Command

-- ---- loads, drops and replaces, and files

abbrev pub is_update_task : Task → Bool
is_update_task (Load name body) = true
is_update_task (LoadFile name file) = true
is_update_task (DropTable name) = true
is_update_task (Replace name body) = true
is_update_task Tables = false
is_update_task (Search k body) = false
is_update_task (Like k name place) = false
is_update_task (Contain a b body) = false
is_update_task (AsOf asked k body) = false
is_update_task (Merge all) = false

-- the number of loads, drops and replaces of a batch
abbrev pub updates : Batch → ℕ
updates batch = count_by (λ command. is_update_task command.task) batch

abbrev pub is_fetch : Task → Bool
is_fetch (Load name body) = false
is_fetch (LoadFile name file) = true
is_fetch (DropTable name) = false
is_fetch (Replace name body) = false
is_fetch Tables = false
is_fetch (Search k body) = false
is_fetch (Like k name place) = false
is_fetch (Contain a b body) = false
is_fetch (AsOf asked k body) = false
is_fetch (Merge all) = false

-- the number of files that a batch asks for
abbrev pub fetches : Batch → ℕ
fetches batch = count_by (λ command. is_fetch command.task) batch
