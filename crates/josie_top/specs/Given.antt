-- The files of the watched queries, read one after another.
use Rattle.std.specs.Prelude.{ℕ, ◌≡◌, ⊤, List, [], ◌∷◌, ◌++◌, length, map, take, Option}
use Rattle.lake_io.specs.Files as shelf
use Rattle.lake_model.specs.Texts.{Text}
use Rattle.script_model.specs.Commands.{File}
use Rattle.record_model.specs.declared.GivenWhy.{GivenWhy}
use Rattle.record_model.specs.declared.Status.{Status}
use Rattle.record_model.specs.declared.Status.TheVariants as status
use Rattle.record_model.specs.Watched.{AreQueries, FaultIn, GivenRead, IsGiven, NotGiven, given_read, queries_from}
use Rattle.script_text.specs.Outcomes.{AreFetched, CameOf}
use Rattle.column_watch.specs.Watching.{WatchOf, WatchesOf, watch_with, watches_with}
use Rattle.josie_top.specs.declared.given.GivenStop.{GivenStop}
use Rattle.josie_top.specs.declared.given.GivenStop.TheVariants as stop

-- watched queries, `k` rows of each
abbrev pub all_watched : ℕ → List (List Text) → List WatchOf
all_watched k queries = map (λ keys. watch_with keys k) queries

-- why a file gave no query: it is at fault, or memory ran out
abbrev pub IsStopped : GivenRead → GivenStop → Type 0
IsStopped read (stop.Fault why) = read ≡ NotGiven why
IsStopped read stop.NoMemory = ⊤

-- The file at a path was fetched, and its query is watched after those that were already watched.
pub record IsTaken (told : Option (List shelf.File)) (before now : ℕ) (k : ℕ) (path : Text) (watched after : WatchesOf) : Type 0 where
  pub file : File
  pub keys : List Text
  pub came : CameOf told before now path file
  pub read : given_read file ≡ IsGiven keys
  pub is : after ≡ watches_with [] (watched.queries ++ watch_with keys k ∷ [])

-- The file at a path was fetched, and is at fault.
pub record IsAtFault (told : Option (List shelf.File)) (before now : ℕ) (path : Text) (why : GivenWhy) : Type 0 where
  pub file : File
  pub came : CameOf told before now path file
  pub read : given_read file ≡ NotGiven why

-- why the query in the file at a path is not watched
abbrev pub IsNotTaken : Option (List shelf.File) → ℕ → ℕ → Text → GivenStop → Type 0
IsNotTaken told before now path (stop.Fault why) = IsAtFault told before now path why
IsNotTaken told before now path stop.NoMemory = ⊤

-- the status of a run in which the file of the path with this number gave no query
abbrev pub status_of_given : ℕ → GivenStop → Status
status_of_given path (stop.Fault why) = status.Given path why
status_of_given path stop.NoMemory = status.NoMemory

-- The files at all these paths gave queries, and these are watched.
pub record AreTaken (told : Option (List shelf.File)) (before now : ℕ) (k : ℕ) (paths : List Text) (watched : WatchesOf) : Type 0 where
  pub files : List File
  pub queries : List (List Text)
  pub fetched : AreFetched told before now paths files
  pub read : queries_from 1 files ≡ AreQueries queries
  pub many : length queries ≡ length paths
  pub is : watched ≡ watches_with [] (all_watched k queries)

-- The path with this number is the first whose file is at fault.
pub record HasFirstFault (told : Option (List shelf.File)) (before now : ℕ) (paths : List Text) (path : ℕ) (why : GivenWhy) : Type 0 where
  pub files : List File
  pub fetched : AreFetched told before now (take path paths) files
  pub fault : queries_from 1 files ≡ FaultIn path why

-- the status if not all files gave queries
abbrev pub IsRefusedBy : Option (List shelf.File) → ℕ → ℕ → List Text → Status → Type 0
IsRefusedBy told before now paths (status.Given path why) = HasFirstFault told before now paths path why
IsRefusedBy told before now paths status.NoMemory = ⊤
IsRefusedBy told before now paths status.Done = ⊥
IsRefusedBy told before now paths (status.Script line reason) = ⊥
IsRefusedBy told before now paths status.Usage = ⊥
IsRefusedBy told before now paths status.ReadFault = ⊥
IsRefusedBy told before now paths status.WriteFault = ⊥
IsRefusedBy told before now paths status.Refuted = ⊥
