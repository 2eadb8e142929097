-- What holds after a run that watches queries.
use Rattle.std.specs.Prelude.{ℕ, ◌≡◌, ◌≤◌, ◌⊎◌, ⊤, List, [], ◌++◌, take, if◌then◌else◌, None}
use Rattle.std.specs.Io.KnownBytes.{Appends}
use Rattle.lake_model.specs.declared.Keys.TheVariants.{Canonical}
use Rattle.lake_model.specs.Texts.{Text}
use Rattle.script_model.specs.Commands.{File}
use Rattle.script_model.specs.Options.{plain}
use Rattle.record_model.specs.declared.GivenWhy.{GivenWhy}
use Rattle.record_model.specs.declared.GivenWhy.TheVariants as given
use Rattle.record_model.specs.declared.Status.{Status}
use Rattle.record_model.specs.declared.Status.TheVariants.{Done, Script, Usage, Given, ReadFault, WriteFault, Refuted, NoMemory}
use Rattle.record_model.specs.Record.{RunRecord, empty}
use Rattle.record_model.specs.Rules.{standard_rules}
use Rattle.record_model.specs.Statuses.{IsPrefix}
use Rattle.record_model.specs.Watched.{AreQueries, FaultIn, end_text, queries_from, watch_text}
use Rattle.option_model.specs.Generator.{made_options}
use Rattle.script_text.specs.Outcomes.{AreFetched}
use Rattle.script_text.specs.Gathering.{Gathering}
use Rattle.column_watch.specs.Watching.{WatchesOf, watches_with}
use Rattle.josie_top.specs.Given.{all_watched}
use Rattle.josie_top.specs.Meets.{Meets}
use Rattle.josie_top.specs.Progress.{IsUnderWay}
use Rattle.josie_top.specs.World.{World, with_sink}

-- ---- the queries

-- The files at these paths were fetched, one after another, and nothing else was touched.
pub record AreGiven (paths : List Text) (before now : World) (files : List File) : Type 0 where
  pub fetched : AreFetched before.files before.fetch_faults now.fetch_faults paths files
  pub same : now ≡ record before { fetch_faults = now.fetch_faults }

-- The path with this number is the first that gives no query. Nothing was read from the source or written.
pub record IsNotGiven (paths : List Text) (path : ℕ) (why : GivenWhy) (before now : World) (made : RunRecord) : Type 0 where
  pub files : List File
  pub are : AreGiven (take path paths) before now files
  pub fault : queries_from 1 files ≡ FaultIn path why
  pub empty_is : made ≡ empty plain

-- ---- the run of the script

-- the world of a run whose replies are not written
abbrev pub unwritten : World → World
unwritten world = with_sink None 0 world

-- how the run of the script ended, by the status; a run that was broken off is a run of its first batches
abbrev pub EndsAs : Status → Status → Type 0
EndsAs Done beneath = beneath ≡ Done
EndsAs (Script line reason) beneath = beneath ≡ Script line reason
EndsAs Usage beneath = ⊥
EndsAs (Given path why) beneath = ⊥
EndsAs ReadFault beneath = beneath ≡ ReadFault
EndsAs WriteFault beneath = (beneath ≡ Done) ⊎ (beneath ≡ WriteFault)
EndsAs Refuted beneath = ⊥
EndsAs NoMemory beneath = (beneath ≡ Done) ⊎ (beneath ≡ NoMemory)

-- the text of a record's journal for the watched queries, with its last line if the source was read to its end
abbrev pub watched_text : ℕ → List (List Text) → RunRecord → Text
watched_text k queries made = watch_text k queries made.journal ++ (if made.ended then end_text made.journal else [])

-- what was written of the text, by the status
abbrev pub IsTold : Status → Text → List ℕ → Type 0
IsTold Done text taken = taken ≡ text
IsTold (Script line reason) text taken = taken ≡ text
IsTold Usage text taken = ⊥
IsTold (Given path why) text taken = ⊥
IsTold ReadFault text taken = taken ≡ text
IsTold WriteFault text taken = IsPrefix taken text
IsTold Refuted text taken = ⊥
IsTold NoMemory text taken = IsPrefix taken text

-- The script was run in an order of two empty pieces, as a run whose replies are not written; and the text of its
-- journal for the watched queries was written, or the first bytes of that text.
pub record IsWatched (k : ℕ) (queries : List (List Text)) (status : Status) (before now : World) (made : RunRecord) : Type 0 where
  pub beneath : Status
  pub ends : EndsAs status beneath
  pub ran : Meets (standard_rules Canonical) made_options beneath (unwritten before) (unwritten now) made
  pub taken : List ℕ
  pub took : Appends before.written now.written taken
  pub told : IsTold status (watched_text k queries made) taken

-- What was written so far: the text of all of the record's journal.
pub record IsToldSoFar (k : ℕ) (queries : List (List Text)) (before now : World) (made : RunRecord) : Type 0 where
  pub taken : List ℕ
  pub took : Appends before.written now.written taken
  pub text_is : taken ≡ watch_text k queries made.journal

-- A run between two batches that watches queries: it is a run whose replies are not written, and all that its journal
-- changed was written.
pub record IsWatchingOn (first now : World) (gathering : Gathering) (made : RunRecord) (number : ℕ) (watches before : WatchesOf) : Type 0 where
  pub next : ℕ
  pub way : IsUnderWay (standard_rules Canonical) made_options (unwritten first) (unwritten now) gathering made number next
  pub writes : first.write_faults ≤ now.write_faults
  pub taken : watches ≡ watches_with made.journal before.queries
  pub told : (k : ℕ) (queries : List (List Text)) → before.queries ≡ all_watched k queries → IsToldSoFar k queries first now made

-- ---- the whole

-- Memory ran out before the source was read.
pub record IsNotBegun (before now : World) (made : RunRecord) : Type 0 where
  pub unread : now.left ≡ before.left
  pub unwritten_is : now.written ≡ before.written
  pub empty_is : made ≡ empty plain

-- The files gave queries, and these were watched.
pub record AreWatched (k : ℕ) (paths : List Text) (status : Status) (before now : World) (made : RunRecord) : Type 0 where
  pub begun : World
  pub files : List File
  pub are : AreGiven paths before begun files
  pub queries : List (List Text)
  pub queries_are : queries_from 1 files ≡ AreQueries queries
  pub watched : IsWatched k queries status begun now made

-- what holds after a run that watches the first `k` rows of the queries in these files
abbrev pub Watches : ℕ → List Text → Status → World → World → RunRecord → Type 0
Watches k paths Done before now made = AreWatched k paths Done before now made
Watches k paths (Script line reason) before now made = AreWatched k paths (Script line reason) before now made
Watches k paths Usage before now made = ⊥
Watches k paths (Given path why) before now made = IsNotGiven paths path why before now made
Watches k paths ReadFault before now made = AreWatched k paths ReadFault before now made
Watches k paths WriteFault before now made = AreWatched k paths WriteFault before now made
Watches k paths Refuted before now made = ⊥
Watches k paths NoMemory before now made = IsNotBegun before now made ⊎ AreWatched k paths NoMemory before now made

-- the possible ends if no fault is counted
abbrev pub EndsQuietly : Status → Type 0
EndsQuietly Done = ⊤
EndsQuietly (Script line reason) = ⊤
EndsQuietly Usage = ⊥
EndsQuietly (Given path given.Failed) = ⊥
EndsQuietly (Given path why) = ⊤
EndsQuietly ReadFault = ⊥
EndsQuietly WriteFault = ⊥
EndsQuietly Refuted = ⊥
EndsQuietly NoMemory = ⊤
