-- What is held besides a journal, so that the tables that were live after any number of its entries are found.
use Rattle.std.specs.Prelude.{◌≡◌, ◌<◌, ◌≤◌, ◌^◌, ℕ, ⊤, true, List, ◌++◌, filter, length, sum_by, take, Option, Some, None}
use Rattle.std.specs.List.{AllByRecursion}
use Rattle.lake_model.specs.Tables.{Table, members}
use Rattle.lake_model.specs.Journal.{Entry, live, loads_of}
use Rattle.lake_model.specs.Layout.{is_legal}
use Rattle.list_laws.specs.Distinct.{Rises}
use Rattle.segment_core.specs.Versions.{VersionOf, live_of}
use Rattle.asof_search.specs.Puts.{PutOf, AreBlocks, positions_put, tables_put, was_live}

-- the end is none, or is among the first n positions
abbrev pub EndsBy : ℕ → Option ℕ → Type 0
EndsBy n None = ⊤
EndsBy n (Some end) = end ≤ n

-- a put of the first n entries, which also took it away if anything did
pub record IsWithin (n : ℕ) (put : PutOf) : Type 0 where
  pub position : put.position ≤ n
  pub end : EndsBy n put.end

-- The puts of a journal: their positions rise and are within it, as are the positions at which they were taken away;
-- their tables are those of the loads and replaces, in order; and after any number of its first entries the tables that
-- were put and not taken away, in order, are the live ones.
pub record IsHistory (journal : List Entry) (puts : List PutOf) : Type 0 where
  pub rising : Rises (positions_put puts)
  pub within : AllByRecursion (IsWithin (length journal)) puts
  pub tables : tables_put puts ≡ loads_of journal
  pub past : (asked : ℕ) → asked ≤ length journal → tables_put (filter (was_live asked) puts) ≡ live (take asked journal)

-- A legal journal with its history, and the segments of the first tables of its blocks of 256 tables. There are fewer
-- than 2^32 loads and replaces, and fewer than 2^32 members of their tables.
pub record IsTimeline (journal : List Entry) (puts : List PutOf) (blocks : List (List Table)) : Type 0 where
  pub legal : is_legal journal ≡ true
  pub history : IsHistory journal puts
  pub few : length (loads_of journal) < 2 ^ 32
  pub light : sum_by members (loads_of journal) < 2 ^ 32
  pub kept : AreBlocks 256 (tables_put puts) blocks

-- a version of an earlier position, if any
abbrev pub IsPast : List Entry → Option VersionOf → Type 0
IsPast journal None = ⊤
IsPast journal (Some version) = (version.at ≤ length journal) × (live_of version.parts ≡ live (take version.at journal))

-- later entries do not change which tables were live after the first `asked` entries
abbrev pub PastStays : Type 0
PastStays = (journal more : List Entry) (asked : ℕ) → asked ≤ length journal → live (take asked (journal ++ more)) ≡ live (take asked journal)
