-- The reply to each command at a journal, if its bytes and its query have no fault.
use Rattle.std.specs.Prelude.{ℕ, ◌+◌, ◌-◌, nat_lt, not, List, [], ◌∷◌, length, map, find, slice_get, take, if◌then◌else◌, Option, Some, None}
use Rattle.lake_model.specs.declared.Which.{Which}
use Rattle.lake_model.specs.declared.Policy.{Policy}
use Rattle.lake_model.specs.declared.Counts.{Counts}
use Rattle.lake_model.specs.declared.CsvRefused.{CsvRefused}
use Rattle.lake_model.specs.declared.CsvRefused.TheVariants as csv
use Rattle.lake_model.specs.declared.SetRefused.{SetRefused}
use Rattle.lake_model.specs.declared.SetRefused.TheVariants as sets
use Rattle.lake_model.specs.declared.QueryRefused.{QueryRefused}
use Rattle.lake_model.specs.declared.QueryRefused.TheVariants as query
use Rattle.lake_model.specs.Texts.{Text}
use Rattle.lake_model.specs.Tables.{Column, Table, Line, line_of, members}
use Rattle.lake_model.specs.Answer.{Row, answer, Query}
use Rattle.lake_model.specs.Journal.{Entry, counts, live, is_live, live_table}
use Rattle.lake_model.specs.Limits.{Bounded, is_passed, load_bounds, drop_bounds, replace_bounds}
use Rattle.lake_model.specs.Layout.{Part, Shown, layout, shown_layout, unmarked_of}
use Rattle.lake_model.specs.Plan.{planned_parts}
use Rattle.layout_laws.specs.Steps.{has_part}
use Rattle.search_model.specs.Contain.{contain}
use Rattle.record_model.specs.Work.{lists_read, sets_probed, contain_reads, contain_probes}

pub data Reply : Type 0 where
  Loaded : (name : Text) (columns members at : ℕ) → Reply
  Dropped : (name : Text) (at : ℕ) → Reply
  Replaced : (name : Text) (columns members at : ℕ) → Reply
  Listed : (tables : List Line) (at : ℕ) → Reply
  Found : (query : ℕ) (rows : List Row) (reads probes : ℕ) (layout : Shown) → Reply
  Past : (query : ℕ) (rows : List Row) (asked at : ℕ) → Reply
  Merged : (layout : Shown) (parts tables at : ℕ) → Reply
  Repeated : (name : Text) (at : ℕ) → Reply
  Unknown : (name : Text) (at : ℕ) → Reply
  NoColumn : (name : Text) (place at : ℕ) → Reply
  Full : (which : Which) (count more at : ℕ) → Reply
  NothingToMerge : (layout : Shown) → Reply
  Later : (asked at : ℕ) → Reply
  Stale : (layout : Shown) (gone at : ℕ) → Reply
  NoHeader : Reply
  TooManyColumns : (got : ℕ) → Reply
  Unequal : (row want got : ℕ) → Reply
  NotUtf8 : (row field : ℕ) → Reply
  TooManyValues : (place : ℕ) → Reply
  FileFailed FileMissing FileTooLong : Reply
  QueryNotUtf8 : (line : ℕ) → Reply
  QueryTooLarge : Reply
  NoMemory : Reply

-- why a file could not be fetched
pub data FileFault : Type 0 where
  FailedFault MissingFault TooLongFault : FileFault

-- what is wrong with a command's bytes or with its file, whatever the journal is
pub data Fault : Type 0 where
  OfCsv : (why : CsvRefused) → Fault
  OfSets : (why : SetRefused) → Fault
  OfQuery : (why : QueryRefused) → Fault
  OfFile : (why : FileFault) → Fault

abbrev pub csv_reply : CsvRefused → Reply
csv_reply csv.NoHeader = NoHeader
csv_reply (csv.TooManyColumns got) = TooManyColumns got
csv_reply (csv.Unequal row want got) = Unequal row want got
csv_reply (csv.NotUtf8 row field) = NotUtf8 row field
csv_reply csv.NoMemory = NoMemory

abbrev pub sets_reply : SetRefused → Reply
sets_reply (sets.TooManyValues place) = TooManyValues place
sets_reply sets.NoMemory = NoMemory

abbrev pub query_reply : QueryRefused → Reply
query_reply (query.NotUtf8 line) = QueryNotUtf8 line
query_reply query.TooManyValues = QueryTooLarge
query_reply query.NoMemory = NoMemory

abbrev pub file_reply : FileFault → Reply
file_reply FailedFault = FileFailed
file_reply MissingFault = FileMissing
file_reply TooLongFault = FileTooLong

abbrev pub fault_reply : Fault → Reply
fault_reply (OfCsv why) = csv_reply why
fault_reply (OfSets why) = sets_reply why
fault_reply (OfQuery why) = query_reply why
fault_reply (OfFile why) = file_reply why

-- the first limit that would be passed, or else the given reply
abbrev pub unless_lake_full : ℕ → Reply → Option Bounded → Reply
unless_lake_full at reply None = reply
unless_lake_full at reply (Some b) = Full b.which b.count b.more at

abbrev pub load_reply : Counts → Table → List Entry → Reply
load_reply limits table journal =
    let at = length journal in
    if is_live journal table.name then Repeated table.name at
    else unless_lake_full at (Loaded table.name (length table.columns) (members table) (at + 1)) (find is_passed (load_bounds limits table (counts journal)))

abbrev pub drop_reply : Counts → Text → List Entry → Reply
drop_reply limits name journal =
    let at = length journal in
    if is_live journal name then unless_lake_full at (Dropped name (at + 1)) (find is_passed (drop_bounds limits (counts journal))) else Unknown name at

abbrev pub replace_reply : Counts → Table → List Entry → Reply
replace_reply limits table journal =
    let at = length journal in
    if is_live journal table.name then unless_lake_full at (Replaced table.name (length table.columns) (members table) (at + 1)) (find is_passed (replace_bounds limits table (counts journal)))
    else Unknown table.name at

abbrev pub tables_reply : List Entry → Reply
tables_reply journal = Listed (map line_of (live journal)) (length journal)

abbrev pub search_reply : Query → List Entry → Reply
search_reply query journal =
    let parts = layout journal in
    Found (length query.keys) (answer (live journal) query.keys query.k query.except) (lists_read query parts) (sets_probed query parts) (shown_layout journal)

abbrev pub contain_reply : List Text → ℕ → ℕ → List Entry → Reply
contain_reply keys a b journal =
    let parts = layout journal in
    Found (length keys) (contain (live journal) keys a b) (contain_reads keys a b parts) (contain_probes keys a b parts) (shown_layout journal)

-- the answer over the tables that were live after the first `asked` entries, or a refusal if the journal has fewer
abbrev pub past_reply : List Text → ℕ → ℕ → List Entry → Reply
past_reply keys asked k journal =
    let at = length journal in
    if nat_lt at asked then Later asked at else Past (length keys) (answer (live (take asked journal)) keys k None) asked at

abbrev pub excepting : Text → ℕ → List Text → Query
excepting name k keys = record { keys = keys; k = k; except = Some name }

abbrev pub like_column : ℕ → Text → ℕ → List Entry → Option Column → Reply
like_column k name place journal None = NoColumn name place (length journal)
like_column k name place journal (Some column) = search_reply (excepting name k column.keys) journal

abbrev pub like_table : ℕ → Text → ℕ → List Entry → Option Table → Reply
like_table k name place journal None = Unknown name (length journal)
like_table k name place journal (Some table) = like_column k name place journal (slice_get table.columns (place - 1))

abbrev pub like_reply : ℕ → Text → ℕ → List Entry → Reply
like_reply k name place journal = like_table k name place journal (live_table journal name)

-- a merge that was planned at one journal and ends at another, where the given part of the plan, if any, is missing
abbrev pub merge_gone : List Entry → List Entry → List Part → Option Part → Reply
merge_gone before journal planned None = Merged (shown_layout before) (length planned) (length (unmarked_of planned)) (length journal + 1)
merge_gone before journal planned (Some part) = Stale (shown_layout before) part.number (length journal)

abbrev pub merge_planned : List Entry → List Entry → List Part → Reply
merge_planned before journal [] = NothingToMerge (shown_layout before)
merge_planned before journal (part ∷ parts) = merge_gone before journal (part ∷ parts) (find (λ planned. not (has_part (layout journal) planned)) (part ∷ parts))

abbrev pub merge_reply : Policy → List Entry → List Entry → Reply
merge_reply policy before journal = merge_planned before journal (planned_parts policy (layout before))
