-- The reply to each command, what the command adds to the journal, and the positions that its reply shows.
use Rattle.std.specs.Prelude.{ℕ, Bool, true, false, List, [], ◌∷◌, if◌then◌else◌, Option, Some, None}
use Rattle.lake_model.specs.declared.Policy.{Policy}
use Rattle.lake_model.specs.declared.Policy.TheVariants.{Tier, All}
use Rattle.record_model.specs.Rules.{Rules}
use Rattle.lake_model.specs.declared.CsvRefused.{CsvRefused}
use Rattle.lake_model.specs.declared.Keys.{Keys}
use Rattle.lake_model.specs.declared.SetRefused.{SetRefused}
use Rattle.lake_model.specs.declared.QueryRefused.{QueryRefused}
use Rattle.lake_model.specs.Texts.{Text}
use Rattle.lake_model.specs.Tables.{Table}
use Rattle.lake_model.specs.Records.{Record, records_of, csv_fault, most_columns, sets_fault, table_of}
use Rattle.lake_model.specs.Queries.{query_of, query_fault}
use Rattle.lake_model.specs.Journal.{What, Entry}
use Rattle.lake_model.specs.Journal as journal
use Rattle.lake_model.specs.Answer.{Query}
use Rattle.lake_model.specs.Plan.{plan}
use Rattle.script_model.specs.Commands.{File, Bytes, Failed, Missing, TooLong, Task, Load, LoadFile, DropTable, Replace, Tables, Search, Like, Contain, AsOf, Merge}
use Rattle.record_model.specs.Replies.{Reply, Loaded, Dropped, Replaced, Listed, Found, Past, Merged, Repeated, Unknown, NoColumn, Full, NothingToMerge, Later, Stale, Fault, OfCsv, OfSets, OfQuery, OfFile, FailedFault, MissingFault, TooLongFault, fault_reply, load_reply, drop_reply, replace_reply, tables_reply, search_reply, like_reply, contain_reply, past_reply, merge_reply}

-- the table of some bytes, or why they are refused
pub data TableRead : Type 0 where
  IsTable : (table : Table) → TableRead
  NoTable : (fault : Fault) → TableRead

-- the keys of a body, or why it is refused
pub data QueryRead : Type 0 where
  IsQuery : (keys : List Text) → QueryRead
  NoQuery : (fault : Fault) → QueryRead

-- The table of some bytes under a name. They are refused for the first fault of the records, or else for the first of
-- the sets.
abbrev pub sets_read : Keys → Text → List Record → Option SetRefused → TableRead
sets_read keys name rows None = IsTable (table_of keys name rows)
sets_read keys name rows (Some why) = NoTable (OfSets why)

abbrev pub records_read : Keys → Text → List Record → Option CsvRefused → TableRead
records_read keys name rows None = sets_read keys name rows (sets_fault keys rows)
records_read keys name rows (Some why) = NoTable (OfCsv why)

unfoldable pub table_read : Keys → Text → List ℕ → TableRead
table_read keys name bytes = records_read keys name (records_of bytes) (csv_fault (most_columns keys) bytes)

-- the query of a body, which is refused for its first fault
abbrev pub keys_read : Keys → List ℕ → Option QueryRefused → QueryRead
keys_read keys body None = IsQuery (query_of keys body)
keys_read keys body (Some why) = NoQuery (OfQuery why)

unfoldable pub query_read : Keys → List ℕ → QueryRead
query_read keys body = keys_read keys body (query_fault keys body)

abbrev pub file_read : Keys → Text → File → TableRead
file_read keys name (Bytes bytes) = table_read keys name bytes
file_read keys name Failed = NoTable (OfFile FailedFault)
file_read keys name Missing = NoTable (OfFile MissingFault)
file_read keys name TooLong = NoTable (OfFile TooLongFault)

abbrev pub policy_of : Bool → Policy
policy_of true = All
policy_of false = Tier

abbrev pub plain_query : ℕ → List Text → Query
plain_query k keys = record { keys = keys; k = k; except = None }

abbrev pub load_answer : Rules → TableRead → List Entry → Reply
load_answer rules (IsTable table) now = load_reply rules.limits table now
load_answer rules (NoTable fault) now = fault_reply fault

abbrev pub replace_answer : Rules → TableRead → List Entry → Reply
replace_answer rules (IsTable table) now = replace_reply rules.limits table now
replace_answer rules (NoTable fault) now = fault_reply fault

abbrev pub search_answer : ℕ → QueryRead → List Entry → Reply
search_answer k (IsQuery keys) pinned = search_reply (plain_query k keys) pinned
search_answer k (NoQuery fault) pinned = fault_reply fault

abbrev pub contain_answer : ℕ → ℕ → QueryRead → List Entry → Reply
contain_answer a b (IsQuery keys) pinned = contain_reply keys a b pinned
contain_answer a b (NoQuery fault) pinned = fault_reply fault

abbrev pub past_answer : ℕ → ℕ → QueryRead → List Entry → Reply
past_answer asked k (IsQuery keys) now = past_reply keys asked k now
past_answer asked k (NoQuery fault) now = fault_reply fault

-- the reply to a command that was pinned at one journal and is answered at another
abbrev pub answer_to : Rules → Task → List Entry → List Entry → Reply
answer_to rules (Load name body) pinned now = load_answer rules (table_read rules.keys name body) now
answer_to rules (LoadFile name file) pinned now = load_answer rules (file_read rules.keys name file) now
answer_to rules (DropTable name) pinned now = drop_reply rules.limits name now
answer_to rules (Replace name body) pinned now = replace_answer rules (table_read rules.keys name body) now
answer_to rules Tables pinned now = tables_reply now
answer_to rules (Search k body) pinned now = search_answer k (query_read rules.keys body) pinned
answer_to rules (Like k name place) pinned now = like_reply k name place pinned
answer_to rules (Contain a b body) pinned now = contain_answer a b (query_read rules.keys body) pinned
answer_to rules (AsOf asked k body) pinned now = past_answer asked k (query_read rules.keys body) now
answer_to rules (Merge all) pinned now = merge_reply (policy_of all) pinned now

-- A search, a like, a contain and a merge have a pin of their own. An asof sees the journal once, when it is answered.
abbrev pub has_pin : Task → Bool
has_pin (Load name body) = false
has_pin (LoadFile name file) = false
has_pin (DropTable name) = false
has_pin (Replace name body) = false
has_pin Tables = false
has_pin (Search k body) = true
has_pin (Like k name place) = true
has_pin (Contain a b body) = true
has_pin (AsOf asked k body) = false
has_pin (Merge all) = true

-- what a command adds if it is accepted
abbrev pub loads : TableRead → List What
loads (IsTable table) = journal.Loaded table ∷ []
loads (NoTable fault) = []

abbrev pub replaces : TableRead → List What
replaces (IsTable table) = journal.Replaced table ∷ []
replaces (NoTable fault) = []

abbrev pub swaps : Option (List ℕ × List ℕ) → List What
swaps None = []
swaps (Some planned) = journal.Swapped planned.0 planned.1 ∷ []

abbrev pub change_of : Rules → Task → List Entry → List What
change_of rules (Load name body) pinned = loads (table_read rules.keys name body)
change_of rules (LoadFile name file) pinned = loads (file_read rules.keys name file)
change_of rules (DropTable name) pinned = journal.Dropped name ∷ []
change_of rules (Replace name body) pinned = replaces (table_read rules.keys name body)
change_of rules Tables pinned = []
change_of rules (Search k body) pinned = []
change_of rules (Like k name place) pinned = []
change_of rules (Contain a b body) pinned = []
change_of rules (AsOf asked k body) pinned = []
change_of rules (Merge all) pinned = swaps (plan (policy_of all) pinned)

-- the positions of a reply: none, one that it saw, or that of its own entry; a merge also has the position of its plan
pub data Standing : Type 0 where
  Nowhere : Standing
  Saw : (at : ℕ) → Standing
  Added : (at : ℕ) → Standing
  PlannedAndSaw : (pinned at : ℕ) → Standing
  PlannedAndAdded : (pinned at : ℕ) → Standing

abbrev pub standing : Reply → Standing
standing (Loaded name columns members at) = Added at
standing (Dropped name at) = Added at
standing (Replaced name columns members at) = Added at
standing (Listed tables at) = Saw at
standing (Found query rows reads probes layout) = Saw layout.at
standing (Past query rows asked at) = Saw at
standing (Merged layout parts tables at) = PlannedAndAdded layout.at at
standing (Repeated name at) = Saw at
standing (Unknown name at) = Saw at
standing (NoColumn name place at) = Saw at
standing (Full which count more at) = Saw at
standing (NothingToMerge layout) = Saw layout.at
standing (Later asked at) = Saw at
standing (Stale layout gone at) = PlannedAndSaw layout.at at
standing reply = Nowhere

abbrev pub is_accepted : Standing → Bool
is_accepted Nowhere = false
is_accepted (Saw at) = false
is_accepted (Added at) = true
is_accepted (PlannedAndSaw pinned at) = false
is_accepted (PlannedAndAdded pinned at) = true

abbrev pub adds : Rules → Task → List Entry → Reply → List What
adds rules task pinned reply = if is_accepted (standing reply) then change_of rules task pinned else []
