-- The names of a right record are those of its commands.
use Rattle.std.proofs.Common.{◌≡◌, refl, ap, ◌∙◌, subst, ℕ, zero, suc, ◌+◌, ◌-◌, List, [], ◌∷◌, ◌++◌, map, flat_map, length, take, drop, Bool, true, false, not, cond, arith}
use Rattle.std.proofs.lemmas.Bool.Decides.{nat_tests}
use Rattle.std.specs.Prelude.{nat_le, ◌&&◌, ◌==◌, ⊤, Option, Some, None, find, filter, slice_get, nat_lt}
use Rattle.std.specs.List.{AllByRecursion, list_all, enumerate_from, fold, range_with_len}
use Rattle.std.specs.Ordering.{is_lt}
use Rattle.record_model.specs.Rules.{Rules}
use Rattle.lake_model.specs.declared.Keys.{Keys}
use Rattle.lake_model.specs.declared.CsvRefused.{CsvRefused}
use Rattle.lake_model.specs.declared.CsvRefused.TheVariants as csv
use Rattle.lake_model.specs.declared.SetRefused.{SetRefused}
use Rattle.lake_model.specs.declared.SetRefused.TheVariants as sets
use Rattle.lake_model.specs.declared.QueryRefused.TheVariants as query
use Rattle.lake_model.specs.Sorting.{in_order, put_in_order}
use Rattle.lake_model.specs.Texts.{Text}
use Rattle.lake_model.specs.Records.{records_of, csv_fault, most_columns, sets_fault}
use Rattle.lake_model.specs.Tables.{is_name, Table, Column, Line, line_of, members}
use Rattle.lake_model.specs.Answer.{Row, Query, answer, all_rows, rows_of_table, row_of, row_cmp, is_excepted}
use Rattle.search_model.specs.Contain.{need, contain}
use Rattle.lake_model.specs.Journal.{What, Entry, entry_with, live, live_after, live_table, without, is_live, has_name, counts}
use Rattle.lake_model.specs.Journal as journal
use Rattle.lake_model.specs.Layout.{Part, layout}
use Rattle.lake_model.specs.Limits.{Bounded, is_passed, load_bounds, drop_bounds, replace_bounds}
use Rattle.lake_model.specs.Plan.{plan, planned_parts}
use Rattle.layout_laws.specs.Steps.{has_part}
use Rattle.script_model.specs.Commands.{command_with, Command, Batch, Task, Load, LoadFile, DropTable, Replace, Tables, Search, Like, Contain, AsOf, Merge, File, Bytes, Failed, Missing, TooLong}
use Rattle.record_model.specs.Replies.{Reply, Loaded, Dropped, Replaced, Past, Later, Repeated, Unknown, Fault, OfCsv, OfSets, OfQuery, OfFile, FailedFault, MissingFault, TooLongFault, fault_reply, unless_lake_full, drop_reply, like_table, like_column, search_reply, merge_planned, merge_gone}
use Rattle.record_model.specs.Answered.{TableRead, IsTable, NoTable, table_read, sets_read, file_read, QueryRead, IsQuery, NoQuery, query_read, load_answer, replace_answer, search_answer, contain_answer, past_answer, loads, replaces, swaps, policy_of, answer_to, change_of}
use Rattle.record_model.specs.Record.{Answered, RunRecord}
use Rattle.record_model.specs.Play.{Done, who_of, merger_commands}
use Rattle.script_model.specs.Commands.{updates}
use Rattle.script_model.specs.Lanes.{IsOfLanes}
use Rattle.record_model.specs.Right.{pinned_by, made_by, IsRecordRight}
use Rattle.list_laws.proofs.ListLemmas.{all_append, all_filter}
use Rattle.std.proofs.lemmas.Bool.{and_parts}
use Rattle.trace_laws.specs.Hints.{Hint, Wanting, Stands, reply_by}
use Rattle.trace_laws.specs.Checks.{dones}
use Rattle.trace_laws.specs.Rebuilt.{Hinted, is_at, pinned_of, put_by, rebuilt, all_dones, hinted_of, answer_again}
use Rattle.trace_laws.specs.Reading.{is_clean, IsName}
use Rattle.trace_laws.specs.Named.{IsReplyNamed, IsWhatNamed, IsRecordNamed, IsTaskNamed, IsBatchNamed}
use Rattle.trace_laws.proofs.RecordLemmas.{all_take}
use Rattle.trace_laws.proofs.RebuiltLemmas.{hints_tell}

-- ---- what a command adds

abbrev IsTableNamed : Table → Type 0
IsTableNamed table = IsName table.name

abbrev IsReadNamed : TableRead → Type 0
IsReadNamed (IsTable table) = IsTableNamed table
IsReadNamed (NoTable fault) = ⊤

read_named : (keys : Keys) (name : Text) (bytes : List ℕ) → IsName name → IsReadNamed (table_read keys name bytes)
unfolding table_read
read_named keys name bytes h = by (csv_fault (most_columns keys) bytes) (sets_fault keys (records_of bytes))
  where
    by : (a : Option CsvRefused) (b : Option SetRefused) → IsReadNamed (elim a [ None ↦ sets_read keys name (records_of bytes) b | Some why ↦ NoTable (OfCsv why) ])
    by None None = h
    by None (Some why) = tt
    by (Some why) b = tt

file_named : (keys : Keys) (name : Text) (file : File) → IsName name → IsReadNamed (file_read keys name file)
file_named keys name (Bytes bytes) h = read_named keys name bytes h
file_named keys name Failed h = tt
file_named keys name Missing h = tt
file_named keys name TooLong h = tt

abbrev AreWhatsNamed : List What → Type 0
AreWhatsNamed whats = AllByRecursion IsWhatNamed whats

loads_named : (read : TableRead) → IsReadNamed read → AreWhatsNamed (loads read)
loads_named (IsTable table) h = (h, tt)
loads_named (NoTable fault) h = tt

replaces_named : (read : TableRead) → IsReadNamed read → AreWhatsNamed (replaces read)
replaces_named (IsTable table) h = (h, tt)
replaces_named (NoTable fault) h = tt

swaps_named : (planned : Option (List ℕ × List ℕ)) → AreWhatsNamed (swaps planned)
swaps_named None = tt
swaps_named (Some planned) = (tt, tt)

change_named : (rules : Rules) (task : Task) (pinned : List Entry) → IsTaskNamed task → AreWhatsNamed (change_of rules task pinned)
change_named rules (Load name body) pinned h = loads_named (table_read rules.keys name body) (read_named rules.keys name body h)
change_named rules (LoadFile name file) pinned h = loads_named (file_read rules.keys name file) (file_named rules.keys name file h)
change_named rules (DropTable name) pinned h = (h, tt)
change_named rules (Replace name body) pinned h = replaces_named (table_read rules.keys name body) (read_named rules.keys name body h)
change_named rules Tables pinned h = tt
change_named rules (Search k body) pinned h = tt
change_named rules (Like k name place) pinned h = tt
change_named rules (Contain a b body) pinned h = tt
change_named rules (AsOf asked k body) pinned h = tt
change_named rules (Merge all) pinned h = swaps_named (plan (policy_of all) pinned)

-- ---- the journal

abbrev pub AreEntriesNamed : List Entry → Type 0
AreEntriesNamed entries = AllByRecursion (λ (e : Entry). IsWhatNamed e.what) entries

abbrev pub AreHintedNamed : List Hinted → Type 0
AreHintedNamed hinted = AllByRecursion (λ (h : Hinted). IsTaskNamed h.command.task) hinted

entries_named : (command : Command) (whats : List What) → AreWhatsNamed whats → AreEntriesNamed (map (entry_with (who_of command)) whats)
entries_named command [] h = tt
entries_named command (what ∷ whats) h = (h.0, entries_named command whats h.1)

abbrev IsFoundNamed : Option Hinted → Type 0
IsFoundNamed None = ⊤
IsFoundNamed (Some h) = IsTaskNamed h.command.task

find_named : (n : ℕ) (hinted : List Hinted) → AreHintedNamed hinted → IsFoundNamed (find (λ (h : Hinted). is_at n h.hint) hinted)
find_named n [] named = tt
find_named n (h ∷ hinted) named = by (is_at n h.hint) (find_named n hinted named.1)
  where
    by : (b : Bool) → IsFoundNamed (find (λ (h : Hinted). is_at n h.hint) hinted) → IsFoundNamed (cond b (Some h) (find (λ (h : Hinted). is_at n h.hint) hinted))
    by true rest = named.0
    by false rest = rest

put_named : (rules : Rules) (journal : List Entry) (found : Option Hinted) → IsFoundNamed found → AreEntriesNamed (put_by rules journal found)
put_named rules journal None named = tt
put_named rules journal (Some h) named = entries_named h.command (change_of rules h.command.task (take (pinned_of h.hint) journal)) (change_named rules h.command.task (take (pinned_of h.hint) journal) named)

pub rebuilt_named : (rules : Rules) (hinted : List Hinted) (n : ℕ) → AreHintedNamed hinted → AreEntriesNamed (rebuilt rules hinted n)
rebuilt_named rules hinted zero named = tt
rebuilt_named rules hinted (suc n) named =
    all_append (λ (e : Entry). IsWhatNamed e.what) (rebuilt rules hinted n) (put_by rules (rebuilt rules hinted n) (find (λ (h : Hinted). is_at (suc n) h.hint) hinted)) (rebuilt_named rules hinted n named)
    (put_named rules (rebuilt rules hinted n) (find (λ (h : Hinted). is_at (suc n) h.hint) hinted) (find_named (suc n) hinted named))

-- ---- live tables

abbrev AreTablesNamed : List Table → Type 0
AreTablesNamed tables = AllByRecursion IsTableNamed tables

after_named : (tables : List Table) (what : What) → AreTablesNamed tables → IsWhatNamed what → AreTablesNamed (live_after tables what)
after_named tables (journal.Loaded table) h k = all_append IsTableNamed tables (table ∷ []) h (k, tt)
after_named tables (journal.Dropped name) h k = all_filter IsTableNamed (λ table. not (has_name name table)) tables h
after_named tables (journal.Replaced table) h k = all_append IsTableNamed (without table.name tables) (table ∷ []) (all_filter IsTableNamed (λ other. not (has_name table.name other)) tables h) (k, tt)
after_named tables (journal.Swapped planned kept) h k = h

fold_named : (tables : List Table) (entries : List Entry) → AreTablesNamed tables → AreEntriesNamed entries → AreTablesNamed (fold (λ tables (e : Entry). live_after tables e.what) tables entries)
fold_named tables [] h k = h
fold_named tables (e ∷ entries) h k = fold_named (live_after tables e.what) entries (after_named tables e.what h k.0) k.1

live_named : (entries : List Entry) → AreEntriesNamed entries → AreTablesNamed (live entries)
live_named entries h = fold_named [] entries tt h

-- ---- rows

abbrev IsRowNamed : Row → Type 0
IsRowNamed row = IsName row.table

abbrev AreRowsNamed : List Row → Type 0
AreRowsNamed rows = AllByRecursion IsRowNamed rows

columns_named : (keys : List Text) (table : Text) (columns : List (ℕ × Column)) → IsName table → AreRowsNamed (map (λ (c : ℕ × Column). row_of keys table c.0 c.1) columns)
columns_named keys table [] h = tt
columns_named keys table (c ∷ columns) h = (h, columns_named keys table columns h)

all_rows_named : (keys : List Text) (tables : List Table) → AreTablesNamed tables → AreRowsNamed (flat_map (rows_of_table keys) tables)
all_rows_named keys [] h = tt
all_rows_named keys (t ∷ tables) h =
    all_append IsRowNamed (rows_of_table keys t) (flat_map (rows_of_table keys) tables)
    (all_filter IsRowNamed (λ (row : Row). nat_lt 0 row.overlap) (map (λ (c : ℕ × Column). row_of keys t.name c.0 c.1) (enumerate_from 1 t.columns)) (columns_named keys t.name (enumerate_from 1 t.columns) h.0))
    (all_rows_named keys tables h.1)

put_rows : (r : Row) (rows : List Row) → IsRowNamed r → AreRowsNamed rows → AreRowsNamed (put_in_order row_cmp r rows)
unfolding put_in_order
put_rows r [] h k = (h, tt)
put_rows r (s ∷ rows) h k = by (is_lt (row_cmp s r)) (put_rows r rows h k.1)
  where
    by : (b : Bool) → AreRowsNamed (put_in_order row_cmp r rows) → AreRowsNamed (cond b (s ∷ put_in_order row_cmp r rows) (r ∷ s ∷ rows))
    by true rest = (k.0, rest)
    by false rest = (h, k)

sorted_named : (rows : List Row) → AreRowsNamed rows → AreRowsNamed (in_order row_cmp rows)
unfolding in_order
sorted_named [] h = tt
sorted_named (r ∷ rows) h = put_rows r (in_order row_cmp rows) h.0 (sorted_named rows h.1)

answer_named : (tables : List Table) (keys : List Text) (k : ℕ) (except : Option Text) → AreTablesNamed tables → AreRowsNamed (answer tables keys k except)
answer_named tables keys k except h =
    let rest : List Table = filter (λ table. not (is_excepted except table.name)) tables in
    all_take IsRowNamed k (in_order row_cmp (flat_map (rows_of_table keys) rest)) (sorted_named (flat_map (rows_of_table keys) rest) (all_rows_named keys rest (all_filter IsTableNamed (λ table. not (is_excepted except table.name)) tables h)))

contain_named : (tables : List Table) (keys : List Text) (a b : ℕ) → AreTablesNamed tables → AreRowsNamed (contain tables keys a b)
contain_named tables keys a b h =
    let rest : List Table = filter (λ table. not (is_excepted None table.name)) tables in
    let rows : AreRowsNamed (all_rows tables keys None) = all_rows_named keys rest (all_filter IsTableNamed (λ table. not (is_excepted None table.name)) tables h) in
    sorted_named (filter (λ (row : Row). nat_le (need a b (length keys)) row.overlap) (all_rows tables keys None)) (all_filter IsRowNamed (λ (row : Row). nat_le (need a b (length keys)) row.overlap) (all_rows tables keys None) rows)

lines_named : (tables : List Table) → AreTablesNamed tables → AllByRecursion (λ (line : Line). IsName line.name) (map line_of tables)
lines_named [] h = tt
lines_named (t ∷ tables) h = (h.0, lines_named tables h.1)

-- ---- replies

fault_named : (fault : Fault) → IsReplyNamed (fault_reply fault)
fault_named (OfCsv csv.NoHeader) = tt
fault_named (OfCsv (csv.TooManyColumns got)) = tt
fault_named (OfCsv (csv.Unequal row want got)) = tt
fault_named (OfCsv (csv.NotUtf8 row field)) = tt
fault_named (OfCsv csv.NoMemory) = tt
fault_named (OfSets (sets.TooManyValues place)) = tt
fault_named (OfSets sets.NoMemory) = tt
fault_named (OfQuery (query.NotUtf8 line)) = tt
fault_named (OfQuery query.TooManyValues) = tt
fault_named (OfQuery query.NoMemory) = tt
fault_named (OfFile FailedFault) = tt
fault_named (OfFile MissingFault) = tt
fault_named (OfFile TooLongFault) = tt

full_named : (at : ℕ) (reply : Reply) (bound : Option Bounded) → IsReplyNamed reply → IsReplyNamed (unless_lake_full at reply bound)
full_named at reply None h = h
full_named at reply (Some b) h = tt

load_named : (rules : Rules) (read : TableRead) (now : List Entry) → IsReadNamed read → IsReplyNamed (load_answer rules read now)
load_named rules (IsTable table) now h = by (is_live now table.name)
  where
    by : (b : Bool) → IsReplyNamed (cond b (Repeated table.name (length now)) (unless_lake_full (length now) (Loaded table.name (length table.columns) (members table) (length now + 1)) (find is_passed (load_bounds rules.limits table (counts now)))))
    by true = h
    by false = full_named (length now) (Loaded table.name (length table.columns) (members table) (length now + 1)) (find is_passed (load_bounds rules.limits table (counts now))) h
load_named rules (NoTable fault) now h = fault_named fault

drop_named : (rules : Rules) (name : Text) (now : List Entry) → IsName name → IsReplyNamed (drop_reply rules.limits name now)
drop_named rules name now h = by (is_live now name)
  where
    by : (b : Bool) → IsReplyNamed (cond b (unless_lake_full (length now) (Dropped name (length now + 1)) (find is_passed (drop_bounds rules.limits (counts now)))) (Unknown name (length now)))
    by true = full_named (length now) (Dropped name (length now + 1)) (find is_passed (drop_bounds rules.limits (counts now))) h
    by false = h

replace_named : (rules : Rules) (read : TableRead) (now : List Entry) → IsReadNamed read → IsReplyNamed (replace_answer rules read now)
replace_named rules (IsTable table) now h = by (is_live now table.name)
  where
    by : (b : Bool) → IsReplyNamed (cond b (unless_lake_full (length now) (Replaced table.name (length table.columns) (members table) (length now + 1)) (find is_passed (replace_bounds rules.limits table (counts now)))) (Unknown table.name (length now)))
    by true = full_named (length now) (Replaced table.name (length table.columns) (members table) (length now + 1)) (find is_passed (replace_bounds rules.limits table (counts now))) h
    by false = h
replace_named rules (NoTable fault) now h = fault_named fault

search_named : (asked : Query) (pinned : List Entry) → AreEntriesNamed pinned → IsReplyNamed (search_reply asked pinned)
search_named asked pinned h = answer_named (live pinned) asked.keys asked.k asked.except (live_named pinned h)

search_answer_named : (k : ℕ) (read : QueryRead) (pinned : List Entry) → AreEntriesNamed pinned → IsReplyNamed (search_answer k read pinned)
search_answer_named k (IsQuery keys) pinned h = search_named (record { keys = keys; k = k; except = None }) pinned h
search_answer_named k (NoQuery fault) pinned h = fault_named fault

contain_answer_named : (a b : ℕ) (read : QueryRead) (pinned : List Entry) → AreEntriesNamed pinned → IsReplyNamed (contain_answer a b read pinned)
contain_answer_named a b (IsQuery keys) pinned h = contain_named (live pinned) keys a b (live_named pinned h)
contain_answer_named a b (NoQuery fault) pinned h = fault_named fault

past_answer_named : (asked k : ℕ) (read : QueryRead) (now : List Entry) → AreEntriesNamed now → IsReplyNamed (past_answer asked k read now)
past_answer_named asked k (IsQuery keys) now h = by (nat_lt (length now) asked)
  where
    by : (b : Bool) → IsReplyNamed (cond b (Later asked (length now)) (Past (length keys) (answer (live (take asked now)) keys k None) asked (length now)))
    by true = tt
    by false = answer_named (live (take asked now)) keys k None (live_named (take asked now) (all_take (λ (e : Entry). IsWhatNamed e.what) asked now h))
past_answer_named asked k (NoQuery fault) now h = fault_named fault

like_column_named : (k : ℕ) (name : Text) (place : ℕ) (pinned : List Entry) (found : Option Column) → IsName name → AreEntriesNamed pinned → IsReplyNamed (like_column k name place pinned found)
like_column_named k name place pinned None h named = h
like_column_named k name place pinned (Some column) h named = search_named (record { keys = column.keys; k = k; except = Some name }) pinned named

like_table_named : (k : ℕ) (name : Text) (place : ℕ) (pinned : List Entry) (found : Option Table) → IsName name → AreEntriesNamed pinned → IsReplyNamed (like_table k name place pinned found)
like_table_named k name place pinned None h named = h
like_table_named k name place pinned (Some table) h named = like_column_named k name place pinned (slice_get table.columns (place - 1)) h named

gone_named : (pinned now : List Entry) (parts : List Part) (found : Option Part) → IsReplyNamed (merge_gone pinned now parts found)
gone_named pinned now parts None = tt
gone_named pinned now parts (Some part) = tt

merge_named : (pinned now : List Entry) (parts : List Part) → IsReplyNamed (merge_planned pinned now parts)
merge_named pinned now [] = tt
merge_named pinned now (part ∷ parts) = gone_named pinned now (part ∷ parts) (find (λ planned. not (has_part (layout now) planned)) (part ∷ parts))

answer_to_named : (rules : Rules) (task : Task) (pinned now : List Entry) → IsTaskNamed task → AreEntriesNamed pinned → AreEntriesNamed now → IsReplyNamed (answer_to rules task pinned now)
answer_to_named rules (Load name body) pinned now h p n = load_named rules (table_read rules.keys name body) now (read_named rules.keys name body h)
answer_to_named rules (LoadFile name file) pinned now h p n = load_named rules (file_read rules.keys name file) now (file_named rules.keys name file h)
answer_to_named rules (DropTable name) pinned now h p n = drop_named rules name now h
answer_to_named rules (Replace name body) pinned now h p n = replace_named rules (table_read rules.keys name body) now (read_named rules.keys name body h)
answer_to_named rules Tables pinned now h p n = lines_named (live now) (live_named now n)
answer_to_named rules (Search k body) pinned now h p n = search_answer_named k (query_read rules.keys body) pinned p
answer_to_named rules (Like k name place) pinned now h p n = like_table_named k name place pinned (live_table pinned name) h p
answer_to_named rules (Contain a b body) pinned now h p n = contain_answer_named a b (query_read rules.keys body) pinned p
answer_to_named rules (AsOf asked k body) pinned now h p n = past_answer_named asked k (query_read rules.keys body) now n
answer_to_named rules (Merge all) pinned now h p n = merge_named pinned now (planned_parts (policy_of all) (layout pinned))

reply_named : (rules : Rules) (journal : List Entry) (command : Command) (hint : Hint) → IsTaskNamed command.task → AreEntriesNamed journal → IsReplyNamed (reply_by rules journal command hint)
reply_named rules journal command Wanting h named = tt
reply_named rules journal command (Stands s) h named =
    answer_to_named rules command.task (take (pinned_by s) journal) (take (made_by s) journal) h (all_take (λ (e : Entry). IsWhatNamed e.what) (pinned_by s) journal named) (all_take (λ (e : Entry). IsWhatNamed e.what) (made_by s) journal named)

pub answers_named : (rules : Rules) (journal : List Entry) (hinted : List Hinted) → AreHintedNamed hinted → AreEntriesNamed journal → AllByRecursion (λ (a : Answered). IsReplyNamed a.reply) (map (answer_again rules journal) hinted)
answers_named rules journal [] h named = tt
answers_named rules journal (x ∷ hinted) h named = (reply_named rules journal x.command x.hint h.0 named, answers_named rules journal hinted h.1 named)

-- ---- the commands of a run

merges_named : (merge : Bool) (next : ℕ) (batch : Batch) → IsBatchNamed (merger_commands merge next batch)
merges_named false next batch = tt
merges_named true next batch = each (range_with_len next (updates batch))
  where
    each : (ns : List ℕ) → IsBatchNamed (map (λ n. command_with n 0 (Merge false)) ns)
    each [] = tt
    each (n ∷ ns) = (tt, each ns)

dones_named : (commands : List Command) (answers : List Answered) → IsBatchNamed commands → AreHintedNamed (hinted_of (dones commands answers))
dones_named [] answers h = tt
dones_named (c ∷ commands) [] h = tt
dones_named (c ∷ commands) (a ∷ answers) h = (h.0, dones_named commands answers h.1)

hinted_split : (ds es : List Done) → AreHintedNamed (hinted_of ds) → AreHintedNamed (hinted_of es) → AreHintedNamed (hinted_of (ds ++ es))
hinted_split [] es h k = k
hinted_split (d ∷ ds) es h k = (h.0, hinted_split ds es h.1 k)

all_dones_named : (merge : Bool) (next : ℕ) (batches : List Batch) (answers : List Answered) → AllByRecursion IsBatchNamed batches → AreHintedNamed (hinted_of (all_dones merge next batches answers))
all_dones_named merge next [] answers h = tt
all_dones_named merge next (batch ∷ batches) answers h =
    let commands : List Command = batch ++ merger_commands merge next batch in
    hinted_split (dones commands (take (length commands) answers)) (all_dones merge (next + updates batch) batches (drop (length commands) answers))
    (dones_named commands (take (length commands) answers) (all_append (λ (c : Command). IsTaskNamed c.task) batch (merger_commands merge next batch) h.0 (merges_named merge next batch)))
    (all_dones_named merge (next + updates batch) batches (drop (length commands) answers) h.1)

-- The names of a right record are those of its commands.
pub right_named : (rules : Rules) (lanes : ℕ) (merge : Bool) (batches : List Batch) (made : RunRecord) → AllByRecursion (IsOfLanes lanes) batches → AllByRecursion IsBatchNamed batches
    → IsRecordRight rules lanes merge batches made → IsRecordNamed made
right_named rules lanes merge batches made of named right =
    let hinted : List Hinted = hinted_of (all_dones merge 1 batches made.answers) in
    let told = hints_tell rules lanes merge batches made of right in
    let all : AreHintedNamed hinted = all_dones_named merge 1 batches made.answers named in
    let journal : AreEntriesNamed made.journal = subst AreEntriesNamed told.0 (rebuilt_named rules hinted (length made.journal) all) in
    record {
      replies = subst (λ (answers : List Answered). AllByRecursion (λ (a : Answered). IsReplyNamed a.reply) answers) told.1 (answers_named rules made.journal hinted all journal);
      entries = journal;
    }

-- ---- names

-- a table's name is clean
pub name_clean : (name : Text) → is_name name ≡ true → IsName name
name_clean name h = bytes_clean name (and_parts (nat_le 1 (length name) && nat_le (length name) 255) (list_all (λ byte. nat_le 0x21 byte && nat_le byte 0x7E) name) h).1
  where
    byte_clean : (byte : ℕ) → (nat_le 0x21 byte && nat_le byte 0x7E) ≡ true → (not (byte == 0x20) && not (byte == 0x0A)) ≡ true
    byte_clean byte h = let low = (and_parts (nat_le 0x21 byte) (nat_le byte 0x7E) h).0 in grind (arith, nat_tests, low)

    bytes_clean : (bytes : Text) → list_all (λ byte. nat_le 0x21 byte && nat_le byte 0x7E) bytes ≡ true → is_clean bytes ≡ true
    bytes_clean [] h = refl
    bytes_clean (x ∷ bytes) h =
        let k = and_parts (nat_le 0x21 x && nat_le x 0x7E) (list_all (λ byte. nat_le 0x21 byte && nat_le byte 0x7E) bytes) h in
        ap (λ (b : Bool). b && is_clean bytes) (byte_clean x k.0) ∙ bytes_clean bytes k.1
