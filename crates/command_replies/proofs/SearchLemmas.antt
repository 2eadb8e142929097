-- The answer at a pin is the answer of the definitions at the journal of its version.
use Rattle.std.proofs.Common.{◌≡◌, refl, ap, sym, ◌∙◌, ℕ, ◌-◌, ◌≤◌, List, length, map, Option, Some, None, Bool, true, false, cond, ◌⊎◌, inl, inr, arith}
use Rattle.std.specs.Prelude.{find, nat_eq, slice_get}
use Rattle.std.proofs.lemmas.Bool.Decides.{nat_tests}
use Rattle.std.proofs.lemmas.Simd.{map-map}
use Rattle.lake_model.specs.Answer.{Query, Row, answer}
use Rattle.lake_model.specs.Journal.{Entry, live, has_name, live_table}
use Rattle.lake_model.specs.Layout.{Place, Shown, shown, shown_with, unmarked_of}
use Rattle.lake_model.specs.Tables.{Column, Table, Line, line_of}
use Rattle.lake_model.specs.Texts.{Text}
use Rattle.search_model.specs.declared.Look.{Look}
use Rattle.search_model.specs.Choosers.{profile}
use Rattle.search_model.specs.Looks.{log}
use Rattle.search_model.specs.Contain.{contain, contain_log}
use Rattle.contain_search.specs.Contained.{ContainOf, contain_with}
use Rattle.josie_search.specs.Search.{SearchOf, answer_of, search_with}
use Rattle.segment_core.specs.declared.column.ColumnRefused.{ColumnRefused}
use Rattle.segment_core.specs.declared.column.ColumnRefused.TheVariants as refused
use Rattle.segment_core.specs.Lines.{live_lines}
use Rattle.segment_core.specs.LiveColumn.{column_fault, column_keys, column_of, fault_in, fault_of, keys_in, keys_of}
use Rattle.segment_core.specs.Versions.{VersionOf, live_of}
use Rattle.record_model.specs.Replies.{Found, Listed, search_reply, contain_reply, tables_reply, excepting, like_column, like_table, like_reply}
use Rattle.record_model.specs.Work.{lists_read, sets_probed, contain_reads, contain_probes}
use Rattle.command_replies.specs.Searches.{IsPinOf, found_at, found_with, contained_at, column_reply}
use Rattle.command_replies.proofs.LoadLemmas.{Answers}

-- The rows of a search, and its log, are those of the query at the version.
pub found_here : (version : VersionOf) (query : Query) (search : SearchOf) (rows : List Row) (looks : List Look) (layout : Shown)
    → search ≡ search_with version query → rows ≡ answer_of (live_of search.version.parts) search.query → looks ≡ log profile search.query search.version.parts
    → layout ≡ shown_with version.at (shown version.parts) → found_with query.keys rows looks layout ≡ found_at version query
unfolding lists_read sets_probed
found_here version query search rows looks layout asked answered logged at =
    let all : rows ≡ answer_of (live_of version.parts) query = answered ∙ ap (λ (s : SearchOf). answer_of (live_of s.version.parts) s.query) asked in
    let entries : looks ≡ log profile query version.parts = logged ∙ ap (λ (s : SearchOf). log profile s.query s.version.parts) asked in
    λ i. found_with query.keys (all i) (entries i) (at i)

-- the same for a search for the columns that hold a fraction of the keys
pub contained_here : (version : VersionOf) (keys : List Text) (a b : ℕ) (search : ContainOf) (rows : List Row) (looks : List Look) (layout : Shown)
    → search ≡ contain_with version keys a b → rows ≡ contain (live_of search.version.parts) search.keys search.a search.b → looks ≡ contain_log search.keys search.a search.b search.version.parts
    → layout ≡ shown_with version.at (shown version.parts) → found_with keys rows looks layout ≡ contained_at version keys a b
unfolding contain_reads contain_probes
contained_here version keys a b search rows looks layout asked answered logged at =
    let all : rows ≡ contain (live_of version.parts) keys a b = answered ∙ ap (λ (s : ContainOf). contain (live_of s.version.parts) s.keys s.a s.b) asked in
    let entries : looks ≡ contain_log keys a b version.parts = logged ∙ ap (λ (s : ContainOf). contain_log s.keys s.a s.b s.version.parts) asked in
    λ i. found_with keys (all i) (entries i) (at i)

pub contained_now : (version : VersionOf) (journal : List Entry) (keys : List Text) (a b : ℕ) → IsPinOf journal version → contained_at version keys a b ≡ contain_reply keys a b journal
contained_now version journal keys a b is = λ i.
    Found (length keys) (contain (is.searched i) keys a b) (contain_reads keys a b (is.current i).parts) (contain_probes keys a b (is.current i).parts)
    (shown_with (is.current i).at (shown (is.current i).parts))

pub found_now : (version : VersionOf) (journal : List Entry) (query : Query) → IsPinOf journal version → found_at version query ≡ search_reply query journal
found_now version journal query is = λ i.
    Found (length query.keys) (answer (is.searched i) query.keys query.k query.except) (lists_read query (is.current i).parts) (sets_probed query (is.current i).parts)
    (shown_with (is.current i).at (shown (is.current i).parts))

pub listed_now : (version : VersionOf) (journal : List Entry) (lines : List Line) (at : ℕ) → IsPinOf journal version → lines ≡ live_lines version.parts → at ≡ version.at
    → Listed lines at ≡ tables_reply journal
listed_now version journal lines at is all here =
    let same : lines ≡ map line_of (live journal) = all ∙ sym (map-map line_of (λ (place : Place). place.table) (unmarked_of version.parts)) ∙ ap (map line_of) is.searched in
    λ i. Listed (same i) ((here ∙ ap (λ (v : VersionOf). v.at) is.current) i)

-- ---- the column of a like

with_column : (k : ℕ) (name : Text) (place : ℕ) (journal : List Entry) (column : Option Column) → fault_of column ≡ None
    → like_column k name place journal column ≡ search_reply (excepting name k (keys_of column)) journal
with_column k name place journal None h = absurd (let f : Some refused.UnknownColumn ≡ None = h in cc)
with_column k name place journal (Some column) h = refl

column_at : (table : Table) (place : ℕ) → 1 ≤ place → column_of table place ≡ slice_get table.columns (place - 1)
column_at table place low =
    let apart : nat_eq place 0 ≡ false = grind (arith, nat_tests, low) in
    ap (λ (b : Bool). cond {A = Option Column} b None (slice_get table.columns (place - 1))) apart

with_table : (k : ℕ) (name : Text) (place : ℕ) (journal : List Entry) (table : Option Table) → 1 ≤ place → fault_in place table ≡ None
    → like_table k name place journal table ≡ search_reply (excepting name k (keys_in place table)) journal
with_table k name place journal None low h = absurd (let f : Some refused.UnknownTable ≡ None = h in cc)
with_table k name place journal (Some table) low h =
    with_column k name place journal (slice_get table.columns (place - 1)) (sym (ap fault_of (column_at table place low)) ∙ h)
    ∙ ap (λ (column : Option Column). search_reply (excepting name k (keys_of column)) journal) (sym (column_at table place low))

-- a like of a column that exists
pub like_found : (version : VersionOf) (journal : List Entry) (k : ℕ) (name : Text) (place : ℕ) (keys : List Text) → IsPinOf journal version → 1 ≤ place
    → column_fault version.parts name place ≡ None → keys ≡ column_keys version.parts name place → search_reply (excepting name k keys) journal ≡ like_reply k name place journal
like_found version journal k name place keys is low none same =
    let named : find (has_name name) (live_of version.parts) ≡ live_table journal name = ap (find (has_name name)) is.searched in
    ap (λ (ks : List Text). search_reply (excepting name k ks) journal) same
    ∙ sym (with_table k name place journal (find (has_name name) (live_of version.parts)) low none)
    ∙ ap (like_table k name place journal) named

no_column : (k : ℕ) (name : Text) (place : ℕ) (journal : List Entry) (column : Option Column) (e : ColumnRefused) → fault_of column ≡ Some e
    → column_reply name place (length journal) e ≡ like_column k name place journal column
no_column k name place journal None e h = let same : e ≡ refused.UnknownColumn = cc in ap (column_reply name place (length journal)) same
no_column k name place journal (Some column) e h = absurd (let f : None ≡ Some e = h in cc)

no_table : (k : ℕ) (name : Text) (place : ℕ) (journal : List Entry) (table : Option Table) (e : ColumnRefused) → 1 ≤ place → fault_in place table ≡ Some e
    → column_reply name place (length journal) e ≡ like_table k name place journal table
no_table k name place journal None e low h = let same : e ≡ refused.UnknownTable = cc in ap (column_reply name place (length journal)) same
no_table k name place journal (Some table) e low h = no_column k name place journal (slice_get table.columns (place - 1)) e (sym (ap fault_of (column_at table place low)) ∙ h)

-- a like of a column that does not exist
pub like_refused : (version : VersionOf) (journal : List Entry) (k : ℕ) (name : Text) (place at : ℕ) (e : ColumnRefused) → IsPinOf journal version → 1 ≤ place → at ≡ version.at
    → (e ≡ refused.NoMemory) ⊎ (column_fault version.parts name place ≡ Some e) → Answers (column_reply name place at e) (like_reply k name place journal)
like_refused version journal k name place at e is low here (inl none) = (true, ap (column_reply name place at) none)
like_refused version journal k name place at e is low here (inr h) =
    let named : find (has_name name) (live_of version.parts) ≡ live_table journal name = ap (find (has_name name)) is.searched in
    let position : at ≡ length journal = here ∙ ap (λ (v : VersionOf). v.at) is.current in
    (false, ap (λ (n : ℕ). column_reply name place n e) position ∙ no_table k name place journal (find (has_name name) (live_of version.parts)) e low h ∙ ap (like_table k name place journal) named)
