-- What holds of a watched query after an entry, given what held before it.
use Rattle.std.proofs.Common.{◌≡◌, refl, ap, sym, ◌∙◌, subst, ℕ, ◌+◌, ◌-◌, ◌<◌, ◌≤◌, List, [], ◌∷◌, ◌++◌, true, false, not, length, get_or, arith, cond, take, map, flat_map, append-nil, set, below_more, Option, Some, None}
use Rattle.std.specs.Prelude.{bytes_eq, nat_lt, OnErr, Result, Ok, Err}
use Rattle.std.specs.List.{All, AllByRecursion, IsDistinct, enumerate_from, filter}
use Rattle.std.proofs.Math.ListN.{length-set}
use Rattle.std.proofs.Math.Seq.{take-append_seam}
use Rattle.std.proofs.lemmas.Grind.{flat_map-append}
use Rattle.std.proofs.lemmas.List.{get_or-map, get_or-set_other, get_or-set_same, get_or_default, length-append, length-map, same_lists}
use Rattle.std.proofs.lemmas.List.Elements.{All-push, filter-append}
use Rattle.list_laws.proofs.ListLemmas.{all_filter, all_map, all_of, filter_all, filter_none, split_bool}
use Rattle.lake_model.specs.Texts.{Text}
use Rattle.lake_model.specs.Tables.{Column, Table}
use Rattle.lake_model.specs.Answer.{Row, all_rows, is_excepted, row_cmp, row_of, rows_from, rows_of_table}
use Rattle.lake_model.specs.Sorting.{in_order}
use Rattle.lake_model.specs.Journal.{Entry, What, Loaded, Dropped, Replaced, Swapped, has_name, live, live_after, without}
use Rattle.lake_model.proofs.AnswerLemmas.{row_cmp_total}
use Rattle.lake_model.proofs.LayoutLemmas.{live_more}
use Rattle.lake_model.proofs.SortingLemmas.{length-in_order}
use Rattle.column_watch.specs.Watching.{Tells, WatchOf, answer_of, before_last, rows_of, watch_at, watch_with}
use Rattle.column_watch.specs.Held.{IsColumn, IsCounted, IsCurrent, IsKept, Settles, StateOf, gone_by, put_by, ready, rows_left, rows_put, state_with, still, watch_of}
use Rattle.column_watch.specs.Index.{IsIndexOf}
use Rattle.column_watch.specs.declared.holders.KeyAt.{KeyAt}
use Rattle.column_watch.proofs.CountLemmas.{is_column}
use Rattle.column_watch.proofs.HolderLemmas.{keys_of}
use Rattle.column_watch.proofs.OrderLemmas.{left_again}

-- ---- the rows of the live tables after an entry

abbrev rows_in : List Text → List Table → List Row
rows_in keys tables = flat_map (rows_of_table keys) tables

none_excepted : (tables : List Table) (keys : List Text) → all_rows tables keys None ≡ rows_in keys tables
none_excepted tables keys = ap (rows_in keys) (filter_all (λ table. not (is_excepted None table.name)) tables (all_of (λ table. not (is_excepted None table.name) ≡ true) tables (λ table. refl)))

own_name : (keys : List Text) (name : Text) (n : ℕ) (columns : List Column) (P : Text → Type 0) → P name → AllByRecursion (λ row. P row.table) (rows_from keys name n columns)
own_name keys name n columns P p =
    let row_at : ℕ × Column → Row = λ (c : ℕ × Column). row_of keys name c.0 c.1 in
    all_filter (λ row. P row.table) (λ row. nat_lt 0 row.overlap) (map row_at (enumerate_from n columns)) (all_map (λ row. P row.table) row_at (enumerate_from n columns) (all_of (λ c. P (row_at c).table) (enumerate_from n columns) (λ c. p)))

rows_without : (name : Text) (keys : List Text) (tables : List Table) → rows_in keys (without name tables) ≡ rows_left (Some name) (rows_in keys tables)
rows_without name keys [] = refl
rows_without name keys (table ∷ tables) =
    split_bool _ (has_name name table)
    (λ t.
    let none : filter (λ row. not (bytes_eq row.table name)) (rows_of_table keys table) ≡ [] = filter_none (λ row. not (bytes_eq row.table name)) (rows_of_table keys table) (own_name keys table.name 1 table.columns (λ own. not (bytes_eq own name) ≡ false) (ap not t)) in
    ap (λ b. rows_in keys (cond (not b) (table ∷ without name tables) (without name tables))) t ∙ rows_without name keys tables
    ∙ sym (filter-append (λ row. not (bytes_eq row.table name)) (rows_of_table keys table) (rows_in keys tables) ∙ ap (λ us. us ++ rows_left (Some name) (rows_in keys tables)) none))
    (λ f.
    let all : filter (λ row. not (bytes_eq row.table name)) (rows_of_table keys table) ≡ rows_of_table keys table = filter_all (λ row. not (bytes_eq row.table name)) (rows_of_table keys table) (own_name keys table.name 1 table.columns (λ own. not (bytes_eq own name) ≡ true) (ap not f)) in
    ap (λ b. rows_in keys (cond (not b) (table ∷ without name tables) (without name tables))) f ∙ ap (λ us. rows_of_table keys table ++ us) (rows_without name keys tables)
    ∙ sym (filter-append (λ row. not (bytes_eq row.table name)) (rows_of_table keys table) (rows_in keys tables) ∙ ap (λ us. us ++ rows_left (Some name) (rows_in keys tables)) all))

one_table : (keys : List Text) (tables : List Table) (table : Table) → rows_in keys (tables ++ table ∷ []) ≡ rows_in keys tables ++ rows_of_table keys table
one_table keys tables table = flat_map-append (rows_of_table keys) tables (table ∷ []) ∙ ap (λ us. rows_in keys tables ++ us) (append-nil (rows_of_table keys table))

rows_after : (tables : List Table) (what : What) (keys : List Text) → rows_in keys (live_after tables what) ≡ rows_left (gone_by what) (rows_in keys tables) ++ rows_put keys (put_by what)
rows_after tables (Loaded table) keys = one_table keys tables table
rows_after tables (Dropped name) keys = rows_without name keys tables ∙ sym (append-nil (rows_left (Some name) (rows_in keys tables)))
rows_after tables (Replaced table) keys = one_table keys (without table.name tables) table ∙ ap (λ us. us ++ rows_of_table keys table) (rows_without table.name keys tables)
rows_after tables (Swapped planned kept) keys = sym (append-nil (rows_in keys tables))

pub rows_more : (journal : List Entry) (entry : Entry) (watch : WatchOf) → rows_of (journal ++ entry ∷ []) watch ≡ rows_left (gone_by entry.what) (rows_of journal watch) ++ rows_put watch.keys (put_by entry.what)
rows_more journal entry watch =
    none_excepted (live (journal ++ entry ∷ [])) watch.keys ∙ ap (rows_in watch.keys) (live_more journal entry) ∙ rows_after (live journal) entry.what watch.keys
    ∙ ap (λ us. rows_left (gone_by entry.what) us ++ rows_put watch.keys (put_by entry.what)) (sym (none_excepted (live journal) watch.keys))

before_last_of : (journal : List Entry) (entry : Entry) → before_last (journal ++ entry ∷ []) ≡ journal
before_last_of journal entry =
    let n : length (journal ++ entry ∷ []) - 1 ≡ length journal = omega (arith, length-append journal (entry ∷ [])) in
    ap (λ (m : ℕ). take m (journal ++ entry ∷ [])) n ∙ take-append_seam journal (entry ∷ [])

-- ---- one query

pub current_after : (journal : List Entry) (entry : Entry) (start prepared settled : StateOf) → IsCurrent journal start → prepared ≡ ready start (rows_put start.keys (put_by entry.what)) → Settles (gone_by entry.what) prepared settled
    → IsCurrent (journal ++ entry ∷ []) settled
current_after journal entry start prepared settled h e s =
    let keys : settled.keys ≡ start.keys = s.keys ∙ ap (λ (p : StateOf). p.keys) e in
    let k : settled.k ≡ start.k = s.k ∙ ap (λ (p : StateOf). p.k) e in
    let watch : watch_of settled ≡ watch_of start = λ i. watch_with (keys i) (k i) in
    let gone = gone_by entry.what in
    let put = rows_put start.keys (put_by entry.what) in
    let rows : settled.rows ≡ in_order row_cmp (rows_of (journal ++ entry ∷ []) (watch_of settled)) =
    s.rows ∙ ap (λ (p : StateOf). in_order row_cmp (rows_left gone p.rows ++ p.coming)) e ∙ ap (λ us. in_order row_cmp (rows_left gone us ++ put)) h.rows ∙ left_again gone (rows_of journal (watch_of start)) put
    ∙ ap (in_order row_cmp) (sym (rows_more journal entry (watch_of start))) ∙ ap (λ w. in_order row_cmp (rows_of (journal ++ entry ∷ []) w)) (sym watch) in
    let first : prepared.first ≡ answer_of (before_last (journal ++ entry ∷ [])) (watch_of settled) =
    ap (λ (p : StateOf). p.first) e ∙ ap (take start.k) h.rows ∙ ap (λ w. answer_of journal w) (sym watch) ∙ ap (λ j. answer_of j (watch_of settled)) (sym (before_last_of journal entry)) in
    let last : take settled.k settled.rows ≡ answer_of (journal ++ entry ∷ []) (watch_of settled) = ap (take settled.k) rows in
    record {
      different = subst (IsDistinct bytes_eq) (sym keys) h.different;
      rows = rows;
      told = subst (λ us. Tells settled.changed us (answer_of (journal ++ entry ∷ []) (watch_of settled))) first (subst (Tells settled.changed prepared.first) last s.told);
    }

pub current_still : (journal : List Entry) (start prepared : StateOf) → still prepared ≡ still start → IsCurrent journal start → IsCurrent journal prepared
current_still journal start prepared e h =
    let kept : IsCurrent journal (still start) = record { different = h.different; rows = h.rows; told = h.told } in
    let moved : IsCurrent journal (still prepared) = subst (IsCurrent journal) (sym e) kept in
    record { different = moved.different; rows = moved.rows; told = moved.told }

pub current_first : (keys : List Text) (k : ℕ) → IsDistinct bytes_eq keys → IsCurrent [] (state_with keys k [] [] [] false)
unfolding in_order
current_first keys k d = record { different = d; rows = refl; told = refl }

-- ---- all queries

abbrev no_state : StateOf
no_state = state_with [] 0 [] [] [] false

same_maps : {Y : Type 0} (f : StateOf → Y) (olds news : List StateOf) → length news ≡ length olds → ((i : ℕ) (d : StateOf) → i < length olds → f (get_or news i d) ≡ f (get_or olds i d)) → map f news ≡ map f olds
same_maps f olds news n same =
    same_lists (map f news) (map f olds) (length-map news f ∙ n ∙ sym (length-map olds f))
    (λ k d h.
    let within : k < length news = omega (arith, h, length-map news f) in
    let inside : k < length olds = omega (arith, within, n) in
    get_or-map f news k no_state d within ∙ same k no_state inside ∙ sym (get_or-map f olds k no_state d inside))

-- the queries after all of them were prepared for an entry and settled
module _ (journal : List Entry) (entry : Entry) (table : Option Table) (gone : Option Text) (puts : table ≡ put_by entry.what) (takes : gone ≡ gone_by entry.what) (start prepared settled : List StateOf) (held : List KeyAt)
    (few : length start ≤ 16) (current : All (IsCurrent journal) start) (indexed : IsIndexOf (map (λ state. state.keys) start) held)
    (n : length prepared ≡ length start) (is_ready : (i : ℕ) (d : StateOf) → i < length start → get_or prepared i d ≡ ready (get_or start i d) (rows_put (get_or start i d).keys table))
    (m : length settled ≡ length prepared) (settles : (i : ℕ) (d : StateOf) → i < length prepared → Settles gone (get_or prepared i d) (get_or settled i d)) where
  same_keys : (i : ℕ) (d : StateOf) → i < length start → (get_or settled i d).keys ≡ (get_or start i d).keys
  same_keys i d h = (settles i d (omega (arith, n, h))).keys ∙ ap (λ (p : StateOf). p.keys) (is_ready i d h)

  same_k : (i : ℕ) (d : StateOf) → i < length start → (get_or settled i d).k ≡ (get_or start i d).k
  same_k i d h = (settles i d (omega (arith, n, h))).k ∙ ap (λ (p : StateOf). p.k) (is_ready i d h)

  pub same_queries : map watch_of settled ≡ map watch_of start
  same_queries = same_maps watch_of start settled (m ∙ n) (λ i d h j. watch_with (same_keys i d h j) (same_k i d h j))

  pub kept_after : IsKept (journal ++ entry ∷ []) settled held
  kept_after = record {
    few = omega (arith, few, n, m);
    current = λ i d h. let within : i < length start = omega (arith, h, n, m) in current_after journal entry (get_or start i d) (get_or prepared i d) (get_or settled i d) (current i d within)
        (is_ready i d within ∙ ap (λ (t : Option Table). ready (get_or start i d) (rows_put (get_or start i d).keys t)) puts)
        (subst (λ (g : Option Text). Settles g (get_or prepared i d) (get_or settled i d)) takes (settles i d (omega (arith, n, within))));
    indexed = λ some. subst (λ keys. IsIndexOf keys held) (sym (same_maps (λ state. state.keys) start settled (m ∙ n) same_keys)) indexed;
  }

-- the queries while memory is taken for an entry
module _ (start prepared : List StateOf) (n : length prepared ≡ length start) (same : (i : ℕ) (d : StateOf) → i < length start → still (get_or prepared i d) ≡ still (get_or start i d)) where
  pub still_queries : map watch_of prepared ≡ map watch_of start
  still_queries = same_maps watch_of start prepared n (λ i d h. ap (λ (p : StateOf). watch_of p) (same i d h))

  pub kept_still : (journal : List Entry) (held : List KeyAt) → length start ≤ 16 → All (IsCurrent journal) start → (0 < length journal → IsIndexOf (map (λ state. state.keys) start) held) → IsKept journal prepared held
  kept_still journal held few current indexed = record {
    few = omega (arith, few, n);
    current = λ i d h. let within : i < length start = omega (arith, h, n) in current_still journal (get_or start i d) (get_or prepared i d) (same i d within) (current i d within);
    indexed = λ some. subst (λ keys. IsIndexOf keys held) (sym (same_maps (λ state. state.keys) start prepared n (λ i d h. ap (λ (p : StateOf). p.keys) (same i d h)))) (indexed some);
  }

-- a query by its number
pub watch_of_number : (states : List StateOf) (w : ℕ) (d : StateOf) → w - 1 < length states → watch_at (map watch_of states) w ≡ watch_of (get_or states (w - 1) d)
watch_of_number states w d h = get_or-map watch_of states (w - 1) d (watch_with [] 0) h

module _ (journal : List Entry) (states : List StateOf) (held : List KeyAt) (w : ℕ) (state : StateOf) (h : IsKept journal states held) (low : 1 ≤ w) (high : w ≤ length states) (is : state ≡ get_or states (w - 1) state) where
  of_number : watch_at (map watch_of states) w ≡ watch_of state
  of_number = watch_of_number states w state (omega arith) ∙ ap watch_of (sym is)

  pub kept_rows : length state.rows ≡ length (rows_of journal (watch_at (map watch_of states) w))
  kept_rows =
      let current : IsCurrent journal state = subst (IsCurrent journal) (sym is) (h.current (w - 1) state (omega arith)) in
      ap length current.rows ∙ length-in_order row_cmp_total (rows_of journal (watch_of state)) ∙ ap (λ (v : WatchOf). length (rows_of journal v)) (sym of_number)

-- one more query
pub kept_more : (states : List StateOf) (held : List KeyAt) (keys : List Text) (k : ℕ) → IsKept [] states held → length states < 16 → IsDistinct bytes_eq keys → IsKept [] (states ++ state_with keys k [] [] [] false ∷ []) held
kept_more states held keys k h few d = record {
  few = omega (arith, few, length-append states (state_with keys k [] [] [] false ∷ []));
  current = All-push (IsCurrent []) states (state_with keys k [] [] [] false) h.current (current_first keys k d);
  indexed = λ some. absurd (omega (arith, some));
}

-- ---- queries that are prepared one by one

-- the queries below w are prepared for an entry that puts this table, or none
pub record AreReady (table : Option Table) (w : ℕ) (start now : List StateOf) : Type 0 where
  pub len : length now ≡ length start
  pub done : (i : ℕ) (d : StateOf) → i < w → get_or now i d ≡ ready (get_or start i d) (rows_put (get_or start i d).keys table)
  pub rest : (i : ℕ) (d : StateOf) → w ≤ i → get_or now i d ≡ get_or start i d

module _ (table : Option Table) (counts : List (List ℕ)) (start now : List StateOf) (w : ℕ) (query next : StateOf) (coming : List Row)
    (counted : IsCounted table (keys_of start) counts) (within : w < length now) (h : AreReady table w start now) (is : query ≡ get_or now w query)
    (rows : (keys : List Text) → IsColumn table counts w keys → coming ≡ rows_put keys table) (is_ready : next ≡ ready query coming) where
  same_query : (d : StateOf) → query ≡ get_or start w d
  same_query d = is ∙ get_or_default now w query d within ∙ h.rest w d (omega arith)

  rows_are : coming ≡ rows_put query.keys table
  rows_are =
      let inside : w < length start = omega (arith, within, h.len) in
      let enough : w < length (keys_of start) = omega (arith, inside, length-map start (λ (state : StateOf). state.keys)) in
      let keys : get_or (keys_of start) w [] ≡ query.keys = get_or-map (λ (state : StateOf). state.keys) start w query [] inside ∙ ap (λ (state : StateOf). state.keys) (sym (same_query query)) in
      rows query.keys (subst (IsColumn table counts w) keys (is_column table (keys_of start) counts w counted enough))

  done_here : (d : StateOf) → get_or (set now w next) w d ≡ ready (get_or start w d) (rows_put (get_or start w d).keys table)
  done_here d =
      get_or-set_same now w next d within ∙ is_ready ∙ ap (ready query) rows_are ∙ ap (λ (state : StateOf). ready state (rows_put state.keys table)) (same_query d)

  done_other : (i : ℕ) (d : StateOf) → (i ≡ w → ⊥) → get_or (set now w next) i d ≡ get_or now i d
  done_other i d ne = get_or-set_other now w i next d ne

  pub ready_more : AreReady table (w + 1) start (set now w next)
  ready_more = record {
    len = length-set now w next ∙ h.len;
    done = λ i d b. below_more (λ (k : ℕ). (e : StateOf) → get_or (set now w next) k e ≡ ready (get_or start k e) (rows_put (get_or start k e).keys table)) w
        (λ k lower e. done_other k e (λ (same_index : k ≡ w). omega (arith, same_index, lower)) ∙ h.done k e lower) done_here i b d;
    rest = λ i d b. done_other i d (λ (same_index : i ≡ w). omega (arith, same_index, b)) ∙ h.rest i d (omega (arith, b));
  }

-- ---- all queries, before and after an entry

module _ (journal : List Entry) (states seen start prepared : List StateOf) (old held : List KeyAt) (h : IsKept journal states old) (sees : seen ≡ states) (starts : start ≡ states)
    (indexed : IsIndexOf (keys_of seen) held) (n : length prepared ≡ length start) where
  start_indexed : IsIndexOf (keys_of start) held
  start_indexed = subst (λ (us : List StateOf). IsIndexOf (keys_of us) held) (sees ∙ sym starts) indexed

  start_few : length start ≤ 16
  start_few = omega (arith, h.few, ap length starts)

  start_current : All (IsCurrent journal) start
  start_current = subst (All (IsCurrent journal)) (sym starts) h.current

  -- if memory runs out
  module _ (entries : List Entry) (after : List StateOf) (stays : entries ≡ journal) (is : after ≡ prepared) (same : (i : ℕ) (d : StateOf) → i < length start → still (get_or prepared i d) ≡ still (get_or start i d)) where
    pub refused_kept : IsKept entries after held
    refused_kept =
        subst (λ (us : List StateOf). IsKept entries us held) (sym is)
        (subst (λ (es : List Entry). IsKept es prepared held) (sym stays) (kept_still start prepared n same journal held start_few start_current (λ some. start_indexed)))

    pub refused_queries : map watch_of after ≡ map watch_of states
    refused_queries = ap (map watch_of) is ∙ still_queries start prepared n same ∙ ap (map watch_of) starts

  -- if the entry is taken
  module _ (entry : Entry) (table : Option Table) (gone : Option Text) (puts : table ≡ put_by entry.what) (takes : gone ≡ gone_by entry.what)
      (is_ready : (i : ℕ) (d : StateOf) → i < length start → get_or prepared i d ≡ ready (get_or start i d) (rows_put (get_or start i d).keys table))
      (ready_list settled after : List StateOf) (entries : List Entry) (readies : ready_list ≡ prepared) (m : length settled ≡ length ready_list)
      (settles : (i : ℕ) (d : StateOf) → i < length ready_list → Settles gone (get_or ready_list i d) (get_or settled i d)) (more : entries ≡ journal ++ entry ∷ []) (is : after ≡ settled) where
    ready_is : (i : ℕ) (d : StateOf) → i < length start → get_or ready_list i d ≡ ready (get_or start i d) (rows_put (get_or start i d).keys table)
    ready_is i d b = ap (λ (us : List StateOf). get_or us i d) readies ∙ is_ready i d b

    as_many : length ready_list ≡ length start
    as_many = ap length readies ∙ n

    pub taken_kept : IsKept entries after held
    taken_kept =
        subst (λ (us : List StateOf). IsKept entries us held) (sym is)
        (subst (λ (es : List Entry). IsKept es settled held) (sym more) (kept_after journal entry table gone puts takes start ready_list settled held start_few start_current start_indexed as_many ready_is m settles))

    pub taken_queries : map watch_of after ≡ map watch_of states
    taken_queries = ap (map watch_of) is ∙ same_queries journal entry table gone puts takes start ready_list settled held start_few start_current start_indexed as_many ready_is m settles ∙ ap (map watch_of) starts

pub on_err : {T E : Type 0} {P : Type 0} (r : Result T E) → P → OnErr r P
on_err (Ok x) p = tt
on_err (Err e) p = p
