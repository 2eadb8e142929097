-- What is held of the watched queries besides the journal.
use Rattle.std.specs.Prelude.{◌≡◌, ◌<◌, ◌≤◌, ⊤, ℕ, Bool, not, List, [], ◌++◌, bytes_eq, filter, get_or, length, map, take, Option, Some, None}
use Rattle.std.specs.List.{All, IsDistinct}
use Rattle.lake_model.specs.Texts.{Text}
use Rattle.lake_model.specs.Tables.{Table, overlap}
use Rattle.lake_model.specs.Sorting.{in_order}
use Rattle.lake_model.specs.Answer.{Row, row_cmp, rows_of_table}
use Rattle.lake_model.specs.Journal.{Entry, What, Loaded, Dropped, Replaced, Swapped}
use Rattle.column_watch.specs.Index.{IsIndexOf}
use Rattle.column_watch.specs.Watching.{Tells, WatchOf, answer_of, before_last, rows_of, watch_with}
use Rattle.column_watch.specs.declared.holders.KeyAt.{KeyAt}

-- A watched query: its rows; the rows that an entry is about to put, and the first k rows before the entry; and whether
-- the last entry changed the first k rows.
pub record StateOf : Type 0 where
  pub keys : List Text
  pub k : ℕ
  pub rows : List Row
  pub coming : List Row
  pub first : List Row
  pub changed : Bool

abbrev pub state_with : List Text → ℕ → List Row → List Row → List Row → Bool → StateOf
state_with keys k rows coming first changed = record { keys = keys; k = k; rows = rows; coming = coming; first = first; changed = changed }

abbrev pub watch_of : StateOf → WatchOf
watch_of state = watch_with state.keys state.k

-- the table that an entry puts, and the name of the one that it takes away
abbrev pub put_by : What → Option Table
put_by (Loaded table) = Some table
put_by (Dropped name) = None
put_by (Replaced table) = Some table
put_by (Swapped planned kept) = None

abbrev pub gone_by : What → Option Text
gone_by (Loaded table) = None
gone_by (Dropped name) = Some name
gone_by (Replaced table) = Some table.name
gone_by (Swapped planned kept) = None

-- the rows of the table that is put
abbrev pub rows_put : List Text → Option Table → List Row
rows_put keys None = []
rows_put keys (Some table) = rows_of_table keys table

-- the rows without those of the table that is taken away
abbrev pub rows_left : Option Text → List Row → List Row
rows_left None rows = rows
rows_left (Some name) rows = filter (λ row. not (bytes_eq row.table name)) rows

-- a query with the rows that an entry is about to put
abbrev pub ready : StateOf → List Row → StateOf
ready state coming = record state { coming = coming; first = take state.k state.rows }

-- the parts of a query that do not change while memory is taken for an entry
abbrev pub still : StateOf → StateOf
still state = record state { coming = []; first = [] }

-- A query before and after the table of a name, or none, is taken away and the rows that were coming are put.
pub record Settles (gone : Option Text) (before after : StateOf) : Type 0 where
  pub keys : after.keys ≡ before.keys
  pub k : after.k ≡ before.k
  pub rows : after.rows ≡ in_order row_cmp (rows_left gone before.rows ++ before.coming)
  pub told : Tells after.changed before.first (take after.k after.rows)

-- a query has all its rows over a journal in order, and knows whether the last entry changed the first k
pub record IsCurrent (journal : List Entry) (state : StateOf) : Type 0 where
  pub different : IsDistinct bytes_eq state.keys
  pub rows : state.rows ≡ in_order row_cmp (rows_of journal (watch_of state))
  pub told : Tells state.changed (answer_of (before_last journal) (watch_of state)) (answer_of journal (watch_of state))

-- Each query is current; and once an entry was taken, there is an index of the keys of all queries.
pub record IsKept (journal : List Entry) (states : List StateOf) (index : List KeyAt) : Type 0 where
  pub few : length states ≤ 16
  pub current : All (IsCurrent journal) states
  pub indexed : 0 < length journal → IsIndexOf (map (λ state. state.keys) states) index

-- how many keys each query shares with each column
abbrev pub overlaps_of : List (List Text) → Table → List (List ℕ)
overlaps_of queries table = map (λ column. map (λ keys. overlap keys column.keys) queries) table.columns

-- the overlaps that are counted for the table that an entry puts
abbrev pub IsCounted : Option Table → List (List Text) → List (List ℕ) → Type 0
IsCounted None queries counts = ⊤
IsCounted (Some table) queries counts = counts ≡ overlaps_of queries table

-- there is a list of numbers for each column, with one for the query of index w
abbrev pub HasColumns : Option Table → List (List ℕ) → ℕ → Type 0
HasColumns None counts w = ⊤
HasColumns (Some table) counts w = (length counts ≡ length table.columns) × All (λ numbers. w < length numbers) counts

-- the numbers of the query of index w are the overlaps of its keys
abbrev pub IsColumn : Option Table → List (List ℕ) → ℕ → List Text → Type 0
IsColumn None counts w keys = ⊤
IsColumn (Some table) counts w keys = map (λ numbers. get_or numbers w 0) counts ≡ map (λ column. overlap keys column.keys) table.columns
