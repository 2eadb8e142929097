-- Watched queries: a journal, and queries whose answers are kept while its entries are taken.
use Rattle.std.specs.Prelude.{◌≡◌, ◌-◌, ℕ, Bool, true, false, List, [], get_or, length, take, None}
use Rattle.lake_model.specs.Texts.{Text}
use Rattle.lake_model.specs.Answer.{Row, all_rows, answer}
use Rattle.lake_model.specs.Journal.{Entry, live}

-- a watched query: its keys, and how many rows its answer has at most
pub record WatchOf : Type 0 where
  pub keys : List Text
  pub k : ℕ

abbrev pub watch_with : List Text → ℕ → WatchOf
watch_with keys k = record { keys = keys; k = k }

-- the entries that were taken, and the queries that are watched
pub record WatchesOf : Type 0 where
  pub journal : List Entry
  pub queries : List WatchOf

abbrev pub watches_with : List Entry → List WatchOf → WatchesOf
watches_with journal queries = record { journal = journal; queries = queries }

-- the query of a number, counted from 1
abbrev pub watch_at : List WatchOf → ℕ → WatchOf
watch_at queries w = get_or queries (w - 1) (watch_with [] 0)

-- a row for each column of a live table that shares a key with the query
abbrev pub rows_of : List Entry → WatchOf → List Row
rows_of journal watch = all_rows (live journal) watch.keys None

-- the answer to a watched query over a journal
abbrev pub answer_of : List Entry → WatchOf → List Row
answer_of journal watch = answer (live journal) watch.keys watch.k None

-- a journal without its last entry
abbrev pub before_last : List Entry → List Entry
before_last journal = take (length journal - 1) journal

-- the truth value says whether the rows differ from those before
abbrev pub Tells : Bool → List Row → List Row → Type 0
Tells true before after = before ≡ after → ⊥
Tells false before after = before ≡ after
