-- The lines for watched queries, by the journal before and the journal now.
use Rattle.std.specs.Prelude.{◌≡◌, ◌++◌, ◌≤◌, ℕ, List, flat_map, length, take}
use Rattle.std.specs.List.{enumerate_from}
use Rattle.lake_model.specs.Texts.{Text}
use Rattle.lake_model.specs.Journal.{Entry}
use Rattle.record_model.specs.Watched.{told_lines}
use Rattle.column_watch.specs.Watching.{WatchOf, WatchesOf, answer_of, watches_with}

-- of a query and its number
abbrev pub told_of : List Entry → List Entry → ℕ × WatchOf → List Text
told_of before journal query = told_lines (length journal) query.0 (answer_of before query.1) (answer_of journal query.1)

-- of queries that are numbered from n
abbrev pub told_from : List Entry → List Entry → ℕ → List WatchOf → List Text
told_from before journal n queries = flat_map (told_of before journal) (enumerate_from n queries)

-- the first `count` of these entries were taken, and nothing else changed
pub record HasTaken (before after : WatchesOf) (entries : List Entry) : Type 0 where
  pub count : ℕ
  pub few : count ≤ length entries
  pub taken : after ≡ watches_with (before.journal ++ take count entries) before.queries
