-- Rows that are offered in turn.
use Rattle.std.specs.Prelude.{ℕ, List, fold, take}
use Rattle.lake_model.specs.Answer.{Query, Row, row_cmp}
use Rattle.lake_model.specs.Sorting.{put_in_order}
use Rattle.lake_model.specs.Tables.{overlap}
use Rattle.search_model.specs.Looks.{row_with, Searched}
use Rattle.search_state.specs.State.{column_at}

-- the first k rows, after each row of `more` was offered to `rows`
abbrev pub offered : ℕ → List Row → List Row → List Row
offered k rows more = fold (λ rows row. take k (put_in_order row_cmp row rows)) rows more

-- the rows of these columns, offered in turn
abbrev pub offers : ℕ → (ℕ → List Row) → List Row → List ℕ → List Row
offers k row_of rows columns = fold (λ rows x. offered k rows (row_of x)) rows columns

-- the row of a column, with its overlap
abbrev pub shared_row : Query → Searched → ℕ → Row
shared_row query part x = row_with (overlap query.keys (column_at part x).column.keys) (column_at part x)
