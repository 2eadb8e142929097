-- What is found after the looks for the columns that hold a fraction of a query.
use Rattle.std.specs.Prelude.{ℕ, List, [], length, map, filter, get_or, nat_le}
use Rattle.std.specs.List.{enumerate_from}
use Rattle.lake_model.specs.Answer.{Row}
use Rattle.search_model.specs.Contain.{may_hold}
use Rattle.search_model.specs.Looks.{hits, row_with, Searched}
use Rattle.search_model.specs.Segment.{Titled}

-- how many of the query's tokens a column has
abbrev pub tokens_shared : Searched → ℕ → ℕ
tokens_shared part column = length (hits (get_or part.segment.sets column []) part.query)

abbrev pub found_row : Searched → ℕ → Titled → Row
found_row part column c = row_with (tokens_shared part column) c

-- the rows of the columns that may hold enough and do
abbrev pub found_rows : ℕ → Searched → List Row
found_rows least part =
    filter (λ row. nat_le least row.overlap)
    (map (λ c. found_row part c.0 c.1)
    (filter (λ c. may_hold least part c.0 c.1) (enumerate_from 0 part.segment.columns)))
