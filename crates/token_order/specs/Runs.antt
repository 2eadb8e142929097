-- Tokens whose keys are sorted, as runs of neighbours with the same key. A run is a token, too: it is as frequent as all
-- of these together.
use Rattle.std.specs.Prelude.{◌≡◌, ℕ, ◌+◌, ◌*◌, ◌<◌, ◌^◌, List, [], ◌∷◌, bytes_eq, get_or, if◌then◌else◌, length}
use Rattle.std.specs.Ordering.{nat_cmp, ordering_then}
use Rattle.std.specs.declared.cmp.Ordering.{Ordering}
use Rattle.lake_model.specs.Tables.{Table}
use Rattle.search_model.specs.Segment.{Token}
use Rattle.search_model.specs.Arrays.{token_with}
use Rattle.token_order.specs.Places.{pointed_by}
use Rattle.token_order.specs.declared.columns.ColumnAt.{ColumnAt}
use Rattle.token_order.specs.declared.runs.Run.{Run}

-- a token that is more frequent
abbrev pub longer : Token → ℕ → Token
longer token more = token_with token.key (token.frequency + more)

-- the runs, if the tokens follow those of the first run
abbrev pub runs_from : Token → List Token → List Token
runs_from first [] = first ∷ []
runs_from first (token ∷ tokens) = if bytes_eq token.key first.key then runs_from (longer first token.frequency) tokens else first ∷ runs_from token tokens

abbrev pub runs_of : List Token → List Token
runs_of [] = []
runs_of (token ∷ tokens) = runs_from token tokens

-- the token of a run
abbrev pub run_token : List Table → List ColumnAt → Run → Token
run_token tables columns run = token_with (pointed_by tables columns run.first) run.frequency

-- the shorter run first, and then by number
abbrev pub run_cmp : Run → Run → Ordering
run_cmp a b = ordering_then (nat_cmp a.frequency b.frequency) (nat_cmp a.rank b.rank)

-- the number by which runs are sorted
abbrev pub run_number : Run → ℕ
run_number run = run.frequency * 2 ^ 32 + run.rank

-- each run's number is its index in the list
abbrev pub AreRanked : List Run → Type 0
AreRanked runs = (i : ℕ) (d : Run) → i < length runs → (get_or runs i d).rank ≡ i
