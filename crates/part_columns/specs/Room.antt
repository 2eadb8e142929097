-- How many looks a search can take in a part. It reads each list of the query's tokens at most once, and probes no
-- column twice, and none that is in none of the lists.
use Rattle.std.specs.Prelude.{ℕ, ◌+◌, ◌<◌, ◌≤◌, ◌&&◌, Bool, false, not, List, [], count_by, get_or, length, min, nat_lt, sum_by}
use Rattle.std.specs.List.{enumerate_from}
use Rattle.lake_model.specs.Layout.{Part}
use Rattle.lake_model.specs.Texts.{Text}
use Rattle.search_model.specs.Looks.{hits}
use Rattle.search_model.specs.Segment.{tokens_in}
use Rattle.segment_core.specs.Versions.{segment_at, segment_of}

-- the tokens of the part whose keys are in the query, rising
abbrev pub asked_in : List Text → Part → List ℕ
asked_in keys part = tokens_in (segment_of part).tokens keys

-- how many postings the lists of these tokens have
abbrev pub listed_in : Part → List ℕ → ℕ
listed_in part tokens = sum_by (λ token. length (get_or (segment_of part).lists token [])) tokens

-- how many columns can be probed
abbrev pub probes_bound : Part → List ℕ → ℕ
probes_bound part tokens = min (listed_in part tokens) (length (segment_of part).sets)

abbrev pub looks_bound : Part → List ℕ → ℕ
looks_bound part tokens = length tokens + probes_bound part tokens

-- the same for the tokens of these keys
abbrev pub looks_in : List Text → Part → ℕ
looks_in keys part = looks_bound part (asked_in keys part)

-- how many columns have one of the tokens and are not known
abbrev pub unprobed : List (List ℕ) → List ℕ → List Bool → ℕ
unprobed sets tokens known = count_by (λ s. nat_lt 0 (length (hits s.1 tokens)) && not (get_or known s.0 false)) (enumerate_from 0 sets)

-- no part has more than `columns` columns
abbrev pub IsMost : List Part → ℕ → Type 0
IsMost parts columns = (i : ℕ) → i < length parts → length (segment_at parts i).sets ≤ columns
