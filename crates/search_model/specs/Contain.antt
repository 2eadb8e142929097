-- The columns that hold at least a stated fraction of a query, and the looks of a search for all of them.
use Rattle.std.specs.Prelude.{ℕ, ◌+◌, ◌-◌, ◌*◌, max, Bool, false, not, ◌&&◌, List, [], ◌++◌, length, map, flat_map, take, filter, get_or, nat_le, nat_lt, None}
use Rattle.std.specs.Int.{div_ceil}
use Rattle.std.specs.List.{enumerate_from}
use Rattle.search_model.specs.declared.Look.{Look}
use Rattle.search_model.specs.declared.Look.TheVariants.{Read, Probe}
use Rattle.search_model.specs.Segment.{Titled}
use Rattle.search_model.specs.Looks.{Searched, searched, Progress, Seen, seen}
use Rattle.lake_model.specs.Sorting.{in_order}
use Rattle.lake_model.specs.Texts.{Text}
use Rattle.lake_model.specs.Tables.{Table}
use Rattle.lake_model.specs.Answer.{Query, Row, row_cmp, all_rows}
use Rattle.lake_model.specs.Layout.{Part}

-- how many of n keys a column has to hold: the least whole number that is at least 1 and at least n * a / b
abbrev pub need : ℕ → ℕ → ℕ → ℕ
need a b n = max 1 (div_ceil (a * n) b)

-- a row for each column of the tables that holds at least this many of the keys, in the order of an answer
abbrev pub contain : List Table → List Text → ℕ → ℕ → List Row
contain tables keys a b = in_order row_cmp (filter (λ row. nat_le (need a b (length keys)) row.overlap) (all_rows tables keys None))

-- the keys as a query over all tables
abbrev pub of_all_tables : List Text → Query
of_all_tables keys = record { keys = keys; k = 0; except = None }

-- ---- the looks of a part, for the number of keys that are needed

-- Lists are read until fewer are left than keys are needed. A part with fewer of the query's tokens than keys are
-- needed is not looked at.
abbrev pub lists_needed : ℕ → Searched → ℕ
lists_needed least part = length part.query + 1 - least

abbrev pub reads_needed : ℕ → Searched → List Look
reads_needed least part = map (λ token. Read part.number token) (take (lists_needed least part) part.query)

-- the progress after these lists, and a column as it is seen there
abbrev pub behind_reads : ℕ → Searched → Progress
behind_reads least part = record { read = lists_needed least part; probed = [] }

abbrev pub seen_behind : ℕ → Searched → ℕ → Titled → Seen
seen_behind least part column c = seen part (behind_reads least part) column c

abbrev pub is_unmarked : Searched → Titled → Bool
is_unmarked part c = not (get_or part.marks c.from false)

-- it was seen, its table is unmarked, and it may hold as many keys as are needed
abbrev pub may_hold : ℕ → Searched → ℕ → Titled → Bool
may_hold least part column c =
    let x = seen_behind least part column c in
    is_unmarked part c && nat_lt 0 x.count && nat_le least x.bound.overlap

-- the same, and it may also hold more keys than these lists show
abbrev pub is_probed : ℕ → Searched → ℕ → Titled → Bool
is_probed least part column c =
    let x = seen_behind least part column c in
    may_hold least part column c && nat_lt x.count x.bound.overlap

-- by increasing column number, each after its position in the last list that holds it
abbrev pub probes_needed : ℕ → Searched → List Look
probes_needed least part =
    map (λ c. Probe part.number c.0 (seen_behind least part c.0 c.1).position)
    (filter (λ c. is_probed least part c.0 c.1) (enumerate_from 0 part.segment.columns))

abbrev pub contain_looks : ℕ → Searched → List Look
contain_looks least part = reads_needed least part ++ probes_needed least part

-- the looks of the parts, one part after another
unfoldable pub contain_log : List Text → ℕ → ℕ → List Part → List Look
contain_log keys a b parts = flat_map (λ part. contain_looks (need a b (length keys)) (searched (of_all_tables keys) part)) parts
