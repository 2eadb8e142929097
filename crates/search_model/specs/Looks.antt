-- The looks of a search: which posting lists it reads, and which sets it probes.
use Rattle.std.specs.Prelude.{ℕ, zero, suc, ◌+◌, ◌-◌, ◌*◌, ◌/◌, ◌≡◌, min, max, Bool, true, false, ◌&&◌, ◌||◌, not, List, [], ◌∷◌, ◌++◌, length, map, take, drop, filter, sum_by, count_by, nat_le, nat_lt, if◌then◌else◌, Option, Some, None, slice_get, slice_index, get_or}
use Rattle.std.specs.List.{enumerate_from}
use Rattle.std.specs.Ordering.{is_lt}
use Rattle.search_model.specs.declared.Summary.{Summary}
use Rattle.search_model.specs.declared.Look.{Look}
use Rattle.search_model.specs.declared.Look.TheVariants.{Read, Probe}
use Rattle.search_model.specs.Choosers.{read_cost}
use Rattle.search_model.specs.Segment.{Titled, Segment, segment, tokens_in, rank}
use Rattle.lake_model.specs.Sorting.{in_order}
use Rattle.lake_model.specs.Tables.{overlap}
use Rattle.lake_model.specs.Answer.{Query, Row, row_cmp, is_excepted}
use Rattle.lake_model.specs.Layout.{Part, is_among}

-- a part as a search sees it: its number, its segment, the marks of its tables, and the query's tokens, increasing
pub record Searched : Type 0 where
  pub number : ℕ
  pub segment : Segment
  pub marks : List Bool
  pub query : List ℕ

abbrev pub searched_with : Query → ℕ → List Bool → Segment → Searched
searched_with query number marks segment = record { number = number; segment = segment; marks = marks; query = tokens_in segment.tokens query.keys }

abbrev pub searched : Query → Part → Searched
searched query part = searched_with query part.number (map (λ place. place.marked) part.places) (segment (map (λ place. place.table) part.places))

-- the progress of a search in a part: how many lists it has read, and which columns it has probed
pub record Progress : Type 0 where
  pub read : ℕ
  pub probed : List ℕ

-- a column that was seen in the lists read so far: its number, how many of these lists hold it, its position in the
-- last of them, how many of its tokens follow, and its row with the upper bound in place of the overlap
pub record Seen : Type 0 where
  pub column : ℕ
  pub count : ℕ
  pub position : ℕ
  pub rest : ℕ
  pub bound : Row

abbrev pub row_with : ℕ → Titled → Row
row_with overlap c = record { overlap = overlap; table = c.table; column = c.column.name; place = c.place }

-- its table is unmarked, and is not the excepted one
abbrev pub is_eligible : Query → Searched → Titled → Bool
is_eligible query part c = not (get_or part.marks c.from false) && not (is_excepted query.except c.table)

-- the tokens read that are in the set
abbrev pub hits : List ℕ → List ℕ → List ℕ
hits set tokens = filter (is_among set) tokens

abbrev pub seen_by : Titled → List ℕ → ℕ → ℕ → List ℕ → Seen
seen_by c set left column found =
    let count = length found in
    let position = rank set (slice_index found (count - 1)) in
    let rest = length set - 1 - position in
    record { column = column; count = count; position = position; rest = rest; bound = row_with (count + min left rest) c }

abbrev pub left_of : Searched → Progress → ℕ
left_of part progress = length part.query - progress.read

abbrev pub seen : Searched → Progress → ℕ → Titled → Seen
seen part progress column c =
    let set = get_or part.segment.sets column [] in
    seen_by c set (left_of part progress) column (hits set (take progress.read part.query))

-- The known columns are the probed ones and, once all lists of the part were read, all eligible ones that share a key
-- with the query.
abbrev pub is_known : Searched → Progress → ℕ → Bool
is_known part progress column = nat_le (length part.query) progress.read || is_among progress.probed column

abbrev pub known_rows : Query → Searched → Progress → List Row
known_rows query part progress =
    filter (λ row. nat_lt 0 row.overlap)
    (map (λ c. row_with (overlap query.keys c.1.column.keys) c.1)
    (filter (λ c. is_eligible query part c.1 && is_known part progress c.0) (enumerate_from 0 part.segment.columns)))

-- the k-th best of the known rows
abbrev pub worst : Query → List Row → Option Row
worst query known = slice_get (in_order row_cmp known) (query.k - 1)

abbrev pub threshold : Option Row → ℕ
threshold None = 1
threshold (Some row) = row.overlap

abbrev pub beats : Option Row → Row → Bool
beats None row = true
beats (Some worst) row = is_lt (row_cmp row worst)

abbrev pub is_open : Query → Searched → Progress → Option Row → ℕ → Titled → Bool
is_open query part progress worst column c =
    let x = seen part progress column c in
    is_eligible query part c && not (is_known part progress column) && nat_lt 0 x.count && beats worst x.bound

-- the open columns, the one with the best bound first
abbrev pub open_columns : Query → Searched → Progress → Option Row → List Seen
open_columns query part progress worst =
    in_order (λ a b. row_cmp a.bound b.bound)
    (map (λ c. seen part progress c.0 c.1)
    (filter (λ c. is_open query part progress worst c.0 c.1) (enumerate_from 0 part.segment.columns)))

abbrev pub unseen_open : ℕ → ℕ → Bool
unseen_open left t = nat_lt 0 left && nat_le t left

abbrev pub list_lengths : Searched → List ℕ
list_lengths part = map (λ token. get_or (map (λ t. t.frequency) part.segment.tokens) token 0) part.query

abbrev pub estimate : ℕ → ℕ → ℕ → ℕ → ℕ
estimate c u m i = max c (min u (c * m / i))

-- the cost of the lists that would be saved if the threshold were est
abbrev pub spared : List ℕ → ℕ → ℕ → ℕ → ℕ
spared lengths i t est =
    let m = length lengths in
    sum_by (λ l. read_cost l.1) (filter (λ l. nat_le t (m - l.0) && nat_lt (m - l.0) est) (enumerate_from i (drop i lengths)))

abbrev pub gain : Option Row → List ℕ → ℕ → ℕ → ℕ
gain None lengths i est = 0
gain (Some row) lengths i est = if nat_le est row.overlap then 0 else spared lengths i row.overlap est

abbrev pub summary_with : Option Row → Progress → List ℕ → Seen → Summary
summary_with worst progress lengths x = record {
  next_len = slice_index lengths progress.read;
  left = length lengths - progress.read;
  c = x.count;
  u = x.bound.overlap;
  rest = x.rest;
  t = threshold worst;
  gain = gain worst lengths progress.read (estimate x.count x.bound.overlap (length lengths) progress.read);
}

-- the next look in a part, or none if the part is done
abbrev pub read_next : Searched → Progress → Look
read_next part progress = Read part.number (slice_index part.query progress.read)

abbrev pub choice : (Summary → Bool) → Searched → Progress → Option Row → List Seen → Option Look
choice chooser part progress worst [] = if unseen_open (left_of part progress) (threshold worst) then Some (read_next part progress) else None
choice chooser part progress worst (x ∷ xs) =
    if chooser (summary_with worst progress (list_lengths part) x)
    then Some (Probe part.number x.column x.position)
    else Some (read_next part progress)

abbrev pub next_look : (Summary → Bool) → Query → List Row → Searched → Progress → Option Look
next_look chooser query before part progress =
    let last = worst query (before ++ known_rows query part progress) in
    choice chooser part progress last (open_columns query part progress last)

-- the progress after a look
abbrev pub progress_after : Progress → Look → Progress
progress_after progress (Read part token) = record progress { read = progress.read + 1 }
progress_after progress (Probe part column after) = record progress { probed = column ∷ progress.probed }

abbrev pub start : Progress
start = record { read = 0; probed = [] }

-- these looks lead from one progress to another
abbrev pub Leads : (Summary → Bool) → Query → List Row → Searched → Progress → List Look → Progress → Type 0
Leads chooser query before part progress [] final = progress ≡ final
Leads chooser query before part progress (look ∷ looks) final =
    (next_look chooser query before part progress ≡ Some look) × Leads chooser query before part (progress_after progress look) looks final

-- these are all the looks of the part
pub record IsLog (chooser : Summary → Bool) (query : Query) (before : List Row) (part : Searched) (progress : Progress) (looks : List Look) (final : Progress) : Type 0 where
  pub leads : Leads chooser query before part progress looks final
  pub done : next_look chooser query before part final ≡ None

-- The same as a function. Each look lowers the number of lists and columns that are left by one.
abbrev pub work_left : Searched → Progress → ℕ
work_left part progress = left_of part progress + count_by (λ c. not (is_among progress.probed c.0)) (enumerate_from 0 part.segment.columns)

-- the looks from one progress on, at most a given number of them, and the progress after them
unfoldable pub run_within : (Summary → Bool) → Query → List Row → Searched → ℕ → Progress → List Look × Progress
run_within chooser query before part zero progress = ([], progress)
run_within chooser query before part (suc fuel) progress = elim (next_look chooser query before part progress) [
  | None ↦ ([], progress)
  | Some look ↦ let run = run_within chooser query before part fuel (progress_after progress look) in (look ∷ run.0, run.1)
]

unfoldable pub run : (Summary → Bool) → Query → List Row → Searched → Progress → List Look × Progress
run chooser query before part progress = run_within chooser query before part (work_left part progress) progress

-- the looks of the parts, one part after another, if these rows are known before them
unfoldable pub looks_of : (Summary → Bool) → Query → List Row → List Searched → List Look
looks_of chooser query before [] = []
looks_of chooser query before (part ∷ parts) =
    let made = run chooser query before part start in
    made.0 ++ looks_of chooser query (before ++ known_rows query part made.1) parts

unfoldable pub log : (Summary → Bool) → Query → List Part → List Look
log chooser query parts = looks_of chooser query [] (map (searched query) parts)

abbrev pub is_read : Look → Bool
is_read (Read part token) = true
is_read (Probe part column after) = false
