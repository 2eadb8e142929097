-- The columns of a part that may be open, in two heaps: one by bounds, and one by counts, for bounds that fall with
-- each list that is read.
use Rattle.std.specs.Prelude.{◌≡◌, ◌≢◌, ℕ, ◌+◌, ◌-◌, ◌*◌, ◌/◌, ◌%◌, ◌^◌, ◌<◌, ◌≤◌, Bool, true, false, ◌&&◌, ◌||◌, not, List, [], ◌++◌, get_or, map, nat_eq, nat_le, nat_lt, if◌then◌else◌, slice_get, sum_by, Option, Some, None}
use Rattle.std.specs.List.{AllByRecursion, list_any}
use Rattle.std.specs.Option.{MatchOption}
use Rattle.lake_model.specs.Answer.{Query, Row}
use Rattle.lake_model.specs.Layout.{is_among}
use Rattle.search_model.specs.Looks.{Searched}
use Rattle.josie_search.specs.declared.candidates.Candidate.{Candidate}
use Rattle.part_columns.specs.declared.tally.Tally.{Tally}
use Rattle.josie_search.specs.Rows.{bound_row, leads}
use Rattle.part_columns.specs.Tallies.{most_of, tally_at}

-- ---- ranks

-- the column of this rank, among the first n
abbrev pub IsOfRank : ℕ → List ℕ → ℕ → Option ℕ → Type 0
IsOfRank n ranks rank column = MatchOption column ((x : ℕ) → x < n → get_or ranks x 0 ≢ rank) (λ x. (x < n) × (get_or ranks x 0 ≡ rank))

-- ---- two heaps

abbrev pub candidate : Bool → ℕ → ℕ → Candidate
candidate by_count number rank = record { by_count = by_count; number = number; rank = rank }

-- A heap holds a number and a rank as one number, the entry, so that one comparison decides between two of them. The
-- rank is counted down from the greatest one: the greater number comes first; of equal numbers, the lower rank.
abbrev pub entry_of : Candidate → ℕ
entry_of c = c.number * 2 ^ 32 + (2 ^ 32 - 1 - c.rank)

abbrev pub number_in : ℕ → ℕ
number_in entry = entry / 2 ^ 32

abbrev pub rank_in : ℕ → ℕ
rank_in entry = 2 ^ 32 - 1 - entry % 2 ^ 32

abbrev pub of_entry : Bool → ℕ → Candidate
of_entry by_count entry = candidate by_count (number_in entry) (rank_in entry)

-- the contents of the two heaps, the lowest bound for which they hold columns, how many candidates they have, and the
-- room for them
pub record CandidatesOf : Type 0 where
  pub sized : List ℕ
  pub asked : List ℕ
  pub low : ℕ
  pub many : ℕ
  pub room : ℕ

abbrev pub candidates_with : List ℕ → List ℕ → ℕ → ℕ → ℕ → CandidatesOf
candidates_with sized asked low many room = record { sized = sized; asked = asked; low = low; many = many; room = room }

abbrev pub all_of : CandidatesOf → List Candidate
all_of c = map (of_entry false) c.sized ++ map (of_entry true) c.asked

-- ---- what a candidate says

-- the most that the overlap of its column can be with this many lists left
abbrev pub most_now : ℕ → Candidate → ℕ
most_now left c = if c.by_count then c.number + left else c.number

abbrev pub IsAhead : ℕ → Candidate → Candidate → Type 0
IsAhead left t c = (most_now left c ≤ most_now left t) × (most_now left c ≡ most_now left t → t.rank ≤ c.rank)

abbrev pub is_ahead : ℕ → Candidate → Candidate → Bool
is_ahead left a b = nat_lt (most_now left b) (most_now left a) || (nat_eq (most_now left b) (most_now left a) && nat_le a.rank b.rank)

abbrev pub better : ℕ → Option Candidate → Option Candidate → Option Candidate
better left None b = b
better left (Some a) None = Some a
better left (Some a) (Some b) = if is_ahead left a b then Some a else Some b

-- the candidate is the first of a heap
pub record IsFirstIn (by_count : Bool) (items : List ℕ) (t : Candidate) : Type 0 where
  pub kind : t.by_count ≡ by_count
  pub at : slice_get items 0 ≡ Some (entry_of t)
  pub ahead : AllByRecursion (λ e. (number_in e ≤ t.number) × (number_in e ≡ t.number → t.rank ≤ rank_in e)) items

-- the candidate is first in its heap
abbrev pub StandsFirst : CandidatesOf → Candidate → Type 0
StandsFirst c t = slice_get (if t.by_count then c.asked else c.sized) 0 ≡ Some (entry_of t)

-- the candidate is first in its heap, and none is ahead of it
pub record IsTop (left : ℕ) (c : CandidatesOf) (t : Candidate) : Type 0 where
  pub stands : StandsFirst c t
  pub ahead : AllByRecursion (IsAhead left t) (all_of c)

-- the candidate of a column of this tally and rank: by its count if at most as many lists are left as it has tokens
-- left
abbrev pub candidate_of : ℕ → Tally → ℕ → Candidate
candidate_of left tally rank = if nat_le left tally.rest then candidate true tally.count rank else candidate false (most_of left tally) rank

-- the candidate has this rank, and its number is at least the bound of a column of this tally
abbrev pub is_over : ℕ → Tally → ℕ → Candidate → Bool
is_over left tally rank c = nat_eq c.rank rank && nat_le (if c.by_count then tally.count else most_of left tally) c.number

abbrev pub covers : ℕ → Tally → ℕ → List Candidate → Bool
covers left tally rank all = list_any (is_over left tally rank) all

-- whether a column of this tally has to be held
abbrev pub goes_in : Bool → ℕ → ℕ → Tally → Bool
goes_in known low left tally = nat_le low (most_of left tally) && not known

-- each column outside `rest` that leads and whose bound is at least `low` is covered
abbrev pub AreHeldBut : List ℕ → Query → Searched → List ℕ → List Tally → List Bool → ℕ → ℕ → List Candidate → Type 0
AreHeldBut rest query part ranks tallies known left low all = (x : ℕ) → is_among rest x ≡ false → leads query part tallies known x ≡ true → low ≤ most_of left (tally_at tallies x) → covers left (tally_at tallies x) (get_or ranks x 0) all ≡ true

abbrev pub AreHeld : Query → Searched → List ℕ → List Tally → List Bool → ℕ → ℕ → List Candidate → Type 0
AreHeld query part ranks tallies known left low all = AreHeldBut [] query part ranks tallies known left low all

-- the candidate's number is the bound of column x, which leads and has this row
pub record IsExact (query : Query) (part : Searched) (tallies : List Tally) (known : List Bool) (left : ℕ) (top : Candidate) (column : Option ℕ) (x : ℕ) (row : Row) : Type 0 where
  pub of_rank : column ≡ Some x
  pub does : leads query part tallies known x ≡ true
  pub same : row ≡ bound_row part tallies left x
  pub exact : most_of left (tally_at tallies x) ≡ most_now left top

abbrev pub NoneExact : Query → Searched → List Tally → List Bool → ℕ → Candidate → Option ℕ → Type 0
NoneExact query part tallies known left top column = (x : ℕ) → column ≡ Some x → leads query part tallies known x ≡ true → most_of left (tally_at tallies x) ≢ most_now left top

abbrev pub FoundExact : Query → Searched → List Tally → List Bool → ℕ → Candidate → Option ℕ → Option (ℕ × Row) → Type 0
FoundExact query part tallies known left top column found = MatchOption found (NoneExact query part tallies known left top column) (λ f. IsExact query part tallies known left top column f.0 f.1)

-- no two of the first n columns have the same rank
abbrev pub AreApart : ℕ → List ℕ → Type 0
AreApart n ranks = (x y : ℕ) → x < n → y < n → get_or ranks x 0 ≡ get_or ranks y 0 → x ≡ y

-- the weight of all candidates, which each mending makes smaller
abbrev pub weight : ℕ → List Candidate → ℕ
weight left all = sum_by (λ c. most_now left c + 1) all
