-- The columns that may be open, and the rows of their bounds, computed from what the code keeps.
use Rattle.std.specs.Prelude.{◌≡◌, ℕ, ◌<◌, Bool, true, false, ◌&&◌, not, List, [], ◌∷◌, get_or, length, nat_lt, if◌then◌else◌, Option, Some, None}
use Rattle.std.specs.Option.{MatchOption}
use Rattle.std.specs.Ordering.{is_lt, nat_cmp, ordering_then}
use Rattle.lake_model.specs.Answer.{Query, Row, row_cmp}
use Rattle.lake_model.specs.Layout.{is_among}
use Rattle.search_model.specs.Arrays.{titled_at}
use Rattle.search_model.specs.Looks.{Searched, is_eligible, row_with}
use Rattle.search_model.specs.Segment.{Titled}
use Rattle.search_state.specs.State.{column_at}
use Rattle.josie_search.specs.declared.row.Lead.{Lead}
use Rattle.part_columns.specs.declared.tally.Tally.{Tally}
use Rattle.part_columns.specs.Tallies.{most_of, tally_at}

-- column x was seen, is not known, and may be in the answer
abbrev pub leads : Query → Searched → List Tally → List Bool → ℕ → Bool
leads query part tallies known x = is_eligible query part (column_at part x) && not (get_or known x false) && nat_lt 0 (tally_at tallies x).count

-- column x of the part may be in the answer, once it is seen
pub record MayLead (query : Query) (part : Searched) (x : ℕ) : Type 0 where
  pub within : x < length part.segment.columns
  pub eligible : is_eligible query part (column_at part x) ≡ true

abbrev pub bound_row : Searched → List Tally → ℕ → ℕ → Row
bound_row part tallies left x = row_with (most_of left (tally_at tallies x)) (column_at part x)

-- the row of the column's bound, if it leads
abbrev pub lead_row : Query → Searched → List Tally → List Bool → ℕ → ℕ → List Row
lead_row query part tallies known left x = if leads query part tallies known x then bound_row part tallies left x ∷ [] else []

-- the row of a lead's bound, in a part with these columns
abbrev pub row_of_lead : List Titled → Lead → Row
row_of_lead columns lead = row_with lead.bound (titled_at columns lead.column)

-- the column that was found, with the row of its bound
abbrev pub with_row : List Titled → Option Lead → Option (ℕ × Row)
with_row columns None = None
with_row columns (Some lead) = Some (lead.column, row_of_lead columns lead)

abbrev pub is_before : Row → Row → Bool
is_before a b = is_lt (row_cmp a b)

-- Column x is the first of those among the first n that lead; of equal rows, the one of the lower number.
pub record IsFirst (query : Query) (part : Searched) (tallies : List Tally) (known : List Bool) (left n x : ℕ) (row : Row) : Type 0 where
  pub within : x < n
  pub does : leads query part tallies known x ≡ true
  pub same : row ≡ bound_row part tallies left x
  pub lower : (y : ℕ) → y < x → leads query part tallies known y ≡ true → is_before row (bound_row part tallies left y) ≡ true
  pub higher : (y : ℕ) → x < y → y < n → leads query part tallies known y ≡ true → is_before (bound_row part tallies left y) row ≡ false

abbrev pub NoneLeads : Query → Searched → List Tally → List Bool → ℕ → Type 0
NoneLeads query part tallies known n = (y : ℕ) → y < n → leads query part tallies known y ≡ false

abbrev pub FoundTo : Query → Searched → List Tally → List Bool → ℕ → ℕ → Option (ℕ × Row) → Type 0
FoundTo query part tallies known left n found = MatchOption found (NoneLeads query part tallies known n) (λ f. IsFirst query part tallies known left n f.0 f.1)

-- none that leads has a bound of `low` or more
abbrev pub NoneFrom : Query → Searched → List Tally → List Bool → ℕ → ℕ → ℕ → Type 0
NoneFrom query part tallies known left n low = (y : ℕ) → y < n → leads query part tallies known y ≡ true → most_of left (tally_at tallies y) < low

-- the first that leads, or `None` if none leads with a bound of `low` or more
abbrev pub FoundFrom : Query → Searched → List Tally → List Bool → ℕ → ℕ → ℕ → Option (ℕ × Row) → Type 0
FoundFrom query part tallies known left n low found = MatchOption found (NoneFrom query part tallies known left n low) (λ f. IsFirst query part tallies known left n f.0 f.1)

-- Column x is the first of those among `done` that lead, in whatever order they are listed; of equal rows, the one of
-- the lower number.
pub record IsFirstAmong (query : Query) (part : Searched) (tallies : List Tally) (known : List Bool) (left : ℕ) (done : List ℕ) (x : ℕ) (row : Row) : Type 0 where
  pub does : leads query part tallies known x ≡ true
  pub same : row ≡ bound_row part tallies left x
  pub lower : (y : ℕ) → is_among done y ≡ true → y < x → leads query part tallies known y ≡ true → is_before row (bound_row part tallies left y) ≡ true
  pub higher : (y : ℕ) → is_among done y ≡ true → x < y → leads query part tallies known y ≡ true → is_before (bound_row part tallies left y) row ≡ false

abbrev pub NoneLeadsAmong : Query → Searched → List Tally → List Bool → List ℕ → Type 0
NoneLeadsAmong query part tallies known done = (y : ℕ) → is_among done y ≡ true → leads query part tallies known y ≡ false

abbrev pub FoundAmong : Query → Searched → List Tally → List Bool → ℕ → List ℕ → Option (ℕ × Row) → Type 0
FoundAmong query part tallies known left done found = MatchOption found (NoneLeadsAmong query part tallies known done) (λ f. IsFirstAmong query part tallies known left done f.0 f.1)

-- the first of the one found and one more; of equal rows, the one of the lower number
abbrev pub first_pair : Option (ℕ × Row) → ℕ → Row → ℕ × Row
first_pair None x row = (x, row)
first_pair (Some found) x row = if is_lt (ordering_then (row_cmp row found.1) (nat_cmp x found.0)) then (x, row) else found

abbrev pub first_of : Option (ℕ × Row) → ℕ → Option Row → Option (ℕ × Row)
first_of found x None = found
first_of found x (Some row) = Some (first_pair found x row)
