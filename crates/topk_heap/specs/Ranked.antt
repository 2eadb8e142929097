-- The first of the rows of the columns of one part, each held as one number.
use Rattle.std.specs.Prelude.{ℕ, ◌+◌, ◌-◌, ◌*◌, ◌/◌, ◌%◌, ◌^◌, ◌<◌, List, [], map, Option, Some, None}
use Rattle.std.specs.List.{AllByRecursion}
use Rattle.lake_model.specs.Answer.{Row}
use Rattle.search_model.specs.Arrays.{titled_at}
use Rattle.search_model.specs.Looks.{row_with}
use Rattle.search_model.specs.Segment.{Titled}

-- how many are kept at most, the rows in order, and the columns of the part by their ranks
pub record RankedRows : Type 0 where
  pub k : ℕ
  pub rows : List Row
  pub titled : List Titled

abbrev pub ranked_with : ℕ → List Row → List Titled → RankedRows
ranked_with k rows titled = record { k = k; rows = rows; titled = titled }

-- the columns, or none before a part was begun
abbrev pub titles_in : Option (List Titled) → List Titled
titles_in None = []
titles_in (Some titled) = titled

-- A row is held as one number, the entry, so that one comparison decides which of two comes first. The overlap is
-- counted down from the greatest one: the lower entry has the greater overlap or, if these are equal, the lower rank.
abbrev pub entry_of : ℕ → ℕ → ℕ
entry_of rank overlap = (2 ^ 32 - 1 - overlap) * 2 ^ 32 + rank

abbrev pub overlap_in : ℕ → ℕ
overlap_in entry = 2 ^ 32 - 1 - entry / 2 ^ 32

abbrev pub rank_in : ℕ → ℕ
rank_in entry = entry % 2 ^ 32

abbrev pub row_in : List Titled → ℕ → Row
row_in titled entry = row_with (overlap_in entry) (titled_at titled (rank_in entry))

-- it is the entry of one of n columns, and its overlap was not cut off
abbrev pub IsEntry : ℕ → ℕ → Type 0
IsEntry n entry = (rank_in entry < n) × (entry / 2 ^ 32 < 2 ^ 32)

abbrev pub AreEntries : ℕ → List ℕ → Type 0
AreEntries n entries = AllByRecursion (IsEntry n) entries

-- the rows of entries
abbrev pub rows_in : List Titled → List ℕ → List Row
rows_in titled entries = map (row_in titled) entries
