-- Columns with the values by which they are sorted, and lists of numbers with their indices.
use Rattle.std.specs.Prelude.{◌≡◌, ℕ, ◌<◌, ◌^◌, List, ◌++◌, false, get_or, length, map}
use Rattle.std.specs.Cmp.Lexicographic.{slice_cmp}
use Rattle.std.specs.Ordering.{is_eq, nat_cmp, ordering_then}
use Rattle.std.specs.declared.cmp.Ordering.{Ordering}
use Rattle.lake_model.specs.Answer.{Row, row_cmp}
use Rattle.search_model.specs.Arrays.{titled_at}
use Rattle.search_model.specs.Looks.{row_with}
use Rattle.search_model.specs.Segment.{Titled}
use Rattle.title_order.specs.declared.title.Title.{Title}

-- by the rows, then by the numbers
abbrev pub by_row : Title → Title → Ordering
by_row a b = ordering_then (row_cmp a.row b.row) (nat_cmp a.number b.number)

-- by the tables' names, then by the rows and the numbers
abbrev pub by_title : Title → Title → Ordering
by_title a b = ordering_then (slice_cmp nat_cmp a.row.table b.row.table) (by_row a b)

-- the rows of the two are not equal
abbrev pub RowsDiffer : Title → Title → Type 0
RowsDiffer a b = is_eq (row_cmp a.row b.row) ≡ false

-- the rows of columns, with an overlap of 0
abbrev pub rows_of : List Titled → List Row
rows_of columns = map (row_with 0) columns

-- each number is the index in the list
abbrev pub AreNumbered : List Title → Type 0
AreNumbered titles = (i : ℕ) (d : Title) → i < length titles → (get_or titles i d).number ≡ i

-- these columns were appended
pub record AreMoreTitles (old new : List Title) (columns : List Titled) : Type 0 where
  pub rows : map (λ t. t.row) new ≡ map (λ t. t.row) old ++ rows_of columns
  pub numbered : AreNumbered old → AreNumbered new
  pub few : length old < 2 ^ 32 → length new < 2 ^ 32

-- the title is that of the column with its number
abbrev pub IsTitle : List Titled → Title → Type 0
IsTitle columns title = title.row ≡ row_with 0 (titled_at columns title.number)

-- the number is at this index
abbrev pub IsPlace : List ℕ → ℕ → ℕ → Type 0
IsPlace numbers number place = (place < length numbers) × (get_or numbers place 0 ≡ number)
