-- The ranks of columns: two numbers say which of two columns with the same bound comes first.
use Rattle.std.specs.Prelude.{◌≡◌, ℕ, ◌<◌, true, false, List, length, get_or, map}
use Rattle.std.specs.Ordering.{is_lt, nat_cmp, ordering_then}
use Rattle.std.specs.declared.cmp.Ordering.{Ordering}
use Rattle.std.specs.Cmp.Lexicographic.{slice_cmp}
use Rattle.lake_model.specs.Answer.{row_cmp}
use Rattle.search_model.specs.Arrays.{no_titled, titled_at}
use Rattle.search_model.specs.Looks.{row_with}
use Rattle.search_model.specs.Segment.{Titled}

-- by table name, column name and place: the order of rows with the same overlap
abbrev pub title_cmp : Titled → Titled → Ordering
title_cmp a b = ordering_then (slice_cmp nat_cmp a.table b.table) (ordering_then (slice_cmp nat_cmp a.column.name b.column.name) (nat_cmp a.place b.place))

-- two columns, given by their numbers, compared by their titles, and then by the numbers
abbrev pub number_cmp : List Titled → ℕ → ℕ → Ordering
number_cmp columns x y = ordering_then (title_cmp (titled_at columns x) (titled_at columns y)) (nat_cmp x y)

-- the ranks of the columns in the order of names: of two columns with the same bound, the lower rank comes first
pub record AreRanks (columns : List Titled) (ranks : List ℕ) : Type 0 where
  pub size : length ranks ≡ length columns
  pub below : (x : ℕ) → x < length columns → get_or ranks x 0 < length columns
  pub apart : (x y : ℕ) → x < length columns → y < length columns → get_or ranks x 0 ≡ get_or ranks y 0 → x ≡ y
  -- a column of lower rank comes no later, and if the two tie, it has the lower number
  pub order : (x y u : ℕ) → x < length columns → y < length columns → get_or ranks x 0 < get_or ranks y 0 → is_lt (row_cmp (row_with u (get_or columns y no_titled)) (row_with u (get_or columns x no_titled))) ≡ false
  pub level : (x y u : ℕ) → x < length columns → y < length columns → get_or ranks x 0 < get_or ranks y 0 → y < x → is_lt (row_cmp (row_with u (get_or columns x no_titled)) (row_with u (get_or columns y no_titled))) ≡ true

-- the columns' numbers by their ranks
pub record AreInverse (ranks by_rank : List ℕ) : Type 0 where
  pub size : length by_rank ≡ length ranks
  -- there and back, from a column and from a rank
  pub back : (x : ℕ) → x < length ranks → get_or by_rank (get_or ranks x 0) 0 ≡ x
  pub within : (r : ℕ) → r < length by_rank → get_or by_rank r 0 < length ranks
  pub forth : (r : ℕ) → r < length by_rank → get_or ranks (get_or by_rank r 0) 0 ≡ r

-- the columns by their ranks
abbrev pub ranked : List Titled → List ℕ → List Titled
ranked columns by_rank = map (titled_at columns) by_rank

-- no two of these columns have the same titles, and of two with the same bound the first comes first
abbrev pub AreRising : List Titled → Type 0
AreRising columns = (r s u : ℕ) → r < s → s < length columns → is_lt (row_cmp (row_with u (titled_at columns r)) (row_with u (titled_at columns s))) ≡ true
