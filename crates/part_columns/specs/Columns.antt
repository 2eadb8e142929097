-- What a search has seen of the columns of a part: a tally and a mark for each, and which of them were touched.
use Rattle.std.specs.Prelude.{◌≡◌, ℕ, ◌^◌, ◌<◌, ◌≤◌, Bool, false, List, count_by, get_or, length, nat_eq, nat_lt, take, if◌then◌else◌}
use Rattle.part_columns.specs.declared.tally.Tally.{Tally}
use Rattle.part_columns.specs.Tallies.{no_tally, tally_at}

pub record ColumnsOf : Type 0 where
  pub tallies : List Tally
  pub known : List Bool
  pub touched : List ℕ

abbrev pub columns_with : List Tally → List Bool → List ℕ → ColumnsOf
columns_with tallies known touched = record { tallies = tallies; known = known; touched = touched }

abbrev pub is_touched : Tally → Bool
is_touched tally = nat_lt 0 tally.count

-- the columns that are in one of the lists read, each once
abbrev pub IsListed : List Tally → List ℕ → Type 0
IsListed tallies touched = (x : ℕ) → count_by (nat_eq x) touched ≡ (if is_touched (tally_at tallies x) then 1 else 0)

pub record AreTouched (tallies : List Tally) (touched : List ℕ) : Type 0 where
  pub listed : IsListed tallies touched
  pub many : length touched ≡ count_by is_touched tallies
  pub unseen : (x : ℕ) → (tally_at tallies x).count ≡ 0 → tally_at tallies x ≡ no_tally

-- The first n numbers of the list are the touched columns, and it has room for one more than all columns. Only touched
-- columns are known.
pub record IsKept (tallies : List Tally) (known : List Bool) (list : List ℕ) (n : ℕ) : Type 0 where
  pub are_touched : AreTouched tallies (take n list)
  pub within : n ≤ length list
  pub listed_room : length tallies < length list
  pub few : length tallies < 2 ^ 32
  pub marks : length known ≡ length tallies
  pub unknown : (x : ℕ) → (tally_at tallies x).count ≡ 0 → get_or known x false ≡ false

-- no column was touched, and none is known
pub record IsClean (columns : ColumnsOf) : Type 0 where
  pub clean : (x : ℕ) → tally_at columns.tallies x ≡ no_tally
  pub fresh : (x : ℕ) → get_or columns.known x false ≡ false
