-- How much there is to merge in a layout, and the swaps of a journal.
use Rattle.std.specs.Prelude.{ℕ, ◌+◌, Bool, true, ◌||◌, ◌&&◌, nat_lt, List, [], ◌∷◌, ◌++◌, length, not, sum_by, count_by}
use Rattle.lake_model.specs.Journal.{What, Loaded, Dropped, Replaced, Swapped, Entry, is_update}
use Rattle.lake_model.specs.Layout.{Part, layout, positions_of, run_of}
use Rattle.lake_model.specs.Plan.{marks}

-- the number of parts and marks
abbrev pub weight : List Part → ℕ
weight parts = length parts + sum_by marks parts

abbrev pub swaps : List Entry → ℕ
swaps journal = count_by (λ entry. not (is_update entry.what)) journal

-- A swap merges if it takes two parts or more, or a part of which it does not keep every position.
abbrev pub does_merge : List Part → List ℕ → List ℕ → Bool
does_merge parts planned kept = nat_lt 1 (length planned) || nat_lt (length kept) (length (positions_of (run_of planned parts)))

abbrev pub merges : List Entry → What → Bool
merges before (Loaded table) = true
merges before (Dropped name) = true
merges before (Replaced table) = true
merges before (Swapped planned kept) = does_merge (layout before) planned kept

-- each swap after these entries merges
abbrev pub do_merge_behind : List Entry → List Entry → Bool
do_merge_behind before [] = true
do_merge_behind before (entry ∷ entries) = merges before entry.what && do_merge_behind (before ++ entry ∷ []) entries

abbrev pub do_merge : List Entry → Bool
do_merge journal = do_merge_behind [] journal
