-- What the lists read so far say of a column: how many hold it, and how many of its tokens come after the last of these.
use Rattle.std.specs.Prelude.{◌≡◌, Bool, ℕ, ◌+◌, ◌-◌, List, [], ◌∷◌, filter, fold, get_or, length, min, nat_eq}
use Rattle.search_model.specs.declared.Posting.{Posting}
use Rattle.search_model.specs.Looks.{hits}
use Rattle.search_model.specs.Segment.{rank}
use Rattle.part_columns.specs.declared.tally.Tally.{Tally}

abbrev pub tally_with : ℕ → ℕ → Tally
tally_with count rest = record { count = count; rest = rest }

-- the tally of a column that is in no list
abbrev pub no_tally : Tally
no_tally = tally_with 0 0

abbrev pub tally_at : List Tally → ℕ → Tally
tally_at tallies x = get_or tallies x no_tally

-- one more posting
abbrev pub raised : Tally → Posting → Tally
raised tally posting = tally_with (tally.count + 1) posting.rest

abbrev pub of_column : ℕ → Posting → Bool
of_column column posting = nat_eq posting.column column

-- a tally with the column's postings of a list counted
abbrev pub counted : ℕ → List Posting → Tally → Tally
counted column list tally = fold raised tally (filter (of_column column) list)

-- the tally of a set with these hits
abbrev pub tally_of : List ℕ → List ℕ → Tally
tally_of set [] = no_tally
tally_of set (t ∷ ts) = tally_with (length (t ∷ ts)) (length set - 1 - rank set (get_or (t ∷ ts) (length (t ∷ ts) - 1) 0))

-- the tallies of all columns after these lists
abbrev pub AreTallies : List (List ℕ) → List ℕ → List Tally → Type 0
AreTallies sets tokens tallies = (x : ℕ) → get_or tallies x no_tally ≡ tally_of (get_or sets x []) (hits (get_or sets x []) tokens)

-- the position in the column's set of its last token in the lists read
abbrev pub position_in : List ℕ → Tally → ℕ
position_in set tally = length set - 1 - tally.rest

-- the most that its overlap can be, with `left` lists left
abbrev pub most_of : ℕ → Tally → ℕ
most_of left tally = tally.count + min left tally.rest
