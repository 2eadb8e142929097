-- The layout of a journal: the parts in which its tables are searched, entry by entry; and which entries may follow a
-- journal.
use Rattle.std.specs.Prelude.{ℕ, ◌+◌, Bool, true, false, ◌||◌, ◌&&◌, List, [], ◌∷◌, ◌++◌, length, map, take, drop, filter, flat_map, take_while, not, bytes_eq, nat_eq}
use Rattle.std.specs.List.{list_any, list_all, position_or_len}
use Rattle.lake_model.specs.Texts.{Text}
use Rattle.lake_model.specs.Tables.{Table}
use Rattle.lake_model.specs.Journal.{What, Loaded, Dropped, Replaced, Swapped, Entry, has_name, is_live}

-- a load or a replace in a part: its position in the journal, its table, and whether that was dropped or replaced
pub record Place : Type 0 where
  pub position : ℕ
  pub table : Table
  pub marked : Bool

pub record Part : Type 0 where
  pub number : ℕ
  pub places : List Place

abbrev pub is_among : List ℕ → ℕ → Bool
is_among numbers n = list_any (nat_eq n) numbers

-- a place, or a part, with the places of this name marked
abbrev pub mark_place : Text → Place → Place
mark_place name place = record place { marked = place.marked || has_name name place.table }

abbrev pub mark : Text → Part → Part
mark name part = record part { places = map (mark_place name) part.places }

-- the part of the places that are kept, or no part if none is kept
abbrev pub merged : ℕ → List ℕ → List Part → List Part
merged number kept parts = made (filter (λ place. is_among kept place.position) (flat_map (λ part. part.places) parts))
  where
    made : List Place → List Part
    made [] = []
    made (place ∷ places) = record { number = number; places = place ∷ places } ∷ []

-- the part that a load or a replace at a position adds
abbrev pub part_with : ℕ → Table → Part
part_with position table = record { number = position; places = record { position = position; table = table; marked = false } ∷ [] }

-- the parts after an entry at a position, from those before it
abbrev pub parts_after : ℕ → List Part → What → List Part
parts_after position parts (Loaded table) = parts ++ part_with position table ∷ []
parts_after position parts (Dropped name) = map (mark name) parts
parts_after position parts (Replaced table) = map (mark table.name) parts ++ part_with position table ∷ []
parts_after position parts (Swapped planned kept) =
    take_while (λ part. not (is_among planned part.number)) parts
    ++ merged position kept (filter (λ part. is_among planned part.number) parts)
    ++ filter (λ part. not (is_among planned part.number)) (drop (position_or_len (λ part. is_among planned part.number) parts) parts)

-- the same, entry by entry, if the first entry has this position
abbrev pub parts_from : ℕ → List Part → List Entry → List Part
parts_from position parts [] = parts
parts_from position parts (entry ∷ entries) = parts_from (position + 1) (parts_after position parts entry.what) entries

abbrev pub layout : List Entry → List Part
layout journal = parts_from 1 [] journal

-- what a reply shows of a layout: the number of each part, and its load positions with their marks
abbrev pub shown : List Part → List (ℕ × List (ℕ × Bool))
shown parts = map (λ part. (part.number, map (λ place. (place.position, place.marked)) part.places)) parts

-- a layout as a reply shows it: the length of the journal, and the parts
pub record Shown : Type 0 where
  pub at : ℕ
  pub parts : List (ℕ × List (ℕ × Bool))

abbrev pub shown_with : ℕ → List (ℕ × List (ℕ × Bool)) → Shown
shown_with at parts = record { at = at; parts = parts }

abbrev pub shown_layout : List Entry → Shown
shown_layout journal = shown_with (length journal) (shown (layout journal))

abbrev pub positions_of : List Part → List ℕ
positions_of parts = map (λ place. place.position) (flat_map (λ part. part.places) parts)

abbrev pub unmarked_of : List Part → List Place
unmarked_of parts = filter (λ place. not place.marked) (flat_map (λ part. part.places) parts)

-- the parts from the first planned one on, as many as are planned
abbrev pub run_of : List ℕ → List Part → List Part
run_of planned parts = take (length planned) (drop (position_or_len (λ part. is_among planned part.number) parts) parts)

-- A swap may follow a layout if at least one part is planned, the planned parts are adjacent and in this order, the
-- kept positions are taken from theirs in layout order, and each position that is not kept is marked.
abbrev pub may_swap : List Part → List ℕ → List ℕ → Bool
may_swap parts planned kept =
    let run = run_of planned parts in
    not (nat_eq (length planned) 0) && bytes_eq (map (λ part. part.number) run) planned
    && bytes_eq (filter (is_among kept) (positions_of run)) kept
    && list_all (λ place. is_among kept place.position || place.marked) (flat_map (λ part. part.places) run)

abbrev pub may_follow : List Entry → What → Bool
may_follow before (Loaded table) = not (is_live before table.name)
may_follow before (Dropped name) = is_live before name
may_follow before (Replaced table) = is_live before table.name
may_follow before (Swapped planned kept) = may_swap (layout before) planned kept

-- each entry may follow those before it
abbrev pub is_legal_behind : List Entry → List Entry → Bool
is_legal_behind before [] = true
is_legal_behind before (entry ∷ entries) = may_follow before entry.what && is_legal_behind (before ++ entry ∷ []) entries

abbrev pub is_legal : List Entry → Bool
is_legal journal = is_legal_behind [] journal
