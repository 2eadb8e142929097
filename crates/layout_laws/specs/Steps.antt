-- What is preserved of the parts of a layout from one entry of a journal to a later one, and where its live tables were
-- put.
use Rattle.std.specs.Prelude.{◌≡◌, ℕ, ◌+◌, ◌&&◌, Bool, true, false, List, [], ◌∷◌, ◌++◌, map, filter, not, nat_eq, bytes_eq}
use Rattle.std.specs.List.{list_any}
use Rattle.lake_model.specs.Journal.{What, Loaded, Dropped, Replaced, Swapped, Entry, has_name}
use Rattle.lake_model.specs.Layout.{Place, Part}

abbrev pub numbers_of : List Part → List ℕ
numbers_of parts = map (λ part. part.number) parts

abbrev pub positions_in : List Place → List ℕ
positions_in places = map (λ place. place.position) places

-- where the live tables were put, after an entry at a position, given those before it
abbrev pub loads_after : ℕ → List Place → What → List Place
loads_after position places (Loaded table) = places ++ record { position = position; table = table; marked = false } ∷ []
loads_after position places (Dropped name) = filter (λ place. not (has_name name place.table)) places
loads_after position places (Replaced table) = filter (λ place. not (has_name table.name place.table)) places ++ record { position = position; table = table; marked = false } ∷ []
loads_after position places (Swapped planned kept) = places

-- the same, entry by entry; the first entry is at this position
abbrev pub loads_from : ℕ → List Place → List Entry → List Place
loads_from position places [] = places
loads_from position places (entry ∷ entries) = loads_from (position + 1) (loads_after position places entry.what) entries

-- where the live tables of a journal were put, by a load or a replace, in the order of these entries
abbrev pub live_loads : List Entry → List Place
live_loads journal = loads_from 1 [] journal

-- a place before and now: its position and its table stay, and so does its mark if it has one
pub record IsSamePlace (before now : Place) : Type 0 where
  pub position : now.position ≡ before.position
  pub table : now.table ≡ before.table
  pub mark : before.marked ≡ true → now.marked ≡ true

-- places before and now, one by one
abbrev pub ArePlaces : List Place → List Place → Type 0
ArePlaces [] [] = Unit {0}
ArePlaces [] (q ∷ qs) = ⊥
ArePlaces (p ∷ ps) [] = ⊥
ArePlaces (p ∷ ps) (q ∷ qs) = IsSamePlace p q × ArePlaces ps qs

-- a part before and now: only marks were added
pub record IsSamePart (before now : Part) : Type 0 where
  pub number : now.number ≡ before.number
  pub places : ArePlaces before.places now.places

-- parts before and now, one by one
abbrev pub AreParts : List Part → List Part → Type 0
AreParts [] [] = Unit {0}
AreParts [] (q ∷ qs) = ⊥
AreParts (p ∷ ps) [] = ⊥
AreParts (p ∷ ps) (q ∷ qs) = IsSamePart p q × AreParts ps qs

-- whether a layout has a part with the number and the positions of this one
abbrev pub has_part : List Part → Part → Bool
has_part parts planned = list_any (λ part. nat_eq part.number planned.number && bytes_eq (map (λ p. p.position) part.places) (map (λ p. p.position) planned.places)) parts
