-- The indices of texts in the order of their hashes, and the texts that repeat an earlier one.
use Rattle.std.specs.Prelude.{◌≡◌, ℕ, ◌-◌, Bool, List, [], ◌∷◌, ◌++◌, get_or, length, map, if◌then◌else◌}
use Rattle.std.specs.Cmp.Lexicographic.{slice_cmp}
use Rattle.std.specs.List.{All, range_with_len}
use Rattle.std.specs.List.Sorted.{IsPermutation, IsSorted}
use Rattle.std.specs.Ordering.{nat_cmp, ordering_then}
use Rattle.std.specs.declared.cmp.Ordering.{Ordering}
use Rattle.lake_model.specs.Texts.{Text}
use Rattle.lake_model.specs.Tables.{has_key}
use Rattle.column_set.specs.Hashes.{sip_of}
use Rattle.column_set.specs.declared.sorted.HashedPlace.{HashedPlace}

-- a text with its hash in front
abbrev pub hashed_text : Text → List ℕ
hashed_text text = sip_of text ∷ text

-- indices by the hashes of their texts, then by the bytes of the texts, and those of equal texts by number
abbrev pub place_cmp : List Text → ℕ → ℕ → Ordering
place_cmp texts a b = ordering_then (slice_cmp nat_cmp (hashed_text (get_or texts a [])) (hashed_text (get_or texts b []))) (nat_cmp a b)

-- the indices of all texts from index `from` on, each once, in that order
pub record AreSortedPlaces (texts : List Text) (from : ℕ) (places : List ℕ) : Type 0 where
  pub all : IsPermutation (range_with_len from (length texts - from)) places
  pub sorted : IsSorted (place_cmp texts) places

abbrev pub place_of : HashedPlace → ℕ
place_of entry = entry.place

-- what such entries are sorted by
abbrev pub sorted_by : List Text → HashedPlace → List ℕ
sorted_by texts entry = entry.hash ∷ get_or texts entry.place []

abbrev pub entry_cmp : List Text → HashedPlace → HashedPlace → Ordering
entry_cmp texts a b = ordering_then (slice_cmp nat_cmp (sorted_by texts a) (sorted_by texts b)) (nat_cmp a.place b.place)

-- the hash is that of the text at the index
abbrev pub IsHashed : List Text → HashedPlace → Type 0
IsHashed texts entry = entry.hash ≡ sip_of (get_or texts entry.place [])

-- the indices in that order, each with the hash of its text
pub record IsHashOrder (texts : List Text) (from : ℕ) (order : List HashedPlace) : Type 0 where
  pub hashed : All (IsHashed texts) order
  pub places : AreSortedPlaces texts from (map place_of order)

-- of each text, whether it is one of those seen or of those before it
abbrev pub repeats_behind : List Text → List Text → List Bool
repeats_behind seen [] = []
repeats_behind seen (text ∷ texts) = has_key seen text ∷ repeats_behind (seen ++ text ∷ []) texts

abbrev pub repeats_of : List Text → List Bool
repeats_of texts = repeats_behind [] texts

-- the elements that are not marked
abbrev pub unmarked : {X : Type 0} → List Bool → List X → List X
unmarked marks [] = []
unmarked [] (x ∷ xs) = []
unmarked (mark ∷ marks) (x ∷ xs) = if mark then unmarked marks xs else x ∷ unmarked marks xs
