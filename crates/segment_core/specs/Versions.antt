-- Versions: the parts that are searched at a position of the journal; and what a search asks of a version, with its
-- log.
use Rattle.std.specs.Prelude.{ℕ, zero, suc, true, List, [], ◌∷◌, ◌++◌, map, get_or, slice_set, Bool}
use Rattle.lake_model.specs.Tables.{Table}
use Rattle.lake_model.specs.Layout.{Place, Part, unmarked_of}
use Rattle.search_model.specs.Segment.{Segment, segment}
use Rattle.search_model.specs.declared.Look.{Look}

-- a position of the journal, and the parts of its layout
pub record VersionOf : Type 0 where
  pub at : ℕ
  pub parts : List Part

abbrev pub version_with : ℕ → List Part → VersionOf
version_with at parts = record { at = at; parts = parts }

abbrev pub place_with : ℕ → Table → Bool → Place
place_with position table marked = record { position = position; table = table; marked = marked }

-- places from their positions, their tables and their marks
abbrev pub places_with : List ℕ → List Table → List Bool → List Place
places_with [] tables marks = []
places_with (n ∷ ns) [] marks = []
places_with (n ∷ ns) (t ∷ ts) [] = []
places_with (n ∷ ns) (t ∷ ts) (m ∷ ms) = place_with n t m ∷ places_with ns ts ms

abbrev pub part_with : ℕ → List Place → Part
part_with number places = record { number = number; places = places }

abbrev pub part_at : List Part → ℕ → Part
part_at parts i = get_or parts i (part_with 0 [])

abbrev pub tables_of : Part → List Table
tables_of part = map (λ place. place.table) part.places

abbrev pub marks_of : Part → List Bool
marks_of part = map (λ place. place.marked) part.places

-- the unmarked tables, part by part
abbrev pub live_of : List Part → List Table
live_of parts = map (λ place. place.table) (unmarked_of parts)

-- the segment of a part: that of all its tables, including the marked ones
abbrev pub segment_of : Part → Segment
segment_of part = segment (tables_of part)

abbrev pub segment_at : List Part → ℕ → Segment
segment_at parts i = segment_of (part_at parts i)

-- the version that is searched, the looks that were logged, and the number of looks for which the log still has room
pub record LooksOf : Type 0 where
  pub version : VersionOf
  pub log : List Look
  pub spare : ℕ

abbrev pub looks_with : VersionOf → List Look → ℕ → LooksOf
looks_with version log spare = record { version = version; log = log; spare = spare }

-- the place at an index, marked
abbrev pub mark_nth : ℕ → List Place → List Place
mark_nth n [] = []
mark_nth zero (p ∷ ps) = place_with p.position p.table true ∷ ps
mark_nth (suc n) (p ∷ ps) = p ∷ mark_nth n ps

abbrev pub marked_at : ℕ → Part → Part
marked_at n part = part_with part.number (mark_nth n part.places)

-- the parts with the table at an index of a part marked, followed by one more part
abbrev pub marked_and_added : ℕ → ℕ → Part → List Part → List Part
marked_and_added part place more parts = slice_set parts part (marked_at place (part_at parts part)) ++ more ∷ []
