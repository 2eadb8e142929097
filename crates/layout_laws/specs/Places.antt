-- The places of parts, and those that a swap keeps.
use Rattle.std.specs.Prelude.{ℕ, List, filter, flat_map}
use Rattle.lake_model.specs.Layout.{Place, Part, is_among}

-- the places of parts, in layout order
abbrev pub places_of : List Part → List Place
places_of parts = flat_map (λ part. part.places) parts

-- the places of the kept positions of parts, in layout order, with their tables and their marks
abbrev pub kept_places : List ℕ → List Part → List Place
kept_places kept parts = filter (λ place. is_among kept place.position) (places_of parts)
