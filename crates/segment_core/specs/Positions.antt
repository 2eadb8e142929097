-- Where loads are in the parts of a layout.
use Rattle.std.specs.Prelude.{◌≡◌, ℕ, ◌<◌, List, length, map, slice_index}
use Rattle.std.specs.List.{AllByRecursion}
use Rattle.std.specs.List.Sorted.{IsStrictlyIncreasing}
use Rattle.lake_model.specs.Layout.{Part, positions_of}
use Rattle.segment_core.specs.Versions.{part_at}

-- the positions of a part's loads, and that of its first
abbrev pub loads_of : Part → List ℕ
loads_of part = map (λ place. place.position) part.places

abbrev pub first_load : Part → ℕ
first_load part = slice_index (loads_of part) 0

-- the positions strictly increase over all parts, one part after another
abbrev pub PositionsRise : List Part → Type 0
PositionsRise parts = IsStrictlyIncreasing (positions_of parts)

-- each part has a place
abbrev pub AreFull : List Part → Type 0
AreFull parts = AllByRecursion (λ part. 0 < length part.places) parts

-- the load at a position is at this index of this part, both from 0
pub record StandsAt (parts : List Part) (position part place : ℕ) : Type 0 where
  pub part_there : part < length parts
  pub place_there : place < length (part_at parts part).places
  pub position_is : slice_index (loads_of (part_at parts part)) place ≡ position
