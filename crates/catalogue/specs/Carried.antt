-- The marks that are collected by looking for kept positions one after another.
use Rattle.std.specs.Prelude.{ℕ, Bool, false, List, [], ◌∷◌, map, flat_map, drop, nat_eq, if◌then◌else◌}
use Rattle.lake_model.specs.Layout.{Part, positions_of}

-- whether the position is the first of the list
abbrev pub is_first : ℕ → List ℕ → Bool
is_first position [] = false
is_first position (next ∷ kept) = nat_eq position next

-- the marks of the kept positions, found in one walk over positions and their marks that takes the kept ones in order
abbrev pub marks_along : List ℕ → List ℕ → List Bool → List Bool
marks_along kept [] marks = []
marks_along kept (n ∷ ns) [] = []
marks_along kept (n ∷ ns) (m ∷ ms) = if is_first n kept then m ∷ marks_along (drop 1 kept) ns ms else marks_along kept ns ms

-- the same for parts
abbrev pub run_marks : List ℕ → List Part → List Bool
run_marks kept parts = marks_along kept (positions_of parts) (map (λ place. place.marked) (flat_map (λ part. part.places) parts))
