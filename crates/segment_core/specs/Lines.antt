-- What replies show of a version.
use Rattle.std.specs.Prelude.{ℕ, Bool, true, false, List, [], ◌∷◌, map, filter, not, get_or, slice_set, if◌then◌else◌}
use Rattle.lake_model.specs.Texts.{Text}
use Rattle.lake_model.specs.Tables.{Table, Line, line_of, line_with}
use Rattle.lake_model.specs.Layout.{Place, Part, unmarked_of}

-- the positions of places, with their marks
abbrev pub shown_places : List Place → List (ℕ × Bool)
shown_places places = map (λ place. (place.position, place.marked)) places

-- the pair at an index, marked
abbrev pub mark_pair : ℕ → List (ℕ × Bool) → List (ℕ × Bool)
mark_pair n pairs = slice_set pairs n ((get_or pairs n (0, false)).0, true)

-- a part as a layout shows it
abbrev pub shown_at : List (ℕ × List (ℕ × Bool)) → ℕ → ℕ × List (ℕ × Bool)
shown_at parts i = get_or parts i (0, [])

-- the parts as a layout shows them, with the place at an index of a part marked
abbrev pub mark_shown : ℕ → ℕ → List (ℕ × List (ℕ × Bool)) → List (ℕ × List (ℕ × Bool))
mark_shown part place parts = slice_set parts part ((shown_at parts part).0, mark_pair place (shown_at parts part).1)

-- a line from its components: the name, the number of columns, the number of members
abbrev pub line_from : Text × ℕ × ℕ → Line
line_from line = line_with line.0 line.1 line.2

-- the lines of the unmarked tables
abbrev pub lines_without : List Table → List Bool → List Line
lines_without [] marks = []
lines_without (t ∷ ts) [] = []
lines_without (t ∷ ts) (m ∷ ms) = if m then lines_without ts ms else line_of t ∷ lines_without ts ms

-- the lines of the unmarked places
abbrev pub unmarked_lines : List Place → List Line
unmarked_lines places = map (λ place. line_of place.table) (filter (λ place. not place.marked) places)

-- the lines of the unmarked tables, in the order of the layout, which is that of their loads
abbrev pub live_lines : List Part → List Line
live_lines parts = map (λ place. line_of place.table) (unmarked_of parts)
