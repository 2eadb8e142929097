-- What the lines of an answer show of where it was made.
use Rattle.std.specs.Prelude.{ℕ, min, ◌-◌, ◌^◌, ◌<◌, ◌≡◌, ◌==◌, Bool, true, false, ◌&&◌, ◌||◌, not, if◌then◌else◌, List, [], ◌∷◌, length, get_or, bytes_eq, codes, Option, Some, None, ⊤}
use Rattle.std.specs.List.{slice_split, list_all}
use Rattle.lake_model.specs.Texts.{Text, lines_of}
use Rattle.script_model.specs.Words.{is_space, digits_value}
use Rattle.record_model.specs.Replies.{Reply, Loaded, Dropped, Replaced, Listed, Found, Past, Merged, Repeated, Unknown, NoColumn, Full, NothingToMerge, Later, Stale}
use Rattle.record_model.specs.Answered.{Standing, Nowhere, Saw, Added, PlannedAndSaw, PlannedAndAdded}
use Rattle.trace_laws.specs.Hints.{Hint, Wanting, Stands}

-- the texts between the spaces of a line
abbrev pub cut : Text → List Text
cut line = slice_split is_space line

abbrev pub word_at : List Text → ℕ → Text
word_at words i = get_or words i []

abbrev pub is_word : Text → Text → Bool
is_word word literal = bytes_eq word literal

-- the value of a word's digits, up to the limit of 64 bits; a word that is not a number gives some number
abbrev pub read_number : Text → ℕ
read_number word = min (digits_value word) (2 ^ 64 - 1)

-- the number after the word `at`, if that is the last word but one
abbrev pub at_of : List Text → Option ℕ
at_of words = if is_word (word_at words (length words - 2)) (codes "at") then Some (read_number (word_at words (length words - 1))) else None

-- the position P in a line `  layout at P ..`
abbrev pub layout_at : List Text → ℕ
layout_at words = read_number (word_at words 4)

abbrev pub standing_by : Text → Text → List Text → ℕ → Standing
standing_by first second next at =
    if is_word first (codes "loaded") || (is_word first (codes "dropped") || is_word first (codes "replaced")) then Added at
    else if is_word first (codes "merged") then PlannedAndAdded (layout_at next) at
    else if is_word first (codes "refused") && is_word second (codes "stale") then PlannedAndSaw (layout_at next) at
    else Saw at

abbrev pub placed_by : List Text → List Text → Option ℕ → Hint
placed_by words next None = Stands Nowhere
placed_by words next (Some at) = Stands (standing_by (word_at words 1) (word_at words 2) next at)

abbrev pub hint_by : List Text → List Text → Hint
hint_by words next = if is_word (word_at words 1) (codes "no") then Wanting else placed_by words next (at_of words)

-- the hint that an answer's first line and the line after it give
abbrev pub hint_read : List Text → Hint
hint_read lines = hint_by (cut (get_or lines 0 [])) (cut (get_or lines 1 []))

-- ---- what can be read back

-- neither a space nor a line feed
abbrev pub is_clean : Text → Bool
is_clean text = list_all (λ byte. not (byte == 0x20) && not (byte == 0x0A)) text

abbrev pub IsName : Text → Type 0
IsName name = is_clean name ≡ true

abbrev pub IsSmall : ℕ → Type 0
IsSmall n = n < 2 ^ 64

-- the names of the first line are clean, and the positions are not too large to be read back
abbrev pub IsReadable : Reply → Type 0
IsReadable (Loaded name columns members at) = IsName name × IsSmall at
IsReadable (Dropped name at) = IsName name × IsSmall at
IsReadable (Replaced name columns members at) = IsName name × IsSmall at
IsReadable (Listed tables at) = IsSmall at
IsReadable (Found query rows reads probes layout) = IsSmall layout.at
IsReadable (Past query rows asked at) = IsSmall at
IsReadable (Merged layout parts tables at) = IsSmall layout.at × IsSmall at
IsReadable (Repeated name at) = IsName name × IsSmall at
IsReadable (Unknown name at) = IsName name × IsSmall at
IsReadable (NoColumn name place at) = IsName name × IsSmall at
IsReadable (Full which count more at) = IsSmall at
IsReadable (NothingToMerge layout) = IsSmall layout.at
IsReadable (Later asked at) = IsSmall at
IsReadable (Stale layout gone at) = IsSmall layout.at × IsSmall at
IsReadable reply = ⊤

-- ---- the lines of each answer

-- a line that begins an answer, or the journal
abbrev pub is_first : Text → Bool
is_first line = not (get_or line 0 0 == 0x20)

-- the lines before the first that begins an answer, and the lines of each answer from there on
pub record Groups : Type 0 where
  pub opening : List Text
  pub groups : List (List Text)

abbrev pub groups_with : List Text → List (List Text) → Groups
groups_with opening groups = record { opening = opening; groups = groups }

abbrev pub onto_groups : Text → Groups → Groups
onto_groups line g = if is_first line then groups_with [] ((line ∷ g.opening) ∷ g.groups) else groups_with (line ∷ g.opening) g.groups

abbrev pub grouped : List Text → Groups
grouped [] = groups_with [] []
grouped (line ∷ lines) = onto_groups line (grouped lines)

abbrev pub groups_of : Text → List (List Text)
groups_of trace = (grouped (lines_of trace).ended).groups

abbrev pub is_nothing : {X : Type 0} → List X → Bool
is_nothing [] = true
is_nothing (x ∷ xs) = false

-- there is no line before the first answer, and no byte after the last line feed
abbrev pub is_cut : Text → Bool
is_cut trace = is_nothing (lines_of trace).rest && is_nothing (grouped (lines_of trace).ended).opening
