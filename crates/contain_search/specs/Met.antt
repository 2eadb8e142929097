-- A part with the tokens that are asked of it, and what follows for its columns from the tallies after the lists read.
use Rattle.std.specs.Prelude.{ℕ, ◌+◌, ◌-◌, Bool, false, not, ◌&&◌, List, [], ◌∷◌, length, map, filter, take, get_or, nat_le, nat_lt, if◌then◌else◌}
use Rattle.std.specs.List.{enumerate_from}
use Rattle.lake_model.specs.Answer.{Row}
use Rattle.lake_model.specs.Layout.{Part}
use Rattle.lake_model.specs.Texts.{Text}
use Rattle.part_columns.specs.declared.tally.Tally.{Tally}
use Rattle.part_columns.specs.Room.{asked_in, looks_bound, probes_bound}
use Rattle.part_columns.specs.Tallies.{most_of, position_in, tally_at}
use Rattle.search_laws.specs.Found.{found_row, tokens_shared}
use Rattle.search_model.specs.Arrays.{titled_at}
use Rattle.search_model.specs.Contain.{may_hold}
use Rattle.search_model.specs.declared.Look.{Look}
use Rattle.search_model.specs.declared.Look.TheVariants.{Probe}
use Rattle.search_model.specs.Looks.{Searched}
use Rattle.segment_core.specs.Versions.{marks_of, segment_of}

abbrev pub met : Part → List ℕ → Searched
met part tokens = record { number = part.number; segment = segment_of part; marks = marks_of part; query = tokens }

-- the lists that are read
abbrev pub first_lists : ℕ → List ℕ → List ℕ
first_lists least tokens = take (length tokens + 1 - least) tokens

-- the columns that may hold enough, by rising number
abbrev pub may_columns : ℕ → Searched → List ℕ
may_columns least part = map (λ c. c.0) (filter (λ c. may_hold least part c.0 c.1) (enumerate_from 0 part.segment.columns))

-- whether a column that was seen may hold enough, given its tally
abbrev pub may_still : ℕ → Searched → List Tally → ℕ → ℕ → Bool
may_still least part tallies left x = nat_le least (most_of left (tally_at tallies x)) && not (get_or part.marks (titled_at part.segment.columns x).from false)

-- the probe of a column of this tally, if it may hold more of the tokens than the tally counts
abbrev pub probes_with : ℕ → List ℕ → Tally → ℕ → ℕ → List Look
probes_with number set tally left x = if nat_lt tally.count (most_of left tally) then Probe number x (position_in set tally) ∷ [] else []

abbrev pub probes_of : ℕ → List (List ℕ) → List Tally → ℕ → ℕ → List Look
probes_of number sets tallies left x = probes_with number (get_or sets x []) (tally_at tallies x) left x

-- the column's row, if it holds enough
abbrev pub rows_of : ℕ → Searched → ℕ → List Row
rows_of least part x = if nat_le least (tokens_shared part x) then found_row part x (titled_at part.segment.columns x) ∷ [] else []

-- ---- room

-- how many looks a part can take, and how many rows it can give, if `least` of these keys are needed
abbrev pub looks_for : List Text → ℕ → Part → ℕ
looks_for keys least part = looks_bound part (first_lists least (asked_in keys part))

abbrev pub rows_for : List Text → ℕ → Part → ℕ
rows_for keys least part = probes_bound part (first_lists least (asked_in keys part))
