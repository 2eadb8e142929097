-- The plan of a merge: which adjacent parts it takes, and which of their load positions it keeps.
use Rattle.std.specs.Prelude.{ℕ, ◌*◌, ◌^◌, Bool, ◌&&◌, List, [], ◌∷◌, length, map, take, find, if◌then◌else◌, sum_by, count_by, nat_le, nat_eq, Option, Some, None}
use Rattle.std.specs.List.{list_all, range_with_len}
use Rattle.lake_model.specs.declared.Policy.{Policy}
use Rattle.lake_model.specs.declared.Policy.TheVariants.{Tier, All}
use Rattle.lake_model.specs.Journal.{Entry}
use Rattle.lake_model.specs.Layout.{Part, layout, unmarked_of}

-- the number of binary digits, that is, of the powers of two from 2 ^ 0 to 2 ^ 31 that are at most n
abbrev pub binary_digits : ℕ → ℕ
binary_digits n = count_by (λ power. nat_le (2 ^ power) n) (range_with_len 0 32)

-- the number of binary digits of the part's number of columns, those of marked tables included
abbrev pub tier : Part → ℕ
tier part = binary_digits (sum_by (λ place. length place.table.columns) part.places)

-- the first four adjacent parts of one tier
abbrev pub first_run : List Part → Option (List Part)
first_run [] = None
first_run (part ∷ parts) =
    let run = take 4 (part ∷ parts) in
    if nat_eq (length run) 4 && list_all (λ other. nat_eq (tier other) (tier part)) run then Some run else first_run parts

abbrev pub marks : Part → ℕ
marks part = count_by (λ place. place.marked) part.places

-- half or more of its positions are marked
abbrev pub is_half_marked : Part → Bool
is_half_marked part = nat_le (length part.places) (2 * marks part)

abbrev pub at_most_one : Option Part → List Part
at_most_one None = []
at_most_one (Some part) = part ∷ []

-- the run, or else the first part that is half marked
abbrev pub or_half_marked : List Part → Option (List Part) → List Part
or_half_marked parts None = at_most_one (find is_half_marked parts)
or_half_marked parts (Some run) = run

-- the parts that a merge takes
abbrev pub planned_parts : Policy → List Part → List Part
planned_parts Tier parts = or_half_marked parts (first_run parts)
planned_parts All [] = []
planned_parts All (part ∷ []) = if nat_eq (marks part) 0 then [] else part ∷ []
planned_parts All (part ∷ other ∷ parts) = part ∷ other ∷ parts

-- the numbers of planned parts, and the positions that are kept of them
abbrev pub plan_of : List Part → Option (List ℕ × List ℕ)
plan_of [] = None
plan_of (part ∷ parts) = Some (map (λ q. q.number) (part ∷ parts), map (λ place. place.position) (unmarked_of (part ∷ parts)))

abbrev pub plan : Policy → List Entry → Option (List ℕ × List ℕ)
plan policy journal = plan_of (planned_parts policy (layout journal))
