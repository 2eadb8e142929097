-- The positions at which answers are made, and those at which merges are planned.
use Rattle.std.specs.Prelude.{ℕ, ◌+◌, ◌<◌, ◌≤◌, ◌≡◌, ◌⊎◌, Bool, true, false, List, [], ◌∷◌, ◌++◌, Option, Some, None, is_some}
use Rattle.record_model.specs.Answered.{Nowhere, Saw, Added, PlannedAndSaw, PlannedAndAdded}
use Rattle.record_model.specs.Right.{made_by}
use Rattle.trace_laws.specs.Hints.{Hint, Wanting, Stands}
use Rattle.trace_numbers.specs.declared.order.Plan.{Plan}
use Rattle.trace_numbers.specs.declared.order.Turn.{Turn}
use Rattle.trace_numbers.specs.Positions.{own_of}

abbrev pub turn_with : ℕ → Bool → ℕ → Turn
turn_with at adds index = record { at = at; adds = adds; index = index }

abbrev pub plan_with : ℕ → ℕ → Plan
plan_with at index = record { at = at; index = index }

-- the length of the journal at which the answer is made, or 0 if it has no position
abbrev pub made_at : Hint → ℕ
made_at Wanting = 0
made_at (Stands s) = made_by s

-- the length of the journal at which a merge is planned
abbrev pub planned_at : Hint → Option ℕ
planned_at Wanting = None
planned_at (Stands Nowhere) = None
planned_at (Stands (Saw at)) = None
planned_at (Stands (Added at)) = None
planned_at (Stands (PlannedAndSaw pinned at)) = Some pinned
planned_at (Stands (PlannedAndAdded pinned at)) = Some pinned

-- all answers in the order of the script, from an index on
abbrev pub turns_from : ℕ → List Hint → List Turn
turns_from i [] = []
turns_from i (h ∷ hints) = turn_with (made_at h) (is_some (own_of h)) i ∷ turns_from (i + 1) hints

abbrev pub plan_of : ℕ → Option ℕ → List Plan
plan_of i None = []
plan_of i (Some at) = plan_with at i ∷ []

-- all planned merges in the order of the script, from an index on
abbrev pub plans_from : ℕ → List Hint → List Plan
plans_from i [] = []
plans_from i (h ∷ hints) = plan_of i (planned_at h) ++ plans_from (i + 1) hints

-- an answer that only looks comes before one that adds an entry, and otherwise they are in the order of the script
abbrev pub IsFirst : Turn → Turn → Type 0
IsFirst a b = ((a.adds ≡ false) × (b.adds ≡ true)) ⊎ ((a.adds ≡ b.adds) × (a.index ≤ b.index))

abbrev pub IsInTurn : Turn → Turn → Type 0
IsInTurn a b = (a.at < b.at) ⊎ ((a.at ≡ b.at) × IsFirst a b)

abbrev pub IsPlannedInTurn : Plan → Plan → Type 0
IsPlannedInTurn a b = (a.at < b.at) ⊎ ((a.at ≡ b.at) × (a.index ≤ b.index))
