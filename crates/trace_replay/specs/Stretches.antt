-- The answers that are to be made and the merges that are to be planned, sorted by position, and those at one position.
use Rattle.std.specs.Prelude.{ℕ, ◌+◌, ◌<◌, ◌≡◌, false, List, length, get_or, Some, is_some}
use Rattle.std.specs.List.{Contains}
use Rattle.std.specs.List.Sorted.{IsNonDecreasingBy}
use Rattle.trace_laws.specs.Hints.{Hint, Wanting}
use Rattle.trace_numbers.specs.declared.order.Plan.{Plan}
use Rattle.trace_numbers.specs.declared.order.Turn.{Turn}
use Rattle.trace_numbers.specs.Positions.{own_of}
use Rattle.trace_numbers.specs.Turns.{made_at, plan_with, planned_at, turn_with}

-- These are all elements with this number; they are neighbours in the list.
pub record IsStretchAt {X : Type 0} (number : X → ℕ) (xs : List X) (at : ℕ) (found : List X) : Type 0 where
  pub each : (x : X) → Contains found x → Contains xs x × (number x ≡ at)
  pub all : (x : X) → Contains xs x → number x ≡ at → Contains found x
  pub part : (from : ℕ) × ((k : ℕ) (x : X) → k < length found → (from + k < length xs) × (get_or found k x ≡ get_or xs (from + k) x))

-- the turn is right for its answer
pub record IsTurnOf (hints : List Hint) (turn : Turn) : Type 0 where
  pub inside : turn.index < length hints
  pub at : made_at (get_or hints turn.index Wanting) ≡ turn.at
  pub adds : is_some (own_of (get_or hints turn.index Wanting)) ≡ turn.adds

-- the turn is that of the answer with an index, which only looks
abbrev pub IsLookOf : Turn → ℕ → Type 0
IsLookOf turn i = (turn.adds ≡ false) × (i ≡ turn.index)

-- each answer has exactly one turn, and the turns are sorted by position
pub record AreTurnsOf (hints : List Hint) (turns : List Turn) : Type 0 where
  pub sorted : IsNonDecreasingBy (λ turn. turn.at) turns
  pub each : (turn : Turn) → Contains turns turn → IsTurnOf hints turn
  pub all : (i : ℕ) → i < length hints → Contains turns (turn_with (made_at (get_or hints i Wanting)) (is_some (own_of (get_or hints i Wanting))) i)
  pub apart : (j k : ℕ) (d : Turn) → j < k → k < length turns → (get_or turns j d).index ≡ (get_or turns k d).index → ⊥

-- the plan is right for its answer
pub record IsPlanOf (hints : List Hint) (plan : Plan) : Type 0 where
  pub inside : plan.index < length hints
  pub at : planned_at (get_or hints plan.index Wanting) ≡ Some plan.at

-- each planned merge has its plan, and the plans are sorted by position
pub record ArePlansOf (hints : List Hint) (plans : List Plan) : Type 0 where
  pub sorted : IsNonDecreasingBy (λ plan. plan.at) plans
  pub each : (plan : Plan) → Contains plans plan → IsPlanOf hints plan
  pub all : (i at : ℕ) → i < length hints → planned_at (get_or hints i Wanting) ≡ Some at → Contains plans (plan_with at i)
