-- The positions of answers that have passed the tests on numbers.
use Rattle.std.specs.Prelude.{ℕ, ◌+◌, ◌<◌, ◌≤◌, ◌≡◌, Bool, true, List, length, get_or, Some, None, is_some}
use Rattle.std.specs.List.{AllByRecursion}
use Rattle.script_model.specs.Commands.{Batch, Command}
use Rattle.script_model.specs.Lanes.{IsOfLanes}
use Rattle.trace_laws.specs.Hints.{Hint, Wanting}
use Rattle.trace_laws.specs.Rebuilt.{pinned_of}
use Rattle.trace_laws.specs.Verdict.{all_commands, counted, hinted_zip}
use Rattle.trace_numbers.specs.Positions.{AreOwners, IsOwner, accepted_of, numbers_pass, own_of}
use Rattle.trace_numbers.specs.Turns.{made_at, planned_at}

-- The positions of an answer in a run with `size` entries. It is made at a beginning of the journal, and was pinned at
-- a beginning of that; its own entry is the next one. A planned merge is pinned at its plan, and everything else where
-- it is made.
pub record IsWithin (size : ℕ) (hint : Hint) : Type 0 where
  pub made : made_at hint ≤ size
  pub pinned : pinned_of hint ≤ made_at hint
  pub own : (at : ℕ) → own_of hint ≡ Some at → (at ≡ made_at hint + 1) × (at ≤ size)
  pub planned : (at : ℕ) → planned_at hint ≡ Some at → (at ≡ pinned_of hint) × (at ≤ made_at hint)
  pub unplanned : planned_at hint ≡ None → pinned_of hint ≡ made_at hint

-- Each command has a hint, and each hint's positions are at most the number of accepted updates; after the last hint
-- there are no positions.
pub record ArePositions (commands : List Command) (hints : List Hint) : Type 0 where
  pub one_each : length hints ≡ length commands
  pub size : counted (hinted_zip commands hints) ≡ accepted_of hints
  pub each : (i : ℕ) → IsWithin (accepted_of hints) (get_or hints i Wanting)

-- If hints pass the tests on numbers, all their positions are within the journal.
abbrev pub PositionsWithin : Type 0
PositionsWithin = (lanes : ℕ) (merge : Bool) (batches : List Batch) (commands : List Command) (hints : List Hint) → AllByRecursion (IsOfLanes lanes) batches
    → commands ≡ all_commands merge 1 batches → numbers_pass lanes merge batches hints ≡ true → ArePositions commands hints

-- The owner of an entry is one of the answers, and is made when the journal has the entries before its own.
abbrev pub OwnerIsMade : Type 0
OwnerIsMade = (hints : List Hint) (before index : ℕ) → IsOwner hints (before + 1) index
    → (index < length hints) × (own_of (get_or hints index Wanting) ≡ Some (before + 1)) × (made_at (get_or hints index Wanting) ≡ before)

-- An accepted answer is the owner of the next entry after those at which it is made.
abbrev pub AcceptedOwns : Type 0
AcceptedOwns = (hints : List Hint) (owners : List ℕ) (i : ℕ) → AreOwners hints owners → IsWithin (length owners) (get_or hints i Wanting) → is_some (own_of (get_or hints i Wanting)) ≡ true
    → (made_at (get_or hints i Wanting) < length owners) × (get_or owners (made_at (get_or hints i Wanting)) 0 ≡ i)
