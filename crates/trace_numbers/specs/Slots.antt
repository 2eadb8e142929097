-- Owners of positions, while the answers are stored at their positions one after another.
use Rattle.std.specs.Prelude.{ℕ, ◌+◌, ◌-◌, ◌<◌, ◌≤◌, ◌≡◌, ◌⊎◌, true, List, length, get_or, Some}
use Rattle.trace_laws.specs.Hints.{Hint, Wanting}
use Rattle.trace_laws.specs.Rebuilt.{is_at}
use Rattle.trace_numbers.specs.Positions.{own_of}

-- this is one of the positions, and it has no owner
pub record IsFree (owners : List ℕ) (at nobody : ℕ) : Type 0 where
  pub some : 0 < at
  pub within : at ≤ length owners
  pub free : get_or owners (at - 1) 0 ≡ nobody

-- The first `n` answers are stored at the positions of their entries. A position that none of them has is that of
-- nobody, whose index is the number of all answers.
pub record ArePut (hints : List Hint) (n : ℕ) (owners : List ℕ) : Type 0 where
  pub held : (p : ℕ) → p < length owners → (get_or owners p 0 ≡ length hints) ⊎ ((get_or owners p 0 < n) × (is_at (p + 1) (get_or hints (get_or owners p 0) Wanting) ≡ true))
  pub put : (i at : ℕ) → i < n → own_of (get_or hints i Wanting) ≡ Some at → (0 < at) × (at ≤ length owners) × (get_or owners (at - 1) 0 ≡ i)
