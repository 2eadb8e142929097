-- Numbers of groups that are being replaced by the numbers of their runs.
use Rattle.std.specs.Prelude.{◌≡◌, ℕ, ◌<◌, ◌≤◌, List, get_or, length}

-- those before an index were replaced, and the others were not
pub record AreReplaced (numbers ranks now : List ℕ) (at : ℕ) : Type 0 where
  pub long : length now ≡ length numbers
  pub done : (k : ℕ) → k < at → k < length numbers → get_or now k 0 ≡ get_or ranks (get_or numbers k 0) 0
  pub left : (k : ℕ) → at ≤ k → k < length numbers → get_or now k 0 ≡ get_or numbers k 0
