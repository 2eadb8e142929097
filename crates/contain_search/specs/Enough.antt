-- A count that has to be known only if it is high enough.
use Rattle.std.specs.Prelude.{◌≡◌, ℕ, ◌<◌, ◌≤◌}

-- `told` is the count if that is at least `least`, and otherwise some number below `least`.
pub record IsExactFrom (least count told : ℕ) : Type 0 where
  pub exact : least ≤ count → told ≡ count
  pub below : count < least → told < least
