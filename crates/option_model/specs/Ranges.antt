-- The ranges of options.
use Rattle.std.specs.Prelude.{ℕ, ◌≡◌, ◌≤◌, ⊤, Bool, true, List, MatchOption}
use Rattle.std.specs.List.{AllByRecursion}
use Rattle.script_model.specs.Options.{Options}

-- a piece names lanes 1 to `lanes`, and 0, the merger, only if there is one
abbrev pub IsPieceOf : ℕ → Bool → List ℕ → Type 0
IsPieceOf lanes merge piece = AllByRecursion (λ lane. (lane ≤ lanes) × (lane ≡ 0 → merge ≡ true)) piece

-- there are 1 to 16 lanes, and a stated order names no others
pub record AreInRange (options : Options) : Type 0 where
  pub low : 1 ≤ options.lanes
  pub high : options.lanes ≤ 16
  pub order : MatchOption options.order ⊤ (λ pieces. AllByRecursion (IsPieceOf options.lanes options.merge) pieces)
