-- The model of a region: the bytes put so far, and how many more fit.
use Rattle.std.specs.Prelude.{ℕ, ◌≡◌, List, ◌++◌}

pub record Written : Type 0 where
  pub bytes : List ℕ
  pub spare : ℕ

abbrev pub written : List ℕ → ℕ → Written
written bytes spare = record { bytes = bytes; spare = spare }

-- bytes, or none, were appended
abbrev pub HasGrown : Written → Written → Type 0
HasGrown old new = (more : List ℕ) × (new.bytes ≡ old.bytes ++ more)
