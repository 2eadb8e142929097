-- Which caller an entry of a roll belongs to.
use Rattle.std.specs.Prelude.{ℕ}

-- an entry is the number of the caller that signed
abbrev pub signer_of : ℕ → ℕ
signer_of number = number
