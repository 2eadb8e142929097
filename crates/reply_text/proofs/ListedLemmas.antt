-- A list of at least one number.
use Rattle.std.proofs.Common.{◌≡◌, refl, ◌==◌, ◌∷◌, [], true, false, List, ℕ, length}
use Rattle.std.specs.Prelude.{decimal}
use Rattle.std.specs.List.{join_by}
use Rattle.record_model.specs.Texts.{listed}

pub listed_some : (numbers : List ℕ) → (length numbers == 0) ≡ false → listed decimal numbers ≡ join_by decimal (0x2C ∷ []) numbers
listed_some [] some = absurd (let f : true ≡ false = some in cc)
listed_some (n ∷ ns) some = refl
