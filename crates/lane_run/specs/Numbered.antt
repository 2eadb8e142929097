-- Lists whose elements are numbered from some number on.
use Rattle.std.specs.Prelude.{ℕ, ◌+◌, ⊤, List, [], ◌∷◌}

module _ {X : Type 0} where
  -- a fact of each element and its number
  abbrev pub AllNumbered : (ℕ → X → Type 0) → ℕ → List X → Type 0
  AllNumbered P first [] = ⊤
  AllNumbered P first (x ∷ xs) = P first x × AllNumbered P (first + 1) xs

  -- a fact of each element, its number, and the element that replaces it
  abbrev pub AllChange : (ℕ → X → X → Type 0) → ℕ → List X → List X → Type 0
  AllChange R first [] [] = ⊤
  AllChange R first [] (y ∷ ys) = ⊥
  AllChange R first (x ∷ xs) [] = ⊥
  AllChange R first (x ∷ xs) (y ∷ ys) = R first x y × AllChange R (first + 1) xs ys
