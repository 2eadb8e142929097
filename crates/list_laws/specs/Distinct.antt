-- Lists of distinct elements, and strictly increasing lists of numbers.
use Rattle.std.specs.Prelude.{◌≡◌, ◌<◌, ℕ, List, [], ◌∷◌}
use Rattle.std.specs.List.{AllByRecursion}

abbrev pub Lacks : {X : Type 0} → List X → X → Type 0
Lacks {X} xs x = AllByRecursion (λ y. y ≡ x → ⊥) xs

abbrev pub AreDistinct : {X : Type 0} → List X → Type 0
AreDistinct [] = Unit {0}
AreDistinct (x ∷ xs) = Lacks xs x × AreDistinct xs

-- each number is below all that follow it
abbrev pub Rises : List ℕ → Type 0
Rises [] = Unit {0}
Rises (n ∷ ns) = AllByRecursion (λ later. n < later) ns × Rises ns
