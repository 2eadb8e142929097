-- Texts in a region, and lists of texts one after another in one list.
use Rattle.std.specs.Prelude.{◌≡◌, ◌<◌, ◌≤◌, ◌^◌, ℕ, List, [], ◌∷◌, bytes_eq, length, slice_range}
use Rattle.std.specs.List.{AllByRecursion, IsDistinct}
use Rattle.lake_model.specs.Texts.{Text}
use Rattle.text_region.specs.Spans.{IsSpan}
use Rattle.text_region.specs.Written.{Written}
use Rattle.text_region.specs.declared.region.Span.{Span}

-- each text is in the region, and 32 bits suffice to number them
pub record AreTexts (region : Written) (spans : List Span) : Type 0 where
  pub stand : AllByRecursion (IsSpan region) spans
  pub few : length spans < 2 ^ 32

-- the parts of a list, each from where the one before it ends
abbrev pub parts_from : {X : Type 0} → ℕ → List ℕ → List X → List (List X)
parts_from from [] flat = []
parts_from from (to ∷ ends) flat = slice_range flat from to ∷ parts_from to ends flat

-- the parts of a list, from each of the given indices to the next
abbrev pub parts_of : {X : Type 0} → List ℕ → List X → List (List X)
parts_of [] flat = []
parts_of (from ∷ ends) flat = parts_from from ends flat

-- the parts reach the end of the list
abbrev pub AreParts : ℕ → List ℕ → List Text → Type 0
AreParts from [] texts = from ≡ length texts
AreParts from (to ∷ ends) texts = (from ≤ to) × AreParts to ends texts

-- and begin at its start
abbrev pub AreLists : List ℕ → List Text → Type 0
AreLists [] texts = ⊥
AreLists (from ∷ ends) texts = (from ≡ 0) × AreParts from ends texts

-- the keys are those of a query: not too many, and distinct
pub record IsQuery (keys : List Text) : Type 0 where
  pub small : length keys ≤ 4194304
  pub different : IsDistinct bytes_eq keys
