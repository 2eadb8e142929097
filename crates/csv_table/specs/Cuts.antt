-- Texts one after another in one text, and where each of them ends.
use Rattle.std.specs.Prelude.{◌≡◌, ◌≤◌, ℕ, List, [], ◌∷◌, length, slice_range, take}
use Rattle.std.specs.Str.{IsUtf8}
use Rattle.lake_model.specs.Texts.{Text}

-- the texts that a text is cut into, each from where the one before it ends
abbrev pub cut_from : ℕ → List ℕ → Text → List Text
cut_from from [] text = []
cut_from from (to ∷ ends) text = slice_range text from to ∷ cut_from to ends text

-- each end is between two characters and not before the last one, and the text ends with the last of them
abbrev pub AreCuts : ℕ → List ℕ → Text → Type 0
AreCuts from [] text = from ≡ length text
AreCuts from (to ∷ ends) text = (from ≤ to) × (to ≤ length text) × IsUtf8 (take to text) × AreCuts to ends text
