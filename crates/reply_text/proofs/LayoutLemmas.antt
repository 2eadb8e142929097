-- The words of a layout that has parts.
use Rattle.std.proofs.Common.{◌≡◌, ◌==◌, ◌∷◌, [], Bool, true, false, List, ℕ, length, flat_map}
use Rattle.std.proofs.lemmas.List.Folds.{flat_map-map}
use Rattle.lake_model.specs.Texts.{Text}
use Rattle.record_model.specs.Texts.{part_text, parts_text}

pub parts_words : (parts : List (ℕ × List (ℕ × Bool))) → (length parts == 0) ≡ false
    → flat_map (λ (word : Text). 0x20 ∷ word) (parts_text parts) ≡ flat_map (λ (part : ℕ × List (ℕ × Bool)). 0x20 ∷ part_text part) parts
parts_words [] some = absurd (let f : true ≡ false = some in cc)
parts_words (part ∷ parts) some = flat_map-map (λ (word : Text). 0x20 ∷ word) part_text (part ∷ parts)
