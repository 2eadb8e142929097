use Rattle.std.proofs.Common.{◌≡◌, ◌++◌, ◌∷◌, Bool, ℕ, flat_map, take}
use Rattle.record_model.specs.Texts.{position_text}
use Rattle.reply_text.proofs.layout.push_further_positions.Given as goal

abbrev pub invariant-loop-place : goal.invariant-loop-place
invariant-loop-place l = l.into.items ≡ l.initial.into.items ++ flat_map (λ (place : ℕ × Bool). 0x2C ∷ position_text place) (take l.place-index l.places)
