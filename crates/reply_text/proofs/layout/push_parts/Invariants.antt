use Rattle.std.proofs.Common.{◌≡◌, ◌++◌, ◌∷◌, Bool, List, ℕ, flat_map, take}
use Rattle.record_model.specs.Texts.{part_text}
use Rattle.reply_text.proofs.layout.push_parts.Given as goal

abbrev pub invariant-loop-number : goal.invariant-loop-number
invariant-loop-number l = l.into.items ≡ l.initial.into.items ++ flat_map (λ (part : ℕ × List (ℕ × Bool)). 0x20 ∷ part_text part) (take l.number-index l.parts)
