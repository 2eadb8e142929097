use Rattle.std.proofs.Common.{◌≡◌, ◌++◌, ◌∷◌, flat_map, take}
use Rattle.std.specs.Prelude.{decimal}
use Rattle.reply_text.proofs.words.push_further_numbers.Given as goal

abbrev pub invariant-loop-number : goal.invariant-loop-number
invariant-loop-number l = l.into.items ≡ l.initial.into.items ++ flat_map (λ number. 0x2C ∷ decimal number) (take l.number-index l.numbers)
