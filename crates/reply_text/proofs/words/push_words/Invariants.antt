use Rattle.std.proofs.Common.{◌≡◌, ◌++◌, ◌∷◌, flat_map, take}
use Rattle.reply_text.specs.Words.{word_text}
use Rattle.reply_text.proofs.words.push_words.Given as goal

abbrev pub invariant-loop-word : goal.invariant-loop-word
invariant-loop-word l = l.into.items ≡ l.initial.into.items ++ flat_map (λ word. 0x20 ∷ word_text word) (take l.word-index l.words)
