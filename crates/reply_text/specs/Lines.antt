-- The first line of a reply's text.
use Rattle.std.specs.Prelude.{ℕ, ◌∷◌, decimal}
use Rattle.lake_model.specs.Texts.{Text}
use Rattle.script_model.specs.Words.{line_text}
use Rattle.record_model.specs.Replies.{Reply}
use Rattle.record_model.specs.Texts.{reply_words, spaced}

-- the number of a command, and the words of its reply
abbrev pub first_line : ℕ → Reply → Text
first_line number reply = line_text (spaced (decimal number ∷ reply_words reply))
