-- Texts and their lines. A text is its bytes.
use Rattle.std.specs.Prelude.{ℕ, ◌==◌, if◌then◌else◌, List, [], ◌∷◌, ◌++◌}

abbrev pub Text : Type 0
Text = List ℕ

-- a text as the lines that a line feed ends, without it, and the bytes after the last line feed
pub record Lines : Type 0 where
  pub ended : List Text
  pub rest : Text

abbrev pub lines_with : List Text → Text → Lines
lines_with ended rest = record { ended = ended; rest = rest }

-- one more byte at the start of the first line
abbrev pub onto_first : ℕ → List Text → Text → Lines
onto_first byte [] rest = lines_with [] (byte ∷ rest)
onto_first byte (line ∷ lines) rest = lines_with ((byte ∷ line) ∷ lines) rest

abbrev pub onto_lines : ℕ → Lines → Lines
onto_lines byte lines = if byte == 0x0A then lines_with ([] ∷ lines.ended) lines.rest else onto_first byte lines.ended lines.rest

unfoldable pub lines_of : Text → Lines
lines_of [] = lines_with [] []
lines_of (byte ∷ bytes) = onto_lines byte (lines_of bytes)

-- the bytes after the last line feed are a line if there are any
abbrev pub last_line : Text → List Text
last_line [] = []
last_line (byte ∷ bytes) = (byte ∷ bytes) ∷ []

abbrev pub all_lines : Text → List Text
all_lines text = let lines = lines_of text in lines.ended ++ last_line lines.rest
