-- The words of a line, and how numbers are written.
use Rattle.std.specs.Prelude.{ℕ, ◌+◌, ◌-◌, ◌*◌, ◌==◌, ◌≡◌, Bool, false, ◌&&◌, not, if◌then◌else◌, List, length, take, drop, filter, fold, get_or, nat_le, take_while, [], ◌∷◌, ◌++◌, bytes_eq, Option, Some, None}
use Rattle.std.specs.List.{AllByRecursion, list_all, slice_split, prefix_len, suffix_len}
use Rattle.lake_model.specs.Texts.{Text}

abbrev pub is_space : ℕ → Bool
is_space byte = byte == 0x20

abbrev pub behind_spaces : Text → Text
behind_spaces text = drop (prefix_len is_space text) text

abbrev pub before_spaces : Text → Text
before_spaces text = take (length text - suffix_len is_space text) text

abbrev pub first_word : Text → Text
first_word text = take_while (λ byte. not (is_space byte)) (behind_spaces text)

-- what follows the first word and the spaces after it
abbrev pub behind_word : Text → Text
behind_word text = behind_spaces (drop (length (first_word text)) (behind_spaces text))

-- the words of a text, which are separated by one or more spaces, with any spaces before and after them
abbrev pub words : Text → List Text
words text = filter (λ word. not (length word == 0)) (slice_split is_space text)

-- ---- numbers

abbrev pub is_digit : ℕ → Bool
is_digit byte = nat_le 48 byte && nat_le byte 57

abbrev pub digits_value : Text → ℕ
digits_value digits = fold (λ n digit. n * 10 + (digit - 48)) 0 digits

-- decimal digits, the first of which is not 0
abbrev pub is_number : Text → Bool
is_number text = list_all is_digit text && not (get_or text 0 48 == 48)

abbrev pub number_of : Text → Option ℕ
number_of text = if is_number text then Some (digits_value text) else None

-- the value of decimal digits, the first of which is not 0, if it is at most `high`
abbrev pub number : ℕ → Text → Option ℕ
number high text = if is_number text && nat_le (digits_value text) high then Some (digits_value text) else None

-- the same, but the single digit 0 is also a number
abbrev pub number_or_zero : ℕ → Text → Option ℕ
number_or_zero high text = if bytes_eq text (48 ∷ []) then Some 0 else number high text

-- ---- lines

-- there is no line feed in the line
abbrev pub NoFeed : Text → Type 0
NoFeed line = AllByRecursion (λ byte. (byte == 0x0A) ≡ false) line

-- a line without a carriage return at its end, if it has one
abbrev pub without_return : Text → Text
without_return line = if get_or line (length line - 1) 0 == 0x0D then take (length line - 1) line else line

-- a line with the line feed that ends it
abbrev pub line_text : Text → Text
line_text line = line ++ 0x0A ∷ []
