-- The lines of a text without quotation marks, as records.
use Rattle.std.specs.Prelude.{◌≡◌, ◌==◌, ◌||◌, if◌then◌else◌, Bool, false, ℕ, List, [], ◌∷◌, ◌++◌}
use Rattle.std.specs.List.{list_any}
use Rattle.csv.specs.Reading.{default_config, records}
use Rattle.lake_model.specs.Texts.{Text}
use Rattle.lake_model.specs.Records.{Record}

-- a carriage return or a line feed
abbrev pub is_break : ℕ → Bool
is_break c = (c == 13) || (c == 10)

-- no byte is a quotation mark
abbrev pub HasNoQuotes : Text → Type 0
HasNoQuotes text = list_any (λ c. c == 34) text ≡ false

-- the text from its first byte on that ends no line
unfoldable pub behind_breaks : Text → Text
behind_breaks [] = []
behind_breaks (c ∷ rest) = if is_break c then behind_breaks rest else c ∷ rest

-- the fields of the first line of a text, after the given fields and the given bytes of the next, and the text from the
-- end of the line on
unfoldable pub first_line : Record → Text → Text → Record × Text
first_line fields field [] = (fields ++ field ∷ [], [])
first_line fields field (c ∷ rest) =
    if is_break c then (fields ++ field ∷ [], c ∷ rest)
    else if c == 44 then first_line (fields ++ field ∷ []) [] rest
    else first_line fields (field ++ c ∷ []) rest

-- the records that the crate `csv` reads from a text, if it drops no byte order mark
abbrev pub lines_of : Text → List Record
lines_of text = records default_config text
