-- Lists of tables written as numbers. A slot for an index is tagged with the numbers of its tables, and two lists of
-- tables with the same numbers are the same list.
use Rattle.std.specs.Prelude.{ℕ, List, ◌∷◌, ◌++◌, flat_map, length}
use Rattle.lake_model.specs.Texts.{Text}
use Rattle.lake_model.specs.Tables.{Column, Table}

-- the length of a text, and its bytes
abbrev pub code_text : Text → List ℕ
code_text text = length text ∷ text

-- the length of a list, and the numbers of its elements
abbrev pub code_list : {X : Type 0} → (X → List ℕ) → List X → List ℕ
code_list code xs = length xs ∷ flat_map code xs

abbrev pub code_column : Column → List ℕ
code_column column = code_text column.name ++ code_list code_text column.keys

abbrev pub code_table : Table → List ℕ
code_table table = code_text table.name ++ code_list code_column table.columns

unfoldable pub code_tables : List Table → List ℕ
code_tables tables = code_list code_table tables
