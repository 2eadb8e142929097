-- Where the live tables of a layout were loaded, or put by a replace, by their names.
use Rattle.std.specs.Prelude.{ℕ, Bool, List, find, option_map, Option}
use Rattle.lake_model.specs.Texts.{Text}
use Rattle.lake_model.specs.Journal.{has_name}
use Rattle.lake_model.specs.Layout.{Place, Part, unmarked_of}

-- whether the table of a place has the name
abbrev pub is_of : Text → Place → Bool
is_of name place = has_name name place.table

-- the position of the load or replace of the first unmarked table of the name
abbrev pub load_of : List Part → Text → Option ℕ
load_of parts name = option_map (λ place. place.position) (find (is_of name) (unmarked_of parts))
