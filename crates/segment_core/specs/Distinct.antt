-- The names that are distinct in a version.
use Rattle.std.specs.Prelude.{List, map}
use Rattle.lake_model.specs.Texts.{Text}
use Rattle.lake_model.specs.Layout.{Part, unmarked_of}

-- the names of the unmarked tables
abbrev pub unmarked_names : List Part → List Text
unmarked_names parts = map (λ place. place.table.name) (unmarked_of parts)
