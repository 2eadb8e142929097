-- What a desk's timeline has taken.
use Rattle.std.specs.Prelude.{⊤, List, Option, Some, None}
use mathlib.Core.List.{IsPrefix}
use Rattle.lake_model.specs.Journal.{Entry}

-- the timeline, if there is one, took a beginning of what was seen
abbrev pub Begins : Option (List Entry) → List Entry → Type 0
Begins None seen = ⊤
Begins (Some past) seen = IsPrefix past seen
