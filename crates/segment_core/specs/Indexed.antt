-- The tables of which the index of a part is.
use Rattle.std.specs.Prelude.{List}
use Rattle.lake_model.specs.Tables.{Table}
use Rattle.segment_core.specs.declared.indexed.Held.{Held}
use Rattle.segment_core.specs.declared.indexed.Held.TheVariants.{BySegment, Alone}

abbrev pub tables_under : Held → List Table
tables_under (BySegment index) = index.now
tables_under (Alone index) = index.value
