use Rattle.search_model.specs.Arrays.{titled_at}
use Rattle.segment_core.specs.Versions.{part_at, segment_of, tables_of}
use Rattle.segment_core.proofs.PlacedLemmas.{placed, row_placed, titles_within}
use Rattle.part_columns.proofs.row.row_of_column.Goals as goal

pub invariant_of-result : goal.invariant_of-result
invariant_of-result c =
    let part = part_at c.args.looks.now.version.parts c.args.part in
    let column = titled_at (segment_of part).columns c.args.column in
    titles_within (tables_of part) column _ _ (placed (tables_of part) c.args.column c.requires.column) c.table_of-place.ensures.titles c.table_of-place.ensures.place

pub returns : goal.returns
returns c =
    let part = part_at c.args.looks.now.version.parts c.args.part in
    let column = titled_at (segment_of part).columns c.args.column in
    row_placed c.args.overlap (tables_of part) column _ _ (placed (tables_of part) c.args.column c.requires.column) c.table_of-place.ensures.titles c.table_of-place.ensures.place
