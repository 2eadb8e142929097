use Rattle.std.proofs.Common.{◌∙◌}
use Rattle.segment_core.specs.Versions.{part_at, tables_of}
use Rattle.part_columns.proofs.SegmentLists.{list_length}
use Rattle.josie_search.proofs.cost.length_of.Goals as goal

pub returns : goal.returns
returns c = c.list_len.ensures ∙ list_length (tables_of (part_at c.args.looks.now.version.parts c.args.part)) c.args.token c.requires.token
