use Rattle.std.proofs.Common.{[], take}
use Rattle.search_model.specs.Segment.{columns_of}
use Rattle.title_order.specs.Titles.{AreMoreTitles}
use Rattle.title_order.proofs.title.all_titles.Given as goal

abbrev pub invariant-loop-shared : goal.invariant-loop-shared
invariant-loop-shared l = AreMoreTitles [] l.titles.items (columns_of (take l.shared-index l.tables))
