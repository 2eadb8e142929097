use Rattle.std.proofs.Common.{ℕ, take}
use Rattle.search_model.specs.Segment.{columns_in}
use Rattle.title_order.specs.Titles.{AreMoreTitles}
use Rattle.title_order.proofs.title.push_titles.Given as goal

abbrev pub invariant-loop-i : goal.invariant-loop-i
invariant-loop-i l = (from : ℕ) → AreMoreTitles l.fn.titles.items l.titles.items (take l.i (columns_in from l.table))
