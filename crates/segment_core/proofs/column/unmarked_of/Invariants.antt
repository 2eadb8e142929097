use Rattle.std.proofs.Common.{◌≡◌, drop}
use Rattle.std.specs.Prelude.{find}
use Rattle.lake_model.specs.Journal.{has_name}
use Rattle.segment_core.specs.LiveColumn.{tables_without}
use Rattle.segment_core.proofs.column.unmarked_of.Given as goal

abbrev pub invariant-loop-i : goal.invariant-loop-i
invariant-loop-i l = find (has_name l.name) (tables_without (drop l.i l.tables) (drop l.i l.marks)) ≡ find (has_name l.name) (tables_without l.tables l.marks)
