use Rattle.std.proofs.Common.{◌≡◌, ◌++◌, map, take}
use Rattle.segment_core.specs.Lines.{line_from, lines_without}
use Rattle.segment_core.proofs.version.add_unmarked.Given as goal

abbrev pub invariant-loop-i : goal.invariant-loop-i
invariant-loop-i l = map line_from l.lines.items ≡ map line_from l.fn.lines.items ++ lines_without (take l.i l.tables) (take l.i l.marks)
