use Rattle.std.proofs.Common.{◌≡◌, ◌≤◌, [], drop}
use Rattle.std.specs.List.{slice_range}
use Rattle.std.specs.Str.{IsCharBoundary}
use Rattle.csv_table.specs.Lines.{first_line}
use Rattle.csv_table.proofs.lines.split_line.Given as goal

abbrev pub invariant-loop-i : goal.invariant-loop-i
invariant-loop-i l = record {
  begun : l.from ≤ l.i;
  between : IsCharBoundary l.fn.text l.from;
  left : first_line l.fn.store [] l.fn.text ≡ first_line l.store (slice_range l.fn.text l.from l.i) (drop l.i l.fn.text);
}
