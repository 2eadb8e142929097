use Rattle.std.proofs.Common.{◌≡◌, drop}
use Rattle.std.specs.Str.{IsCharBoundary}
use Rattle.csv_table.specs.Lines.{behind_breaks}
use Rattle.csv_table.proofs.lines.behind_breaks.Given as goal

abbrev pub invariant-loop-i : goal.invariant-loop-i
invariant-loop-i l = record {
  between : IsCharBoundary l.fn.text l.i;
  left : behind_breaks l.fn.text ≡ behind_breaks (drop l.i l.fn.text);
}
