use Rattle.column_set.proofs.SortedLemmas.{IsKept}
use Rattle.column_set.proofs.texts.keep_unmarked.Given as goal

abbrev pub invariant-loop-i : goal.invariant-loop-i
invariant-loop-i l = IsKept l.initial.spans.items l.marks l.from l.i l.kept l.spans.items
