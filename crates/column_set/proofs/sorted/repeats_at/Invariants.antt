use Rattle.std.proofs.Common.{map}
use Rattle.column_set.specs.Sorted.{place_of}
use Rattle.column_set.proofs.SortedLemmas.{AreMarked}
use Rattle.column_set.proofs.sorted.repeats_at.Given as goal

abbrev pub invariant-loop-i : goal.invariant-loop-i
invariant-loop-i l = AreMarked l.texts l.from (map place_of l.order) l.i l.repeats.items
