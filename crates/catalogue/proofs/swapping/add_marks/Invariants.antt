use Rattle.std.proofs.Common.{◌≡◌, ◌++◌, length, drop}
use Rattle.catalogue.specs.Carried.{marks_along}
use Rattle.catalogue.proofs.swapping.add_marks.Given as goal

abbrev pub invariant-loop-i : goal.invariant-loop-i
invariant-loop-i l = l.all.items ++ marks_along (drop (length l.all.items) l.kept) (drop l.i l.positions) (drop l.i l.marks) ≡ l.fn.all.items ++ marks_along (drop (length l.fn.all.items) l.kept) l.positions l.marks
