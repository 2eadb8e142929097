use Rattle.std.proofs.Common.{◌≡◌, ◌++◌, length, drop}
use Rattle.catalogue.specs.Carried.{run_marks}
use Rattle.catalogue.proofs.swapping.carried_marks.Given as goal

abbrev pub invariant-loop-part : goal.invariant-loop-part
invariant-loop-part l = l.marks.items ++ run_marks (drop (length l.marks.items) l.kept) (drop l.part-index l.run) ≡ run_marks l.kept l.run
