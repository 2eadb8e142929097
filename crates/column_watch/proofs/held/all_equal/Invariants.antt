use Rattle.std.proofs.Common.{◌≡◌, take}
use Rattle.column_watch.proofs.held.all_equal.Given as goal

abbrev pub invariant-loop-i : goal.invariant-loop-i
invariant-loop-i l = take l.i l.before ≡ take l.i l.after
