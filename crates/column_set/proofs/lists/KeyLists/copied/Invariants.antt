use Rattle.std.proofs.Common.{◌≡◌, [], get_or, take}
use Rattle.column_set.proofs.lists.KeyLists.copied.Given as goal

abbrev pub invariant-loop-i : goal.invariant-loop-i
invariant-loop-i l = l.keys ≡ take l.i (get_or l.self l.list [])
