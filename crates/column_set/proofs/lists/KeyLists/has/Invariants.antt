use Rattle.std.proofs.Common.{◌≡◌, [], false, get_or, take}
use Rattle.lake_model.specs.Tables.{has_key}
use Rattle.column_set.proofs.lists.KeyLists.has.Given as goal

abbrev pub invariant-loop-i : goal.invariant-loop-i
invariant-loop-i l = has_key (take l.i (get_or l.self l.list [])) l.key ≡ false
