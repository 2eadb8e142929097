use Rattle.std.proofs.Common.{◌≡◌, ◌≤◌, [], get_or, take}
use Rattle.std.specs.Prelude.{count_by}
use Rattle.lake_model.specs.Tables.{has_key}
use Rattle.column_set.proofs.lists.KeyLists.overlap.Given as goal

abbrev pub invariant-loop-i : goal.invariant-loop-i
invariant-loop-i l = record {
  counted : l.count ≡ count_by (has_key l.keys) (take l.i (get_or l.self l.list []));
  few : l.count ≤ l.i;
}
