use Rattle.std.proofs.Common.{◌≡◌, ◌≤◌, take}
use Rattle.std.specs.List.{count_by}
use Rattle.lake_model.specs.Layout.{is_among}
use Rattle.part_columns.proofs.SeekLemmas.{AreLeft}
use Rattle.contain_search.proofs.probing.among_from.Given as goal

abbrev pub invariant-loop-i : goal.invariant-loop-i
invariant-loop-i l = record {
  counted : l.shared ≡ count_by (is_among l.others) (take l.i l.tokens);
  few : l.shared ≤ l.i;
  left : AreLeft l.others l.tokens l.left l.i;
}
