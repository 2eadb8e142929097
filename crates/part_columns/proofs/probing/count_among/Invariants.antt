use Rattle.std.proofs.Common.{◌≡◌, ◌≤◌, take}
use Rattle.std.specs.List.{count_by}
use Rattle.lake_model.specs.Layout.{is_among}
use Rattle.part_columns.proofs.SeekLemmas.{AreLeft}
use Rattle.part_columns.proofs.probing.count_among.Given as goal

abbrev pub invariant-loop-token : goal.invariant-loop-token
invariant-loop-token l = record {
  counted : l.shared ≡ count_by (is_among l.others) (take l.token-index l.tokens);
  few : l.shared ≤ l.token-index;
  left : AreLeft l.others l.tokens l.left l.token-index;
}
