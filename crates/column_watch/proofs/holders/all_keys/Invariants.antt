use Rattle.std.proofs.Common.{◌≡◌, ◌≤◌, ◌*◌, length, map, take}
use Rattle.column_watch.specs.Index.{all_from}
use Rattle.column_watch.proofs.holders.all_keys.Given as goal

abbrev pub invariant-loop-w : goal.invariant-loop-w
invariant-loop-w l = record {
  keys : l.keys.items ≡ all_from 0 (map (λ state. state.keys) (take l.w l.queries));
  few : length l.keys.items ≤ l.w * 4194304;
}
