use Rattle.std.proofs.Common.{◌≡◌, length}
use Rattle.column_watch.specs.Index.{AreStarts}
use Rattle.column_watch.proofs.holders.starts_of.Given as goal

abbrev pub invariant-loop-part : goal.invariant-loop-part
invariant-loop-part l = record {
  len : length l.starts.items ≡ l.part-counter;
  starts : AreStarts l.shift l.keys l.starts.items;
}
