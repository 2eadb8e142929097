use Rattle.std.proofs.Common.{◌≡◌, ◌++◌, take}
use Rattle.column_watch.specs.Index.{keys_from}
use Rattle.column_watch.proofs.holders.add_keys.Given as goal

abbrev pub invariant-loop-index : goal.invariant-loop-index
invariant-loop-index l = l.keys.items ≡ l.fn.keys.items ++ keys_from l.w 0 (take l.index l.query)
