use Rattle.std.proofs.Common.{◌≡◌, take}
use Rattle.column_watch.proofs.held.lend_all.Given as goal

abbrev pub invariant-loop-held : goal.invariant-loop-held
invariant-loop-held l = l.lent.items ≡ take l.held-index l.rows
