use Rattle.std.proofs.Common.{◌≡◌, take}
use Rattle.asof_search.specs.Puts.{positions_put}
use Rattle.asof_search.proofs.blocks.put_positions.Given as goal

abbrev pub invariant-loop-put : goal.invariant-loop-put
invariant-loop-put l = l.positions.items ≡ positions_put (take l.put-index l.puts)
