use Rattle.std.proofs.Common.{◌≡◌, map, not, take}
use Rattle.asof_search.specs.Puts.{was_live}
use Rattle.asof_search.proofs.blocks.put_marks.Given as goal

abbrev pub invariant-loop-put : goal.invariant-loop-put
invariant-loop-put l = l.marks.items ≡ map (λ put. not (was_live l.asked put)) (take l.put-index l.puts)
