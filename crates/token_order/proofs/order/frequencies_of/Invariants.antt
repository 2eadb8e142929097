use Rattle.std.proofs.Common.{◌≡◌, map, take}
use Rattle.token_order.proofs.order.frequencies_of.Given as goal

abbrev pub invariant-loop-run : goal.invariant-loop-run
invariant-loop-run l = l.frequencies.items ≡ map (λ r. r.frequency) (take l.run-index l.runs)
