use Rattle.std.proofs.Common.{◌≡◌, map, take}
use Rattle.token_order.proofs.order.places_of.Given as goal

abbrev pub invariant-loop-run : goal.invariant-loop-run
invariant-loop-run l = l.tokens.items ≡ map (λ r. r.first) (take l.run-index l.runs)
