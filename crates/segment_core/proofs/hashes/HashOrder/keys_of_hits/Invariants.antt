use Rattle.std.proofs.Common.{◌≡◌, map, take}
use Rattle.segment_core.specs.Hashes.{keyed_at}
use Rattle.segment_core.proofs.hashes.HashOrder.keys_of_hits.Given as goal

abbrev pub invariant-loop-hit : goal.invariant-loop-hit
invariant-loop-hit l = map (λ key. key.now) l.keys.items ≡ map (λ hit. (keyed_at l.fn.self hit.at).key) (take l.hit-index l.hits)
