use Rattle.std.proofs.Common.{◌≡◌, ◌<◌, ℕ, get_or, true}
use Rattle.hash_directory.specs.Buckets.{may_have}
use Rattle.hash_directory.proofs.filter.HashFilter.of.Given as goal

abbrev pub invariant-loop-hash : goal.invariant-loop-hash
invariant-loop-hash l = (k d : ℕ) → k < l.hash-index → may_have l.filter (get_or l.hashes k d) ≡ true
