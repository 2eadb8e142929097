use Rattle.std.proofs.Common.{◌≡◌, take}
use Rattle.std.specs.List.{list_any}
use Rattle.hash_directory.specs.Buckets.{may_have}
use Rattle.hash_directory.proofs.filter.HashFilter.may_have_any.Given as goal

abbrev pub invariant-loop-hash : goal.invariant-loop-hash
invariant-loop-hash l = l.any ≡ list_any (may_have l.fn.self) (take l.hash-index l.hashes)
