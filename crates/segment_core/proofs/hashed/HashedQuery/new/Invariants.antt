use Rattle.std.proofs.Common.{◌≡◌, take, map}
use Rattle.segment_core.specs.Hashes.{hash_of}
use Rattle.segment_core.proofs.hashed.HashedQuery.new.Given as goal

abbrev pub invariant-loop-i : goal.invariant-loop-i
invariant-loop-i l = l.hashes.items ≡ map hash_of (take l.i l.query)
