use Rattle.std.proofs.Common.{◌+◌}
use Rattle.segment_build.specs.Hashing.{AreHashed}
use Rattle.segment_build.proofs.hashing.hash_column.Given as goal

abbrev pub invariant-loop-i : goal.invariant-loop-i
invariant-loop-i l = AreHashed l.vocab l.hashed.keys l.hashed.entries.items (l.first + l.i)
