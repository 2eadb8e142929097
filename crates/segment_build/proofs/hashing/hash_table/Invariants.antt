use Rattle.std.proofs.Common.{◌≡◌, ◌+◌, take}
use Rattle.search_model.specs.Segment.{columns_in}
use Rattle.segment_build.specs.Hashing.{AreHashed}
use Rattle.segment_build.specs.Holding.{key_count}
use Rattle.segment_build.proofs.hashing.hash_table.Given as goal

abbrev pub invariant-loop-i : goal.invariant-loop-i
invariant-loop-i l = record { hashed : AreHashed l.vocab l.hashed.keys l.hashed.entries.items l.next; next : l.next ≡ l.first + key_count (take l.i (columns_in 0 l.table)) }
