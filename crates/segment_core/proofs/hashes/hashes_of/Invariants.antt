use Rattle.std.proofs.Common.{◌≡◌, take, map}
use Rattle.segment_core.specs.Hashes.{entry_hash}
use Rattle.segment_core.proofs.hashes.hashes_of.Given as goal

abbrev pub invariant-loop-entry : goal.invariant-loop-entry
invariant-loop-entry l = l.hashes.items ≡ map entry_hash (take l.entry-index l.entries)
