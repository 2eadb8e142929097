use Rattle.std.proofs.Common.{◌≡◌, take}
use Rattle.std.specs.Prelude.{sum_by}
use Rattle.lake_model.specs.Tables.{members}
use Rattle.segment_build.specs.Hashing.{AreHashed}
use Rattle.segment_build.proofs.hashing.hashed_tokens.Given as goal

abbrev pub invariant-loop-table : goal.invariant-loop-table
invariant-loop-table l = record { hashed : AreHashed l.vocab l.hashed.keys l.hashed.entries.items l.next; next : l.next ≡ sum_by members (take l.table-index l.tables) }
