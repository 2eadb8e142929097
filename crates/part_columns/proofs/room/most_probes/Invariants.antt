use Rattle.std.proofs.Common.{◌≡◌, min, take}
use Rattle.segment_core.specs.Versions.{part_at}
use Rattle.part_columns.specs.Room.{listed_in}
use Rattle.part_columns.proofs.room.most_probes.Given as goal

abbrev pub invariant-loop-token : goal.invariant-loop-token
invariant-loop-token l = l.most ≡ min (listed_in (part_at l.looks.version.parts l.part) (take l.token-index l.tokens)) l.columns
