use Rattle.std.proofs.Common.{ℕ, length, ◌≤◌, ◌<◌}
use Rattle.segment_core.specs.Versions.{segment_at}
use Rattle.part_columns.proofs.room.most_columns.Given as goal

abbrev pub invariant-loop-part : goal.invariant-loop-part
invariant-loop-part l = (k : ℕ) → k < l.part → length (segment_at l.looks.version.parts k).sets ≤ l.most
