use Rattle.std.proofs.Common.{◌≡◌, drop}
use Rattle.segment_core.specs.LiveColumn.{live_named}
use Rattle.segment_core.proofs.column.live_column.Given as goal

abbrev pub invariant-loop-part : goal.invariant-loop-part
invariant-loop-part l = live_named (drop l.part-index l.parts) l.name ≡ live_named l.parts l.name
