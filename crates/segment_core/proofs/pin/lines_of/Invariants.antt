use Rattle.std.proofs.Common.{◌≡◌, map, take}
use Rattle.segment_core.specs.Lines.{line_from, live_lines}
use Rattle.segment_core.proofs.pin.lines_of.Given as goal

abbrev pub invariant-loop-part : goal.invariant-loop-part
invariant-loop-part l = map line_from l.lines.items ≡ live_lines (take l.part-index l.parts)
