use Rattle.std.proofs.Common.{◌≡◌, take}
use Rattle.lake_model.specs.Layout.{shown}
use Rattle.segment_core.proofs.version.shown_parts.Given as goal

abbrev pub invariant-loop-part : goal.invariant-loop-part
invariant-loop-part l = l.all.items ≡ shown (take l.part-index l.parts)
