use Rattle.std.proofs.Common.{◌≡◌, take}
use Rattle.segment_core.proofs.layout.share_places.Given as goal

abbrev pub invariant-loop-number : goal.invariant-loop-number
invariant-loop-number l = l.shared.items ≡ take l.number-index l.parts.items
