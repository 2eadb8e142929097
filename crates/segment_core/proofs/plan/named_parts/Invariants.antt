use Rattle.std.proofs.Common.{◌≡◌, take}
use Rattle.segment_core.specs.Plans.{named}
use Rattle.segment_core.proofs.plan.named_parts.Given as goal

abbrev pub invariant-loop-part : goal.invariant-loop-part
invariant-loop-part l = l.all.items ≡ named (take l.part-index l.run)
