use Rattle.std.proofs.Common.{◌≡◌, take}
use Rattle.segment_core.specs.Plans.{kept_loads}
use Rattle.segment_core.proofs.plan.unmarked_loads.Given as goal

abbrev pub invariant-loop-part : goal.invariant-loop-part
invariant-loop-part l = l.loads.items ≡ kept_loads (take l.part-index l.run)
