use Rattle.std.proofs.Common.{◌≡◌, drop}
use Rattle.lake_model.specs.Plan.{first_run}
use Rattle.segment_merge.proofs.planning.first_of_tier.Given as goal

abbrev pub invariant-loop-part : goal.invariant-loop-part
invariant-loop-part l = first_run l.pin.parts ≡ first_run (drop l.part l.pin.parts)
