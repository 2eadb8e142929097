use Rattle.std.proofs.Common.{◌≡◌, drop}
use Rattle.std.specs.Prelude.{find}
use Rattle.lake_model.specs.Plan.{is_half_marked}
use Rattle.segment_merge.proofs.planning.half_marked.Given as goal

abbrev pub invariant-loop-part : goal.invariant-loop-part
invariant-loop-part l = find is_half_marked l.pin.parts ≡ find is_half_marked (drop l.part l.pin.parts)
