use Rattle.std.proofs.Common.{◌∙◌, ap}
use Rattle.lake_model.specs.Plan.{binary_digits}
use Rattle.segment_core.specs.Versions.{part_at}
use Rattle.segment_merge.proofs.TierLemmas.{tier_of_sets}
use Rattle.segment_merge.proofs.planning.tier_of.Goals as goal

pub returns : goal.returns
returns c = c.digits.ensures ∙ ap binary_digits c.sets.ensures ∙ tier_of_sets (part_at c.args.pin.now.parts c.args.part)
