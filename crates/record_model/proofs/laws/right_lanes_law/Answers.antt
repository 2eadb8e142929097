-- The laws of right lanes.
use Rattle.record_model.proofs.RightLemmas.{right_on, right_stays}
use Rattle.record_model.proofs.laws.right_lanes_law.Goals as goal

pub returns : goal.returns
returns c = record { stay = right_stays; go_on = right_on }
