-- The law of right records.
use Rattle.record_model.proofs.LegalLemmas.{record_right}
use Rattle.record_model.proofs.laws.played_is_right_law.Goals as goal

pub returns : goal.returns
returns c = record_right c.plans_law.ensures.plans_stay
