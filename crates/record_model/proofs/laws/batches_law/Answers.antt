-- The law of batches played one after another.
use Rattle.record_model.proofs.PlayedLemmas.{batches_go_on}
use Rattle.record_model.proofs.laws.batches_law.Goals as goal

pub returns : goal.returns
returns c = batches_go_on
