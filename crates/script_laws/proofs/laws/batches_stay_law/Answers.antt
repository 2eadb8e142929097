use Rattle.script_laws.proofs.StayFacts.{batches_stay, synced_stay}
use Rattle.script_laws.proofs.laws.batches_stay_law.Goals as goal

pub returns-clause-lines : goal.returns-clause-lines
returns-clause-lines c = batches_stay

pub returns-clause-synced : goal.returns-clause-synced
returns-clause-synced c = synced_stay
