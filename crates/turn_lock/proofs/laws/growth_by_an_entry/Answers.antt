use Rattle.turn_lock.proofs.Histories.{grows_by_entry}
use Rattle.turn_lock.proofs.laws.growth_by_an_entry.Goals as goal

pub returns : goal.returns
returns g c = λ callers before after entry other grown. grows_by_entry g.V.Kept.caller_of entry grown other
