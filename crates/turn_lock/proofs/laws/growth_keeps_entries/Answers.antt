use Rattle.turn_lock.proofs.Histories.{filter_grown}
use Rattle.turn_lock.proofs.laws.growth_keeps_entries.Goals as goal

pub returns : goal.returns
returns g c = λ callers before after number among grown. filter_grown g.V.Kept.caller_of number among grown
