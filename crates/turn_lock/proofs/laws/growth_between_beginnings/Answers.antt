use Rattle.turn_lock.proofs.Histories.{grows_between}
use Rattle.turn_lock.proofs.laws.growth_between_beginnings.Goals as goal

pub returns : goal.returns
returns g c = λ callers shorter longer whole grown begins le. grows_between g.V.Kept.caller_of callers shorter longer whole grown begins le
