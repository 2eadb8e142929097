use Rattle.turn_lock.proofs.Histories.{grows_of_fewer}
use Rattle.turn_lock.proofs.laws.growth_is_of_fewer_callers.Goals as goal

pub returns : goal.returns
returns g c = λ callers fewer before after among grown. grows_of_fewer g.V.Kept.caller_of fewer among grown
