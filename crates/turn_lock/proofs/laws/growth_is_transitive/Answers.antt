use Rattle.turn_lock.proofs.Histories.{grows_trans}
use Rattle.turn_lock.proofs.laws.growth_is_transitive.Goals as goal

pub returns : goal.returns
returns g c = λ callers first second third g1 g2. grows_trans g.V.Kept.caller_of g1 g2
