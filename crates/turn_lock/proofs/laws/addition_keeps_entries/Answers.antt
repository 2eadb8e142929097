use Rattle.turn_lock.proofs.Histories.{filter_added}
use Rattle.turn_lock.proofs.laws.addition_keeps_entries.Goals as goal

pub returns : goal.returns
returns g c = λ callers before after entry number among added. filter_added g.V.Kept.caller_of number among added
