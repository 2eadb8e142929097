-- The law of positions.
use Rattle.trace_laws.proofs.HintLemmas.{positions_decide}
use Rattle.trace_laws.proofs.positions_law.Goals as goal

pub returns : goal.returns
returns c = positions_decide
