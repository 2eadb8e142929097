-- The law of hints.
use Rattle.trace_laws.proofs.RebuiltLemmas.{hints_tell}
use Rattle.trace_laws.proofs.hints_law.Goals as goal

pub returns : goal.returns
returns c = hints_tell
