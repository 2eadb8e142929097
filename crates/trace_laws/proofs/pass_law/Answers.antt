-- The law of one pass.
use Rattle.trace_laws.proofs.LowLemmas.{pass_decides, pass_is_test}
use Rattle.trace_laws.proofs.pass_law.Goals as goal

pub returns : goal.returns
returns c = record { each = pass_decides; batch = pass_is_test }
