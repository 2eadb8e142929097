-- The law of tests.
use Rattle.trace_laws.proofs.RecordLemmas.{checks_decide}
use Rattle.trace_laws.proofs.checks_law.Goals as goal

pub returns : goal.returns
returns c = checks_decide
