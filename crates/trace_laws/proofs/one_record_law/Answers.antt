-- The law of one record.
use Rattle.trace_laws.proofs.VerdictLemmas.{hints_decide}
use Rattle.trace_laws.proofs.one_record_law.Goals as goal

pub returns : goal.returns
returns c = hints_decide
