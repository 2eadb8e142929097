-- The law of the verdict.
use Rattle.trace_laws.proofs.DecidingLemmas.{verdict_decides, verdict_groups}
use Rattle.trace_laws.proofs.verdict_law.Goals as goal

pub returns : goal.returns
returns c = record { decides = verdict_decides; groups = verdict_groups }
