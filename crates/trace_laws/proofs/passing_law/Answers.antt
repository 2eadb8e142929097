-- The law of what passes.
use Rattle.trace_laws.proofs.PassingLemmas.{passing_is_right}
use Rattle.trace_laws.proofs.DecidingLemmas.{right_passes}
use Rattle.trace_laws.proofs.passing_law.Goals as goal

pub returns : goal.returns
returns c = record { sound = passing_is_right; complete = right_passes }
