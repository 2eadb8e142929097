-- The law of ends.
use Rattle.trace_ends.proofs.EndLemmas.{ends_decide}
use Rattle.trace_ends.proofs.ends_law.Goals as goal

pub returns : goal.returns
returns c = ends_decide c.numbers_law.ensures.passes
