-- The law of positions within the journal.
use Rattle.trace_ends.proofs.WithinLemmas.{accepted_owns, owner_made, positions_within}
use Rattle.trace_ends.proofs.within_law.Goals as goal

pub returns : goal.returns
returns c = record { within = positions_within; made = owner_made; owns = accepted_owns }
