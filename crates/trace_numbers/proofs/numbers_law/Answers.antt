use Rattle.trace_numbers.proofs.ApartLemmas.{counted_is, owner_found}
use Rattle.trace_numbers.proofs.numbers_law.Goals as goal

pub returns-clause-found : goal.returns-clause-found
returns-clause-found c = owner_found

pub returns-clause-counted : goal.returns-clause-counted
returns-clause-counted c = counted_is
