-- The law of plans.
use Rattle.layout_laws.proofs.LawLemmas.{stays, plans_may_swap, plans_stay}
use Rattle.layout_laws.proofs.laws.plans_law.Goals as goal

pub returns : goal.returns
returns c = record { stay = stays; planned = plans_may_swap; plans_stay = plans_stay }
