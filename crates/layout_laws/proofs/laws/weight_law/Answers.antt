-- The law of the number of swaps.
use Rattle.layout_laws.proofs.LawLemmas.{lowers, are_few}
use Rattle.layout_laws.proofs.laws.weight_law.Goals as goal

pub returns : goal.returns
returns c = record { lower = lowers; few = are_few }
