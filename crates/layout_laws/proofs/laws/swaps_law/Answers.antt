-- The law of swaps.
use Rattle.layout_laws.proofs.LawLemmas.{passes, answers}
use Rattle.layout_laws.proofs.laws.swaps_law.Goals as goal

pub returns : goal.returns
returns c = record { live = passes; answers = answers }
