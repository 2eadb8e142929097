-- The law of layouts.
use Rattle.layout_laws.proofs.StayLemmas.{layout_fixed}
use Rattle.layout_laws.proofs.LaidLemmas.{legal_laid_out}
use Rattle.layout_laws.proofs.laws.layout_law.Goals as goal

pub returns : goal.returns
returns c = record { legal = legal_laid_out; fixed = layout_fixed }
