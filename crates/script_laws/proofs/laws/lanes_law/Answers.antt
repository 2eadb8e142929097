use Rattle.script_laws.proofs.LawLemmas.{of_its_lanes}
use Rattle.script_laws.proofs.laws.lanes_law.Goals as goal

pub returns : goal.returns
returns c = of_its_lanes
