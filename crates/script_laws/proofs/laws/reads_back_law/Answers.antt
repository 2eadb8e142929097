use Rattle.script_laws.proofs.BackFacts.{reads_back}
use Rattle.script_laws.proofs.laws.reads_back_law.Goals as goal

pub returns : goal.returns
returns c = reads_back
