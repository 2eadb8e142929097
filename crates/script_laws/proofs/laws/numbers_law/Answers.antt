use Rattle.script_laws.proofs.LawLemmas.{numbered}
use Rattle.script_laws.proofs.laws.numbers_law.Goals as goal

pub returns : goal.returns
returns c = numbered
