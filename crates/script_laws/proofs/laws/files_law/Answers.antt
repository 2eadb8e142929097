use Rattle.script_laws.proofs.FetchFacts.{script_fetches}
use Rattle.script_laws.proofs.laws.files_law.Goals as goal

pub returns : goal.returns
returns c = script_fetches
