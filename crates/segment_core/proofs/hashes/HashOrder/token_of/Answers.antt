use Rattle.segment_core.proofs.HashLemmas.{searched}
use Rattle.segment_core.proofs.hashes.HashOrder.token_of.Goals as goal

pub returns : goal.returns
returns c tables is = searched tables c.args.self.now is c.args.hash c.args.key.now c.search.result c.search.ensures.found c.search.ensures.lacking
