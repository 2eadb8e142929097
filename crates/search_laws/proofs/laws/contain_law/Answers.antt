use Rattle.search_laws.proofs.FoundLemmas.{bounds_hold, found_contained}
use Rattle.search_laws.proofs.NeedLemmas.{need_least}
use Rattle.search_laws.proofs.SightLemmas.{few_not_seen, none_twice}
use Rattle.search_laws.proofs.laws.contain_law.Goals as goal

pub returns-clause-need : goal.returns-clause-need
returns-clause-need c = need_least

pub returns-clause-bounds : goal.returns-clause-bounds
returns-clause-bounds c = bounds_hold

pub returns-clause-found : goal.returns-clause-found
returns-clause-found c = found_contained

pub returns-clause-once : goal.returns-clause-once
returns-clause-once c = none_twice

pub returns-clause-few : goal.returns-clause-few
returns-clause-few c = few_not_seen
