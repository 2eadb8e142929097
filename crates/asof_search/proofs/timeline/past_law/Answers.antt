use Rattle.asof_search.proofs.HistoryLemmas.{past_stays}
use Rattle.asof_search.proofs.timeline.past_law.Goals as goal

pub returns : goal.returns
returns c = record { stays = past_stays }
