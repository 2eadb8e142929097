use Rattle.lake_model.proofs.DistinctLemmas.{distinct_differ, distinct_keeps}
use Rattle.column_set.proofs.keys.distinct_law.Goals as goal

pub returns : goal.returns
returns c = record { different = distinct_differ; same = distinct_keeps }
