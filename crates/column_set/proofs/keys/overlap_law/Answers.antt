use Rattle.column_set.proofs.OverlapLemmas.{overlap_both_ways}
use Rattle.column_set.proofs.keys.overlap_law.Goals as goal

pub returns : goal.returns
returns c = overlap_both_ways
