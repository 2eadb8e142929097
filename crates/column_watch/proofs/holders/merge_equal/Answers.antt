use Rattle.std.proofs.Common.{subst}
use Rattle.std.specs.List.Sorted.{IsSorted}
use Rattle.column_watch.specs.Index.{key_cmp, key_with}
use Rattle.column_watch.proofs.HolderLemmas.{keys_of}
use Rattle.column_watch.proofs.IndexLemmas.{cut_first, index_of_none}
use Rattle.column_watch.proofs.holders.merge_equal.Goals as goal

pub merge_rest-requires-clause-sorted : goal.merge_rest-requires-clause-sorted
merge_rest-requires-clause-sorted c = subst (IsSorted (key_cmp (keys_of c.args.queries.now))) (cut_first c.args.keys.now (key_with 0 0 0 0) c.in-len1-up.len_at_least) c.requires.sorted

pub returns-in-empty-clause-index : goal.returns-in-empty-clause-index
returns-in-empty-clause-index c = index_of_none (keys_of c.args.queries.now) c.args.keys.now c.new.result.items c.in-empty.len_below c.requires.whole c.new.ensures.items
