use Rattle.std.proofs.Common.{sym, subst, rules}
use Rattle.std.specs.List.Sorted.{IsSorted}
use Rattle.lake_model.proofs.SortingLemmas.{sorted_by_key}
use Rattle.column_watch.specs.Index.{AreKeysOf, key_cmp}
use Rattle.column_watch.specs.declared.holders.KeyAt.{KeyAt}
use Rattle.column_watch.proofs.HolderLemmas.{keys_of}
use Rattle.column_watch.proofs.IndexLemmas.{key_cmp_total, keys_moved}
use Rattle.column_watch.proofs.holders.index_keys.Goals as goal

pub merge_equal-requires-clause-sorted : goal.merge_equal-requires-clause-sorted
merge_equal-requires-clause-sorted c =
    let queries = keys_of c.args.queries.now in
    subst (IsSorted (key_cmp queries)) (sym c.deref.ensures.value) (sorted_by_key (key_cmp_total queries) (λ (a : KeyAt). a) c.sort_by.new.self.items c.in_ok-sort_by.ensures.sorted (λ a r f' k. search rules))

pub merge_equal-requires-clause-whole : goal.merge_equal-requires-clause-whole
merge_equal-requires-clause-whole c =
    let queries = keys_of c.args.queries.now in
    subst (AreKeysOf queries) (sym c.deref.ensures.value) (keys_moved queries _ c.sort_by.new.self.items c.sort_by.ensures.permutation c.in_ok-keys.ensures.keys)
