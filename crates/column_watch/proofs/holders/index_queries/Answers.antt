use Rattle.std.proofs.Common.{sym, subst}
use Rattle.std.specs.List.Sorted.{IsNonDecreasingBy}
use Rattle.column_watch.specs.declared.holders.KeyAt.{KeyAt}
use Rattle.column_watch.proofs.HolderLemmas.{keys_of}
use Rattle.column_watch.proofs.IndexLemmas.{hashes_rise}
use Rattle.column_watch.proofs.holders.index_queries.Goals as goal

pub starts_of-requires-clause-rising : goal.starts_of-requires-clause-rising
starts_of-requires-clause-rising c =
    let keys = c.in_ok-keys.keys.items in
    subst (IsNonDecreasingBy (λ (at : KeyAt). at.hash)) (sym c.deref.ensures.value) (hashes_rise (keys_of c.args.queries.now) keys c.in_ok-keys.ensures.index.rising)
