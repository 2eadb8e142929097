use Rattle.std.proofs.Common.{rules}
use Rattle.lake_model.proofs.SortingLemmas.{sorted_by_key}
use Rattle.column_set.proofs.SortedLemmas.{entry_total, hash_ordered}
use Rattle.column_set.proofs.sorted.hash_order.Goals as goal

pub returns : goal.returns
returns c =
    let texts = c.args.texts.now in
    let order = c.sort_unstable_by.new.self.items in
    hash_ordered texts c.args.from c.in_ok-order.order.items order c.in_ok-order.ensures.hashed c.in_ok-order.ensures.places c.sort_unstable_by.ensures.permutation
    (sorted_by_key (entry_total texts) (λ e. e) order c.sort_unstable_by.ensures.sorted (λ a r f' k. search rules))
