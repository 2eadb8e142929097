use Rattle.std.proofs.Common.{length}
use Rattle.column_set.proofs.ListsLemmas.{lists_sum}
use Rattle.column_set.proofs.lists.KeyLists.byte_count.Goals as goal

pub returns : goal.returns
returns c = rw (← lists_sum (λ key. length key) c.self.inside.starts.items c.self.inside.keys c.self.invariant c.args.self.now c.self.view_is) c.byte_count.ensures.count
