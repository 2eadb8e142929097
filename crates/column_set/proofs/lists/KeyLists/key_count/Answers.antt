use Rattle.std.proofs.Common.{◌∙◌}
use Rattle.column_set.proofs.ListsLemmas.{lists_count}
use Rattle.column_set.proofs.lists.KeyLists.key_count.Goals as goal

pub returns : goal.returns
returns c = c.len.ensures.value ∙ lists_count c.self.inside.starts.items c.self.inside.keys c.self.invariant c.args.self.now c.self.view_is
