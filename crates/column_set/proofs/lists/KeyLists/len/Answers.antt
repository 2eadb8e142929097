use Rattle.std.proofs.Common.{arith}
use Rattle.column_set.proofs.ListsLemmas.{length-lists}
use Rattle.column_set.proofs.lists.KeyLists.len.Goals as goal

pub returns : goal.returns
returns c =
    let count = length-lists c.self.inside.starts.items c.self.inside.keys c.self.invariant c.args.self.now c.self.view_is in
    omega (arith, count, c.len.ensures)
