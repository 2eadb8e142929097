use Rattle.std.proofs.Common.{◌∙◌, ap, arith, length, sym}
use Rattle.column_set.proofs.ListsLemmas.{bounds_at, length-lists, length-part}
use Rattle.column_set.proofs.lists.KeyLists.size.Goals as goal

pub bounds-from-requires : goal.bounds-from-requires
bounds-from-requires c =
    let count = length-lists c.self.inside.starts.items c.self.inside.keys c.self.invariant c.args.self.now c.self.view_is in
    rw c.deref.ensures.value (omega (arith, count, c.requires))

pub overflow_sub-result : goal.overflow_sub-result
overflow_sub-result c =
    let b = bounds_at c.self.inside.starts.items c.self.inside.keys c.self.invariant c.args.self.now c.self.view_is c.args.list c.requires c.deref.result.now c.deref.ensures.value _ _ c.bounds-from.ensures.from c.bounds-from.ensures.to in
    b.rising

pub returns : goal.returns
returns c =
    let b = bounds_at c.self.inside.starts.items c.self.inside.keys c.self.invariant c.args.self.now c.self.view_is c.args.list c.requires c.deref.result.now c.deref.ensures.value _ _ c.bounds-from.ensures.from c.bounds-from.ensures.to in
    sym (ap length b.is ∙ length-part c.self.inside.keys c.bounds-from.result.0 c.bounds-from.result.1 b.within)
