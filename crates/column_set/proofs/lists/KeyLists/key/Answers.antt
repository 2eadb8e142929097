use Rattle.std.proofs.Common.{◌∙◌, ap, arith, get_or, [], List, sym}
use Rattle.lake_model.specs.Texts.{Text}
use Rattle.column_set.proofs.ListsLemmas.{bounds_at, in_part, length-lists, past_part}
use Rattle.column_set.proofs.lists.KeyLists.key.Goals as goal

pub bounds-from-requires : goal.bounds-from-requires
bounds-from-requires c =
    let count = length-lists c.self.inside.starts.items c.self.inside.keys c.self.invariant c.args.self.now c.self.view_is in
    rw c.deref.ensures.value (omega (arith, count, c.requires))

pub overflow_sub-to : goal.overflow_sub-to
overflow_sub-to c =
    let b = bounds_at c.self.inside.starts.items c.self.inside.keys c.self.invariant c.args.self.now c.self.view_is c.args.list c.requires c.deref.result.now c.deref.ensures.value _ _ c.bounds-from.ensures.from c.bounds-from.ensures.to in
    b.rising

pub returns-then-i-to : goal.returns-then-i-to
returns-then-i-to c =
    let b = bounds_at c.self.inside.starts.items c.self.inside.keys c.self.invariant c.args.self.now c.self.view_is c.args.list c.requires c.deref.result.now c.deref.ensures.value _ _ c.bounds-from.ensures.from c.bounds-from.ensures.to in
    sym (ap (λ (ks : List Text). get_or ks c.args.i []) b.is ∙ past_part c.self.inside.keys c.bounds-from.result.0 c.bounds-from.result.1 c.args.i [] (omega (arith, b.rising)) b.within)

pub returns : goal.returns
returns c =
    let b = bounds_at c.self.inside.starts.items c.self.inside.keys c.self.invariant c.args.self.now c.self.view_is c.args.list c.requires c.deref.result.now c.deref.ensures.value _ _ c.bounds-from.ensures.from c.bounds-from.ensures.to in
    c.text.ensures ∙ in_part c.self.inside.keys c.bounds-from.result.0 c.bounds-from.result.1 c.args.i [] (omega (arith, b.rising)) ∙ ap (λ (ks : List Text). get_or ks c.args.i []) (sym b.is)
