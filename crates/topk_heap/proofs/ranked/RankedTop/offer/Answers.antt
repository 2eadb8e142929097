use Rattle.std.proofs.Common.{ap, ◌<◌, length, arith}
use Rattle.topk_heap.specs.Ranked.{titles_in, RankedRows}
use Rattle.topk_heap.proofs.ranked.RankedTop.offer.Goals as goal

pub invariant_of-self : goal.invariant_of-self
invariant_of-self c =
    let n = length (titles_in c.self.inside.titles) in
    let within : c.args.rank < n = omega (arith, c.requires, ap (λ (v : RankedRows). length v.titled) c.self.view_is) in
    (c.self.invariant.0, c.keep.ensures.few, omega (arith, c.self.invariant.2, c.keep.ensures.capacity), c.keep.ensures.order, c.keep.ensures.entries n (c.entry_of.ensures.is_entry n within) c.self.invariant.4)
