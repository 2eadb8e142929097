use Rattle.std.proofs.Common.{◌∙◌, ◌+◌, arith}
use Rattle.segment_core.proofs.ListsLemmas.{part_is}
use Rattle.segment_core.proofs.SegmentLemmas.{set_bounds}
use Rattle.segment_core.proofs.index.SegmentIndex.tail.Goals as goal

pub list_at-requires : goal.list_at-requires
list_at-requires c =
    let b = set_bounds _ _ c.self.view_is _ _ _ _ _ _ _ c.self.invariant.0.arrays c.args.set c.requires.set in
    rw (c.deref.ensures.value, c.deref-2.ensures.value) (record { there = b.there; rising = omega (arith, b.size, c.requires.after); within = omega (arith, b.high) })

pub returns : goal.returns
returns c =
    let b = set_bounds _ _ c.self.view_is _ _ _ _ _ _ _ c.self.invariant.0.arrays c.args.set c.requires.set in
    c.list_at.ensures ∙ rw (c.deref.ensures.value, c.deref-2.ensures.value) (part_is _ _ _ (c.args.after + 1) _ b (omega (arith, c.requires.after)))
