use Rattle.std.proofs.Common.{◌∙◌, arith}
use Rattle.segment_core.proofs.ListsLemmas.{part_is}
use Rattle.segment_core.proofs.SegmentLemmas.{list_bounds}
use Rattle.segment_core.proofs.index.SegmentIndex.list.Goals as goal

pub list_at-requires : goal.list_at-requires
list_at-requires c =
    let b = list_bounds _ _ c.self.view_is _ _ _ _ _ _ _ c.self.invariant.0.arrays c.args.token c.requires in
    rw (c.deref.ensures.value, c.deref-2.ensures.value) (record { there = b.there; rising = omega (arith, b.size); within = omega (arith, b.high) })

pub returns : goal.returns
returns c =
    let b = list_bounds _ _ c.self.view_is _ _ _ _ _ _ _ c.self.invariant.0.arrays c.args.token c.requires in
    c.list_at.ensures ∙ rw (c.deref.ensures.value, c.deref-2.ensures.value) (part_is _ _ _ 0 _ b (omega arith))
