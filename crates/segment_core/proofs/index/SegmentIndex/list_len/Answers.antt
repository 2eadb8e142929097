use Rattle.std.proofs.Common.{ap, ℕ, ◌+◌, List, arith}
use Rattle.std.specs.List.{slice_index}
use Rattle.segment_core.proofs.SegmentLemmas.{list_bounds}
use Rattle.segment_core.proofs.index.SegmentIndex.list_len.Goals as goal

pub len_at-requires : goal.len_at-requires
len_at-requires c =
    let b = list_bounds _ _ c.self.view_is _ _ _ _ _ _ _ c.self.invariant.0.arrays c.args.token c.requires in
    rw c.deref.ensures.value (record { there = b.there; rising = omega (arith, b.size) })

pub returns : goal.returns
returns c =
    let b = list_bounds _ _ c.self.view_is _ _ _ _ _ _ _ c.self.invariant.0.arrays c.args.token c.requires in
    omega (arith, b.size, ap (λ (s : List ℕ). slice_index s c.args.token) c.deref.ensures.value, ap (λ (s : List ℕ). slice_index s (c.args.token + 1)) c.deref.ensures.value, c.len_at.ensures)
