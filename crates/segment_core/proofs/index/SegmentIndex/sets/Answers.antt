use Rattle.std.proofs.Common.{arith}
use Rattle.segment_core.proofs.SegmentLemmas.{owner_count}
use Rattle.segment_core.proofs.index.SegmentIndex.sets.Goals as goal

pub returns : goal.returns
returns c = omega (arith, owner_count _ _ c.self.view_is _ _ _ _ _ _ _ c.self.invariant.0.arrays)
