use Rattle.std.proofs.Common.{subst, List}
use Rattle.lake_model.specs.Tables.{Table}
use Rattle.segment_core.specs.Hashes.{IsByHash}
use Rattle.segment_core.proofs.HashLemmas.{lacks_hash}
use Rattle.segment_core.proofs.index.SegmentIndex.may_have.Goals as goal

pub returns : goal.returns
returns c key own none =
    let order = subst (λ (tables : List Table). IsByHash tables c.self.inside.by_hash) c.self.view_is c.self.invariant.0.order in
    lacks_hash c.args.self.now c.self.inside.by_hash order c.args.hash key own (c.may_have.ensures none)
