use Rattle.std.proofs.Common.{subst, List}
use Rattle.lake_model.specs.Tables.{Table}
use Rattle.segment_core.specs.Hashes.{IsByHash}
use Rattle.segment_core.proofs.index.SegmentIndex.lookup.Goals as goal

pub returns : goal.returns
returns c = c.lookup.ensures c.args.self.now (subst (λ (tables : List Table). IsByHash tables c.self.inside.by_hash) c.self.view_is c.self.invariant.0.order)
