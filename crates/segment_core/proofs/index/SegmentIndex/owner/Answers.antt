use Rattle.std.proofs.Common.{◌≡◌, ◌∙◌, ap, ◌<◌, length, arith}
use Rattle.search_model.specs.Arrays.{owner_of, titled_at}
use Rattle.search_model.specs.Segment.{segment}
use Rattle.search_model.specs.declared.Owner.{Owner}
use Rattle.segment_core.proofs.SegmentLemmas.{length-sets, owner_at, owner_count}
use Rattle.segment_core.proofs.PartLemmas.{from_within}
use Rattle.segment_core.proofs.index.SegmentIndex.owner.Goals as goal

pub index-requires : goal.index-requires
index-requires c = omega (arith, owner_count _ _ c.self.view_is _ _ _ _ _ _ _ c.self.invariant.0.arrays, c.requires)

pub returns : goal.returns
returns c =
    let columns = (segment c.args.self.now).columns in
    let inside : c.args.set < length columns = omega (arith, length-sets c.args.self.now, c.requires) in
    let here : c.index.result.now ≡ owner_of (titled_at columns c.args.set) = c.index.ensures ∙ owner_at _ _ c.self.view_is _ _ _ _ _ _ _ c.self.invariant.0.arrays c.args.set c.index.result.now c.requires in
    let table : c.index.result.now.table ≡ (titled_at columns c.args.set).from = ap (λ (o : Owner). o.table) here in
    record { table = table; place = ap (λ (o : Owner). o.place) here; within = omega (arith, table, from_within c.args.self.now c.args.set inside) }
