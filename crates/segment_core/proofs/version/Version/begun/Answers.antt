use Rattle.std.proofs.Common.{sym, subst, List, leb, rules}
use Rattle.std.proofs.lemmas.List.Sorted.{IsPartitionPoint-from_clause, IsPartitionedBy-leb}
use Rattle.lake_model.specs.Layout.{Part}
use Rattle.segment_core.specs.Positions.{AreFull, PositionsRise, first_load}
use Rattle.segment_core.proofs.PositionLemmas.{Begun, begun, firsts_rise}
use Rattle.segment_core.proofs.version.Version.begun.Goals as goal

pub returns : goal.returns
returns c =
    let parts = c.parts.result.now in
    let same = sym c.parts.ensures.parts in
    let rise = subst PositionsRise same c.requires.rise in
    let full = subst AreFull same c.requires.full in
    let point = IsPartitionPoint-from_clause (λ (part : Part). leb (first_load part) c.args.position) parts c.partition_point.result c.partition_point.ensures.partitioned (IsPartitionedBy-leb first_load parts c.args.position (firsts_rise parts rise full)) (λ a r f' called. search rules) in
    let b = subst (λ (ps : List Part). Begun ps c.args.position c.partition_point.result) c.parts.ensures.parts (begun parts c.args.position c.partition_point.result c.partition_point.ensures.bound point) in
    record { within = b.within; before = b.before; behind = b.behind }
