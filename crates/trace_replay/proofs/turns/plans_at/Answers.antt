use Rattle.std.proofs.Common.{◌-◌, length, take, drop, leb, ltb, rules}
use Rattle.std.proofs.lemmas.List.Sorted.{IsNonDecreasingBy-drop, IsNonDecreasingBy-take, IsPartitionPoint-from_clause, IsPartitionedBy-leb, IsPartitionedBy-ltb}
use Rattle.trace_numbers.specs.declared.order.Plan.{Plan}
use Rattle.trace_replay.proofs.StretchLemmas.{stretch_of}
use Rattle.trace_replay.proofs.turns.plans_at.Goals as goal

pub returns : goal.returns
returns c =
    let at = c.args.at in
    let plans = c.args.plans.now in
    let from = c.partition_point-from.result in
    let behind = take (length plans - from) (drop from plans) in
    let sorted = IsNonDecreasingBy-take (λ (p : Plan). p.at) (length plans - from) (drop from plans) (IsNonDecreasingBy-drop (λ (p : Plan). p.at) from plans c.requires) in
    let first = IsPartitionPoint-from_clause (λ (p : Plan). ltb p.at at) plans from c.partition_point-from.ensures.partitioned (IsPartitionedBy-ltb (λ (p : Plan). p.at) plans at c.requires) (λ a r f' called. search rules) in
    let second = IsPartitionPoint-from_clause (λ (p : Plan). leb p.at at) behind c.partition_point-to.result c.partition_point-to.ensures.partitioned (IsPartitionedBy-leb (λ (p : Plan). p.at) behind at sorted) (λ a r f' called. search rules) in
    stretch_of (λ (p : Plan). p.at) plans at from c.partition_point-to.result c.partition_point-from.ensures.bound c.partition_point-to.ensures.bound first second
