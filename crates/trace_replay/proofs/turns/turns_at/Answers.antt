use Rattle.std.proofs.Common.{◌-◌, length, take, drop, leb, ltb, rules}
use Rattle.std.proofs.lemmas.List.Sorted.{IsNonDecreasingBy-drop, IsNonDecreasingBy-take, IsPartitionPoint-from_clause, IsPartitionedBy-leb, IsPartitionedBy-ltb}
use Rattle.trace_numbers.specs.declared.order.Turn.{Turn}
use Rattle.trace_replay.proofs.StretchLemmas.{stretch_of}
use Rattle.trace_replay.proofs.turns.turns_at.Goals as goal

pub returns : goal.returns
returns c =
    let at = c.args.at in
    let turns = c.args.turns.now in
    let from = c.partition_point-from.result in
    let behind = take (length turns - from) (drop from turns) in
    let sorted = IsNonDecreasingBy-take (λ (t : Turn). t.at) (length turns - from) (drop from turns) (IsNonDecreasingBy-drop (λ (t : Turn). t.at) from turns c.requires) in
    let first = IsPartitionPoint-from_clause (λ (t : Turn). ltb t.at at) turns from c.partition_point-from.ensures.partitioned (IsPartitionedBy-ltb (λ (t : Turn). t.at) turns at c.requires) (λ a r f' called. search rules) in
    let second = IsPartitionPoint-from_clause (λ (t : Turn). leb t.at at) behind c.partition_point-to.result c.partition_point-to.ensures.partitioned (IsPartitionedBy-leb (λ (t : Turn). t.at) behind at sorted) (λ a r f' called. search rules) in
    stretch_of (λ (t : Turn). t.at) turns at from c.partition_point-to.result c.partition_point-from.ensures.bound c.partition_point-to.ensures.bound first second
