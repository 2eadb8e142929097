use Rattle.std.proofs.Common.{arith, ltb, rules}
use Rattle.std.proofs.lemmas.Bool.{ltb-true, ltb-false}
use Rattle.std.proofs.lemmas.List.Sorted.{IsPartitionPoint-from_clause, IsPartitionedBy-ltb}
use Rattle.segment_core.specs.Hashes.{entry_hash}
use Rattle.segment_core.specs.declared.hashes.HashedToken.{HashedToken}
use Rattle.segment_core.proofs.hashes.split_by_halves.Goals as goal

pub returns : goal.returns
returns c =
    let entries = c.args.entries.now in
    let hash = c.args.hash in
    let point = IsPartitionPoint-from_clause (λ (entry : HashedToken). ltb entry.hash hash) entries c.partition_point.result c.partition_point.ensures.partitioned (IsPartitionedBy-ltb entry_hash entries hash c.requires) (λ a r f' called. search rules) in
    record {
      within = omega arith;
      lower = λ i d l h. ltb-true _ _ (point.0 i d (omega arith) l);
      others = λ i d l h. ltb-false _ _ (point.1 i d l h);
    }
