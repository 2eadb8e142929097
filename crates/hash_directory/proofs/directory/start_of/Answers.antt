use Rattle.std.proofs.Common.{ℕ, ltb, rules}
use Rattle.std.proofs.lemmas.List.Sorted.{IsPartitionPoint-from_clause}
use Rattle.hash_directory.specs.Buckets.{bucket_of}
use Rattle.hash_directory.proofs.StartLemmas.{parted, start_is}
use Rattle.hash_directory.proofs.directory.start_of.Goals as goal

pub returns : goal.returns
returns c =
    let hashes = c.args.hashes.now in
    let before = λ (hash : ℕ). ltb (bucket_of c.args.shift hash) c.args.bucket in
    start_is c.args.shift c.args.bucket hashes c.partition_point.result c.partition_point.ensures.bound
    (IsPartitionPoint-from_clause before hashes c.partition_point.result c.partition_point.ensures.partitioned (parted c.args.shift c.args.bucket hashes c.requires.rising) (λ a r f' called. search rules))
