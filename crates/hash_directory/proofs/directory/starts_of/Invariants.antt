use Rattle.std.proofs.Common.{◌≡◌, length}
use Rattle.hash_directory.specs.Buckets.{AreStarts}
use Rattle.hash_directory.proofs.directory.starts_of.Given as goal

abbrev pub invariant-loop-bucket : goal.invariant-loop-bucket
invariant-loop-bucket l = record {
  len : length l.starts.items ≡ l.bucket;
  starts : AreStarts l.shift l.hashes l.starts.items;
}
