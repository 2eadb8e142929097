use Rattle.std.proofs.Common.{◌≡◌, ℕ, ◌<◌, [], get_or, length, map}
use Rattle.hash_directory.specs.Buckets.{IsNear}
use Rattle.hash_directory.specs.declared.directory.Near.{Near}
use Rattle.segment_core.specs.Hashes.{hash_of, token_hash}
use Rattle.segment_core.proofs.finding.near_each.Given as goal

abbrev pub invariant-loop-index : goal.invariant-loop-index
invariant-loop-index l = record {
  count : length l.ranges.items ≡ l.index;
  near : (i : ℕ) (d : Near) → i < l.index → IsNear (map token_hash l.order) (hash_of (get_or l.query i [])) (get_or l.ranges.items i d).from (get_or l.ranges.items i d).to;
}
