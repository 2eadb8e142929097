-- The buckets of sorted hashes, and the indices near which a hash is.
use Rattle.std.proofs.Common.{◌≡◌, ℕ, ◌+◌, ◌/◌, ◌*◌, ◌^◌, ◌<◌, ◌≤◌, List, true, false, length, get_or, arith, ltb}
use Rattle.std.specs.List.Sorted.{IsNonDecreasingBy, IsPartitionPoint, IsPartitionedBy}
use Rattle.std.proofs.Math.Nat.{div-mul-le_self}
use Rattle.std.proofs.lemmas.Bool.{ltb-true, ltb-false}
use Rattle.std.proofs.lemmas.Bool.Decides.{nat_tests}
use Rattle.std.proofs.lemmas.List.{get_or_default, get_or_past}
use Rattle.std.proofs.lemmas.Nat.{le-div, pow_pos}
use Rattle.hash_directory.specs.Buckets.{AreStarts, IsNear, IsStart, bucket_of}

-- a bucket does not come before that of a lower hash
buckets_rise : (shift a b : ℕ) → a ≤ b → bucket_of shift a ≤ bucket_of shift b
buckets_rise shift a b h = let low : a / 2 ^ shift * 2 ^ shift ≤ a = div-mul-le_self a (2 ^ shift) in le-div (a / 2 ^ shift) b (2 ^ shift) (pow_pos shift) (omega (arith, low, h))

pub parted : (shift bucket : ℕ) (hashes : List ℕ) → IsNonDecreasingBy (λ (n : ℕ). n) hashes → IsPartitionedBy (λ hash. ltb (bucket_of shift hash) bucket) hashes
parted shift bucket hashes up i j d l h e = grind (arith, nat_tests, buckets_rise shift (get_or hashes i d) (get_or hashes j d) (up i j d l h))

pub start_is : (shift bucket : ℕ) (hashes : List ℕ) (start : ℕ) → start ≤ length hashes → IsPartitionPoint (λ hash. ltb (bucket_of shift hash) bucket ≡ true) (λ hash. ltb (bucket_of shift hash) bucket ≡ false) hashes start → IsStart shift hashes bucket start
start_is shift bucket hashes start within point = record {
  within = within;
  before = λ k d l h. ltb-true (bucket_of shift (get_or hashes k d)) bucket (point.0 k d l h);
  behind = λ k d l h. ltb-false (bucket_of shift (get_or hashes k d)) bucket (point.1 k d l h);
}

-- ---- the indices of a bucket

module _ (shift hash : ℕ) (hashes starts : List ℕ) (are : AreStarts shift hashes starts) (from to : ℕ) (first : from ≡ get_or starts (bucket_of shift hash) 0) (last : to ≡ get_or starts (bucket_of shift hash + 1) (length hashes)) where
  abbrev here : ℕ
  here = bucket_of shift hash

  from_within : from ≤ length hashes
  from_within = grind (arith, are here, get_or_past starts here 0)

  to_within : to ≤ length hashes
  to_within = grind (arith, are (here + 1), get_or_default starts (here + 1) (length hashes) 0, get_or_past starts (here + 1) (length hashes))

  before : (k d : ℕ) → k < from → bucket_of shift (get_or hashes k d) < here
  before k d h = grind (arith, λ (l : here < length starts). (are here l).before k d, get_or_past starts here 0)

  behind : (k d : ℕ) → to ≤ k → k < length hashes → here < bucket_of shift (get_or hashes k d)
  behind k d g h = grind (arith, λ (l : here + 1 < length starts). (are (here + 1) l).behind k d, get_or_default starts (here + 1) (length hashes) 0, get_or_past starts (here + 1) (length hashes))

  pub near_is : IsNear hashes hash from to
  near_is = record {
    rising = grind (arith, before to 0, behind to 0, from_within);
    within = to_within;
    before = λ k d h e. grind (arith, before k d);
    behind = λ k d g h e. grind (arith, behind k d);
  }
