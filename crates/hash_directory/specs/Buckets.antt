-- Hashes in buckets: the hashes of a bucket differ only in their last bits.
use Rattle.std.specs.Prelude.{◌≡◌, ◌-◌, ◌/◌, ◌%◌, ◌^◌, ◌<◌, ◌≤◌, ◌&&◌, ℕ, Bool, true, List, get_or, length, nat_eq}
use Rattle.std.specs.Int.{bit_at}
use Rattle.std.specs.List.{AllByRecursion, AllWithin}

-- the bucket of a hash, without its last `shift` bits
abbrev pub bucket_of : ℕ → ℕ → ℕ
bucket_of shift hash = hash / 2 ^ shift

-- a word of 64 bits for each bucket
pub record FilterOf : Type 0 where
  pub shift : ℕ
  pub words : List ℕ

abbrev pub filter_with : ℕ → List ℕ → FilterOf
filter_with shift words = record { shift = shift; words = words }

-- the word of a hash; one outside the words counts as full
abbrev pub word_of : FilterOf → ℕ → ℕ
word_of filter hash = get_or filter.words (bucket_of filter.shift hash) (2 ^ 64 - 1)

-- whether the bit of a word is set whose number is the last six bits of `number`
abbrev pub is_set : ℕ → ℕ → Bool
is_set word number = nat_eq (bit_at word (number % 64)) 1

-- whether the three bits of a hash are set
abbrev pub are_set : ℕ → ℕ → Bool
are_set word hash = is_set word hash && is_set word (hash / 2 ^ 6) && is_set word (hash / 2 ^ 12)

-- whether the hash may be one of those in the filter
abbrev pub may_have : FilterOf → ℕ → Bool
may_have filter hash = are_set (word_of filter hash) hash

-- the filter denies none of these hashes
abbrev pub AreIn : FilterOf → List ℕ → Type 0
AreIn filter hashes = AllByRecursion (λ hash. may_have filter hash ≡ true) hashes

-- the index of the first hash that is not in a bucket before this one
pub record IsStart (shift : ℕ) (hashes : List ℕ) (bucket start : ℕ) : Type 0 where
  pub within : start ≤ length hashes
  pub before : AllWithin (λ hash. bucket_of shift hash < bucket) hashes 0 start
  pub behind : AllWithin (λ hash. bucket ≤ bucket_of shift hash) hashes start (length hashes)

-- the same for each bucket
abbrev pub AreStarts : ℕ → List ℕ → List ℕ → Type 0
AreStarts shift hashes starts = (bucket : ℕ) → bucket < length starts → IsStart shift hashes bucket (get_or starts bucket 0)

pub record DirectoryOf : Type 0 where
  pub filter : FilterOf
  pub starts : List ℕ
  pub shift : ℕ
  pub count : ℕ

abbrev pub directory_with : FilterOf → List ℕ → ℕ → ℕ → DirectoryOf
directory_with filter starts shift count = record { filter = filter; starts = starts; shift = shift; count = count }

-- the directory is that of these hashes
pub record IsDirectoryOf (hashes : List ℕ) (directory : DirectoryOf) : Type 0 where
  pub count : directory.count ≡ length hashes
  pub filter : AreIn directory.filter hashes
  pub starts : AreStarts directory.shift hashes directory.starts

-- the hash is nowhere outside this range of indices
pub record IsNear (hashes : List ℕ) (hash from to : ℕ) : Type 0 where
  pub rising : from ≤ to
  pub within : to ≤ length hashes
  pub before : (k d : ℕ) → k < from → get_or hashes k d ≡ hash → ⊥
  pub behind : (k d : ℕ) → to ≤ k → k < length hashes → get_or hashes k d ≡ hash → ⊥
