-- The keys of all watched queries, each once, in the order of their hashes, and the queries that hold them.
use Rattle.std.specs.Prelude.{◌≡◌, ◌+◌, ◌/◌, ◌^◌, ◌<◌, ◌≤◌, ◌&&◌, ℕ, Bool, List, [], ◌∷◌, ◌++◌, bytes_eq, get_or, length, nat_eq}
use Rattle.std.specs.Cmp.Lexicographic.{slice_cmp}
use Rattle.std.specs.Int.{bit_at}
use Rattle.std.specs.List.{AllByRecursion, list_any}
use Rattle.std.specs.List.Sorted.{IsPartitionPoint, IsStrictlySortedBy}
use Rattle.std.specs.Ordering.{nat_cmp}
use Rattle.std.specs.declared.cmp.Ordering.{Ordering}
use Rattle.lake_model.specs.Texts.{Text}
use Rattle.lake_model.specs.Tables.{has_key}
use Rattle.column_set.specs.Hashes.{sip_of}
use Rattle.column_watch.specs.declared.holders.KeyAt.{KeyAt}

abbrev pub key_with : ℕ → ℕ → ℕ → ℕ → KeyAt
key_with hash query index holders = record { hash = hash; query = query; index = index; holders = holders }

-- whether the query of index w is in the mask
abbrev pub has_query : ℕ → ℕ → Bool
has_query mask w = nat_eq (bit_at mask w) 1

-- the key at these indexes, or the empty text if there is none
abbrev pub text_of : List (List Text) → KeyAt → Text
text_of queries at = get_or (get_or queries at.query []) at.index []

-- what keys are sorted by: the hash, and then the bytes of the key
abbrev pub sorted_by : List (List Text) → KeyAt → List ℕ
sorted_by queries at = at.hash ∷ text_of queries at

abbrev pub key_cmp : List (List Text) → KeyAt → KeyAt → Ordering
key_cmp queries a b = slice_cmp nat_cmp (sorted_by queries a) (sorted_by queries b)

abbrev pub IsHashed : List (List Text) → KeyAt → Type 0
IsHashed queries at = at.hash ≡ sip_of (text_of queries at)

-- whether `at` says that the query of index w holds this key
abbrev pub says : List (List Text) → Text → ℕ → KeyAt → Bool
says queries key w at = bytes_eq key (text_of queries at) && has_query at.holders w

-- keys with their hashes that say, for each key, which of the queries hold it
pub record AreKeysOf (queries : List (List Text)) (keys : List KeyAt) : Type 0 where
  pub hashed : AllByRecursion (IsHashed queries) keys
  pub held : (key : Text) (w : ℕ) → list_any (says queries key w) keys ≡ has_key (get_or queries w []) key

-- such keys, distinct and in that order
pub record IsIndexOf (queries : List (List Text)) (index : List KeyAt) : Type 0 where
  pub rising : IsStrictlySortedBy (key_cmp queries) index
  pub keys : AreKeysOf queries index

-- the keys of the query of index w, the first of them at index i
abbrev pub keys_from : ℕ → ℕ → List Text → List KeyAt
keys_from w i [] = []
keys_from w i (key ∷ keys) = key_with (sip_of key) w i (2 ^ w) ∷ keys_from w (i + 1) keys

-- the keys of the queries, the first of which has index w
abbrev pub all_from : ℕ → List (List Text) → List KeyAt
all_from w [] = []
all_from w (keys ∷ queries) = keys_from w 0 keys ++ all_from (w + 1) queries

-- the part of the range of hashes to which a hash belongs
abbrev pub part_of : ℕ → ℕ → ℕ
part_of shift hash = hash / 2 ^ shift

-- for each part, the index of the first key that is not of an earlier part
pub record AreStarts (shift : ℕ) (keys : List KeyAt) (starts : List ℕ) : Type 0 where
  pub within : (part : ℕ) → get_or starts part 0 ≤ length keys
  pub points : (part : ℕ) → part < length starts → IsPartitionPoint (λ at. part_of shift at.hash < part) (λ at. part ≤ part_of shift at.hash) keys (get_or starts part 0)

-- a stretch of the keys outside which no key has the hash
pub record IsStretch (hash : ℕ) (keys stretch : List KeyAt) : Type 0 where
  pub front : List KeyAt
  pub back : List KeyAt
  pub whole : keys ≡ front ++ (stretch ++ back)
  pub before : AllByRecursion (λ at. at.hash ≡ hash → ⊥) front
  pub behind : AllByRecursion (λ at. at.hash ≡ hash → ⊥) back
