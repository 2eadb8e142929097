-- The tokens of a segment in the order of the hashes of their keys.
use Rattle.std.specs.Prelude.{◌≡◌, ℕ, ◌<◌, ◌≤◌, List, [], ◌∷◌, bit_and, length, map, get_or}
use Rattle.std.specs.Cmp.Lexicographic.{slice_cmp}
use Rattle.std.specs.List.{All}
use Rattle.std.specs.List.Sorted.{IsPermutation, IsSortedByKey}
use Rattle.std.specs.Ordering.{nat_cmp}
use Rattle.lake_model.specs.Texts.{Text}
use Rattle.lake_model.specs.Tables.{Table}
use Rattle.column_set.specs.Hashes.{sip_of}
use Rattle.search_model.specs.Arrays.{AreArrays, key_of, numbers_of}
use Rattle.search_model.specs.Segment.{segment}
use Rattle.search_model.specs.declared.Owner.{Owner}
use Rattle.search_model.specs.declared.Posting.{Posting}
use Rattle.search_model.specs.declared.TokenAt.{TokenAt}
use Rattle.text_region.specs.Spans.{IsSpan, text_at}
use Rattle.text_region.specs.Written.{Written}
use Rattle.segment_core.specs.declared.hashes.HashedToken.{HashedToken}

-- the low 32 bits of SipHash-1-3
unfoldable pub hash_of : Text → ℕ
hash_of key = bit_and (sip_of key) 0xFFFFFFFF

-- a token of a part with its key, and the hash of the key
pub record KeyedToken : Type 0 where
  pub hash : ℕ
  pub token : ℕ
  pub key : Text

abbrev pub keyed_from : ℕ → ℕ → Text → KeyedToken
keyed_from hash token key = record { hash = hash; token = token; key = key }

-- a token whose key is in the region
abbrev pub keyed_in : Written → HashedToken → KeyedToken
keyed_in keys entry = keyed_from entry.hash entry.token (text_at keys entry.key)

-- tokens whose keys are in the region
abbrev pub all_keyed : Written → List HashedToken → List KeyedToken
all_keyed keys entries = map (keyed_in keys) entries

-- the key of each entry is in the region
abbrev pub AreKeyed : Written → List HashedToken → Type 0
AreKeyed keys entries = All (λ entry. IsSpan keys entry.key) entries

-- the token at an index
abbrev pub keyed_at : List KeyedToken → ℕ → KeyedToken
keyed_at order i = get_or order i (keyed_from 0 0 [])

-- what such tokens are sorted by
abbrev pub sorted_by : KeyedToken → List ℕ
sorted_by entry = entry.hash ∷ entry.key

abbrev pub token_hash : KeyedToken → ℕ
token_hash entry = entry.hash

abbrev pub token_number : KeyedToken → ℕ
token_number entry = entry.token

abbrev pub entry_hash : HashedToken → ℕ
entry_hash entry = entry.hash

-- of the first `count` hashes, those before this index are lower than the given one, and the others are not
pub record IsSplitIn (count : ℕ) (entries : List HashedToken) (hash at : ℕ) : Type 0 where
  pub within : at ≤ count
  pub lower : (i : ℕ) (d : HashedToken) → i < at → i < count → (get_or entries i d).hash < hash
  pub others : (i : ℕ) (d : HashedToken) → at ≤ i → i < count → hash ≤ (get_or entries i d).hash

-- the hashes before this index are lower than the given one, and the others are not
abbrev pub IsSplit : List HashedToken → ℕ → ℕ → Type 0
IsSplit entries hash at = IsSplitIn (length entries) entries hash at

-- tokens with the hashes of their keys, sorted by these and then by the bytes of the keys
pub record AreInOrder (order : List KeyedToken) : Type 0 where
  pub hashes : All (λ entry. entry.hash ≡ hash_of entry.key) order
  pub rising : IsSortedByKey sorted_by (slice_cmp nat_cmp) order

-- a token of the segment of these tables, with its key
pub record IsHashed (tables : List Table) (entry : KeyedToken) : Type 0 where
  pub there : entry.token < length (segment tables).tokens
  pub key : entry.key ≡ key_of (segment tables).tokens entry.token

-- all tokens of the segment of these tables in their own order, each with its key and the hash of that
pub record AreKeyedTokens (tables : List Table) (keyed : List KeyedToken) : Type 0 where
  pub hashes : All (λ entry. entry.hash ≡ hash_of entry.key) keyed
  pub hashed : All (IsHashed tables) keyed
  pub numbers : map token_number keyed ≡ numbers_of (segment tables).tokens

-- all tokens of the segment of these tables, each once
pub record IsByHash (tables : List Table) (order : List KeyedToken) : Type 0 where
  pub hashed : All (IsHashed tables) order
  pub same : IsPermutation (numbers_of (segment tables).tokens) (map token_number order)

-- The arrays that a segment keeps: those of its tables, with the order of the tokens by hash in place of that by key and
-- of the places at which their keys are.
pub record AreKept (tables : List Table) (owners : List Owner) (by_hash : List KeyedToken) (list_starts : List ℕ) (postings : List Posting) (set_starts set_tokens : List ℕ) : Type 0 where
  pub tokens : List TokenAt
  pub by_key : List ℕ
  pub arrays : AreArrays tables owners tokens by_key list_starts postings set_starts set_tokens
  pub order : IsByHash tables by_hash
