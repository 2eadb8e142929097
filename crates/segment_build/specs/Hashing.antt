-- The entries of tokens, written one after another while the members of tables are walked: the entry of a token is
-- written when its key is met for the first time.
use Rattle.std.specs.Prelude.{◌≡◌, ℕ, ◌<◌, List, [], length, get_or}
use Rattle.lake_model.specs.Texts.{Text}
use Rattle.lake_model.specs.Tables.{Table}
use Rattle.search_model.specs.Arrays.{key_of}
use Rattle.search_model.specs.Segment.{Token}
use Rattle.segment_core.specs.Hashes.{hash_of, keyed_from, keyed_in, AreKeyed, KeyedToken}
use Rattle.segment_core.specs.declared.hashes.HashedToken.{HashedToken}
use Rattle.segment_build.specs.Holding.{all_tokens}
use Rattle.text_region.specs.Written.{Written}
use Rattle.token_order.specs.Places.{keys_of}

-- a token with its key and the hash of that
abbrev pub token_keyed : List Token → ℕ → KeyedToken
token_keyed tokens token = keyed_from (hash_of (key_of tokens token)) token (key_of tokens token)

-- the entry of the token that has the key was written
pub record IsMet (tokens : List Token) (entries : List HashedToken) (key : Text) : Type 0 where
  pub token : ℕ
  pub there : token < length tokens
  pub named : key_of tokens token ≡ key
  pub written : (d : HashedToken) → (get_or entries token d).token ≡ token

-- Entries of which those of the first `count` members' tokens were written. An entry was written if it has the number
-- of its token.
pub record AreHashed (tables : List Table) (keys : Written) (entries : List HashedToken) (count : ℕ) : Type 0 where
  pub long : length entries ≡ length (all_tokens tables)
  pub spans : AreKeyed keys entries
  pub right : (k : ℕ) (d : HashedToken) → k < length entries → (get_or entries k d).token ≡ k → keyed_in keys (get_or entries k d) ≡ token_keyed (all_tokens tables) k
  pub met : (m : ℕ) → m < count → IsMet (all_tokens tables) entries (get_or (keys_of tables) m [])
