-- Columns that are appended to others, with their tokens.
use Rattle.std.specs.Prelude.{◌≡◌, ℕ, ◌+◌, ◌<◌, ◌≤◌, List, [], ◌∷◌, ◌++◌, get_or, length, map, sum_by}
use Rattle.lake_model.specs.Texts.{Text}
use Rattle.lake_model.specs.Tables.{Table}
use Rattle.search_model.specs.declared.Owner.{Owner}
use Rattle.search_model.specs.Arrays.{all_of, owner_of}
use Rattle.search_model.specs.Segment.{Titled, Token, columns_of, tokens_in, tokens_of}

-- the columns' tokens
abbrev pub sets_for : List Token → List Titled → List (List ℕ)
sets_for tokens columns = map (λ c. tokens_in tokens c.column.keys) columns

-- the index at which each of these lists ends in the list of all, if the first begins at n
abbrev pub ends_of : {X : Type 0} → ℕ → List (List X) → List ℕ
ends_of n [] = []
ends_of n (l ∷ ls) = (n + length l) ∷ ends_of (n + length l) ls

-- the sum of the sizes of the columns' sets of keys
abbrev pub key_count : List Titled → ℕ
key_count columns = sum_by (λ c. length c.column.keys) columns

abbrev pub all_tokens : List Table → List Token
all_tokens tables = tokens_of (columns_of tables)

-- the arrays of columns and their sets
pub record Held : Type 0 where
  pub owners : List Owner
  pub starts : List ℕ
  pub tokens : List ℕ

abbrev pub held_with : List Owner → List ℕ → List ℕ → Held
held_with owners starts tokens = record { owners = owners; starts = starts; tokens = tokens }

-- these columns were appended
pub record HasMore (tokens : List Token) (old new : Held) (columns : List Titled) : Type 0 where
  pub owned : new.owners ≡ old.owners ++ map owner_of columns
  pub bounds : new.starts ≡ old.starts ++ ends_of (length old.tokens) (sets_for tokens columns)
  pub held : new.tokens ≡ old.tokens ++ all_of (sets_for tokens columns)
  pub long : length new.tokens ≡ length old.tokens + key_count columns

-- these keys are those of the list of all keys from this index on
pub record IsStretch (all keys : List Text) (from : ℕ) : Type 0 where
  pub fits : from + length keys ≤ length all
  pub each : (i : ℕ) → i < length keys → get_or all (from + i) [] ≡ get_or keys i []
