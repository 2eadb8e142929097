-- What the arrays of a segment hold, and what ties them to its tables.
use Rattle.std.specs.Prelude.{◌≡◌, ℕ, ◌+◌, ◌<◌, ◌^◌, List, [], ◌∷◌, length, map, flat_map, get_or, bytes_eq, Option, false}
use Rattle.std.specs.Option.{MatchOption}
use Rattle.std.specs.List.{enumerate_from, list_any}
use Rattle.std.specs.Ordering.{is_lt, nat_cmp}
use Rattle.std.specs.List.Sorted.{IsSortedBy, IsPermutation}
use Rattle.std.specs.Cmp.Lexicographic.{slice_cmp}
use Rattle.lake_model.specs.Texts.{Text}
use Rattle.lake_model.specs.Tables.{Table, table_with, column_with}
use Rattle.search_model.specs.declared.Posting.{Posting}
use Rattle.search_model.specs.declared.TokenAt.{TokenAt}
use Rattle.search_model.specs.declared.Owner.{Owner}
use Rattle.search_model.specs.Segment.{Titled, Token, columns_of, segment}

-- the index at which each of these lists begins in the list of all, from n on, and the end
abbrev pub starts_of : {X : Type 0} → ℕ → List (List X) → List ℕ
starts_of n [] = n ∷ []
starts_of n (l ∷ ls) = n ∷ starts_of (n + length l) ls

abbrev pub all_of : {X : Type 0} → List (List X) → List X
all_of ls = flat_map (λ l. l) ls

abbrev pub no_table : Table
no_table = table_with [] []

abbrev pub table_at : List Table → ℕ → Table
table_at tables i = get_or tables i no_table

abbrev pub no_titled : Titled
no_titled = record { from = 0; table = []; place = 0; column = column_with [] [] }

-- the column of a number
abbrev pub titled_at : List Titled → ℕ → Titled
titled_at columns set = get_or columns set no_titled

-- the keys of a column
abbrev pub keys_held : List Table → ℕ → List Text
keys_held tables column = (titled_at (columns_of tables) column).column.keys

-- the key that a token points at
abbrev pub pointed : List Table → TokenAt → Text
pointed tables at = get_or (keys_held tables at.column) at.index []

-- the key that it points at exists
pub record IsAt (tables : List Table) (at : TokenAt) : Type 0 where
  pub column : at.column < length (columns_of tables)
  pub index : at.index < length (keys_held tables at.column)

abbrev pub token_with : Text → ℕ → Token
token_with key frequency = record { key = key; frequency = frequency }

-- the keys of tokens, and of one
abbrev pub token_keys : List Token → List Text
token_keys tokens = map (λ t. t.key) tokens

abbrev pub key_of : List Token → ℕ → Text
key_of tokens n = get_or (token_keys tokens) n []

abbrev pub numbers_of : List Token → List ℕ
numbers_of tokens = map (λ t. t.0) (enumerate_from 0 tokens)

-- the tokens' numbers, each once, by their keys
pub record IsByKey (tokens : List Token) (numbers : List ℕ) : Type 0 where
  pub rising : IsSortedBy (λ a b. is_lt (slice_cmp nat_cmp (key_of tokens a) (key_of tokens b))) numbers
  pub same : IsPermutation (numbers_of tokens) numbers

-- the token of a key, or none
abbrev pub IsToken : List Token → Text → Option ℕ → Type 0
IsToken tokens key found = MatchOption found (list_any (λ t. bytes_eq t.key key) tokens ≡ false) (λ n. (n < length tokens) × (key_of tokens n ≡ key))

-- where a column is: its table's index in the segment, and its place there
abbrev pub owner_of : Titled → Owner
owner_of c = record { table = c.from; place = c.place }

-- Each array is an equation with the segment of the tables: the columns, the keys of the tokens in their order, the
-- tokens' numbers by key, the posting lists (each as long as its token is frequent) and the sets. A list of lists is
-- stored flat, with the index at which each list begins, and the end.
pub record AreArrays (tables : List Table) (owners : List Owner) (tokens : List TokenAt) (by_key list_starts : List ℕ) (postings : List Posting) (set_starts set_tokens : List ℕ) : Type 0 where
  pub owned : owners ≡ map owner_of (segment tables).columns
  pub named : map (pointed tables) tokens ≡ token_keys (segment tables).tokens
  pub within : (i : ℕ) (d : TokenAt) → i < length tokens → IsAt tables (get_or tokens i d)
  pub sorted : IsByKey (segment tables).tokens by_key
  pub list_bounds : list_starts ≡ starts_of 0 (segment tables).lists
  pub posted : postings ≡ all_of (segment tables).lists
  pub set_bounds : set_starts ≡ starts_of 0 (segment tables).sets
  pub held : set_tokens ≡ all_of (segment tables).sets
  pub small : length (segment tables).columns < 2 ^ 32
  pub few : length tokens < 2 ^ 32
