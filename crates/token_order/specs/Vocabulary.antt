-- What a vocabulary holds: the columns of its tables; where its tokens' keys are among them and how frequent the tokens
-- are, in token order; the tokens' numbers by key; and the ranks of the members.
use Rattle.std.specs.Prelude.{◌≡◌, ℕ, ◌<◌, ◌^◌, List, map, length, get_or, sum_by}
use Rattle.std.specs.List.{All}
use Rattle.lake_model.specs.Tables.{Table, members}
use Rattle.search_model.specs.declared.TokenAt.{TokenAt}
use Rattle.search_model.specs.Segment.{Token, columns_of, tokens_of}
use Rattle.search_model.specs.Arrays.{owner_of, token_keys, IsByKey}
use Rattle.token_order.specs.Columns.{owner_there}
use Rattle.token_order.specs.Places.{pointed_by, IsThere}
use Rattle.token_order.specs.Ranks.{AreRanks}
use Rattle.token_order.specs.declared.columns.ColumnAt.{ColumnAt}

-- the frequencies of tokens, and of one
abbrev pub frequencies_of : List Token → List ℕ
frequencies_of tokens = map (λ t. t.frequency) tokens

abbrev pub frequency_of : List Token → ℕ → ℕ
frequency_of tokens n = get_or (frequencies_of tokens) n 0

pub record IsVocabulary (tables : List Table) (columns : List ColumnAt) (places : List TokenAt) (frequencies by_key ranks : List ℕ) : Type 0 where
  pub owned : map owner_there columns ≡ map owner_of (columns_of tables)
  pub named : map (pointed_by tables columns) places ≡ token_keys (tokens_of (columns_of tables))
  pub within : All (IsThere tables columns) places
  pub frequent : frequencies ≡ frequencies_of (tokens_of (columns_of tables))
  pub sorted : IsByKey (tokens_of (columns_of tables)) by_key
  pub few : length places < 2 ^ 32
  pub counted : sum_by (λ n. n) frequencies ≡ sum_by members tables
  pub ranked : AreRanks tables ranks
