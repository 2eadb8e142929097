-- The runs of all members of tables, one for each distinct key, and the number of each member's run.
use Rattle.std.specs.Prelude.{◌≡◌, ℕ, ◌<◌, ◌^◌, List, [], bytes_eq, get_or, length, map, sum_by}
use Rattle.std.specs.List.{All, AllByRecursion, IsDistinct, count_by, list_any, range_with_len}
use Rattle.std.specs.List.Sorted.{IsPermutation, IsSorted}
use Rattle.std.specs.Cmp.Lexicographic.{slice_cmp}
use Rattle.std.specs.Ordering.{nat_cmp}
use Rattle.lake_model.specs.Texts.{Text}
use Rattle.lake_model.specs.Tables.{Table}
use Rattle.search_model.specs.Arrays.{owner_of, token_keys}
use Rattle.search_model.specs.Segment.{Token, columns_of}
use Rattle.token_order.specs.Columns.{owner_there}
use Rattle.token_order.specs.Places.{keys_of, IsThere}
use Rattle.token_order.specs.Ranks.{IsRank}
use Rattle.token_order.specs.Runs.{run_token, AreRanked}
use Rattle.token_order.specs.declared.columns.ColumnAt.{ColumnAt}
use Rattle.token_order.specs.declared.runs.Run.{Run}

-- the distinct ones of these keys, sorted by their bytes, each as frequent as it is among them
pub record AreTokensOf (keys : List Text) (tokens : List Token) : Type 0 where
  pub rising : IsSorted (slice_cmp nat_cmp) (token_keys tokens)
  pub different : IsDistinct bytes_eq (token_keys tokens)
  pub have : (key : Text) → list_any (bytes_eq key) keys ≡ list_any (bytes_eq key) (token_keys tokens)
  pub frequent : AllByRecursion (λ t. t.frequency ≡ count_by (bytes_eq t.key) keys) tokens
  pub total : sum_by (λ t. t.frequency) tokens ≡ length keys

-- the names of runs
abbrev pub run_names : List Table → List ColumnAt → List Run → List Text
run_names tables columns runs = token_keys (map (run_token tables columns) runs)

-- all runs, by their keys, and for each member the number of its run
pub record AreCounted (tables : List Table) (columns : List ColumnAt) (runs : List Run) (ranks : List ℕ) : Type 0 where
  pub owned : map owner_there columns ≡ map owner_of (columns_of tables)
  pub tokens : AreTokensOf (keys_of tables) (map (run_token tables columns) runs)
  pub within : All (λ r. IsThere tables columns r.first) runs
  pub numbered : AreRanked runs
  pub few : length runs < 2 ^ 32
  pub long : length ranks ≡ length (keys_of tables)
  pub ranked : (n : ℕ) → n < length (keys_of tables) → IsRank (run_names tables columns runs) (get_or (keys_of tables) n []) (get_or ranks n 0)

-- the list is a permutation of the numbers below its length
abbrev pub AreNumbers : List ℕ → Type 0
AreNumbers ranks = IsPermutation (range_with_len 0 (length ranks)) ranks

-- the index of each of the numbers 0, 1, and so on in the list
pub record ArePlaces (ranks places : List ℕ) : Type 0 where
  pub long : length places ≡ length ranks
  pub each : (r : ℕ) → r < length ranks → (get_or places r 0 < length ranks) × (get_or ranks (get_or places r 0) 0 ≡ r)
