-- The ranks of members: the number, from 0, of the member's key among the distinct keys sorted by their bytes.
use Rattle.std.specs.Prelude.{◌≡◌, ℕ, ◌<◌, List, [], map, length, get_or}
use Rattle.std.specs.List.{All}
use Rattle.std.specs.Ordering.{nat_cmp}
use Rattle.std.specs.Cmp.Lexicographic.{slice_cmp}
use Rattle.lake_model.specs.Sorting.{in_order}
use Rattle.lake_model.specs.Texts.{Text}
use Rattle.lake_model.specs.Tables.{Table}
use Rattle.search_model.specs.Segment.{Token, columns_of, tokens_of}
use Rattle.token_order.specs.Places.{keys_of, pointed_by}
use Rattle.token_order.specs.declared.columns.ColumnAt.{ColumnAt}
use Rattle.token_order.specs.declared.groups.Group.{Group}

-- the text is the one with this number
abbrev pub IsRank : List Text → Text → ℕ → Type 0
IsRank names key n = (n < length names) × (get_or names n [] ≡ key)

-- the numbers written for these groups are those of their keys among the names
abbrev pub HaveRanks : List Text → List Table → List ColumnAt → List ℕ → List Group → Type 0
HaveRanks names tables columns ranks groups = All (λ g. IsRank names (pointed_by tables columns g.keyed.member) (get_or ranks g.number 0)) groups

-- the keys of the tokens, sorted by their bytes
abbrev pub names_of : List Token → List Text
names_of tokens = in_order (slice_cmp nat_cmp) (map (λ t. t.key) tokens)

-- the ranks of all members, at their numbers
pub record AreRanks (tables : List Table) (ranks : List ℕ) : Type 0 where
  pub long : length ranks ≡ length (keys_of tables)
  pub each : (n : ℕ) → n < length (keys_of tables) → IsRank (names_of (tokens_of (columns_of tables))) (get_or (keys_of tables) n []) (get_or ranks n 0)
