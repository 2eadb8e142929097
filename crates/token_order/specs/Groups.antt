-- Groups of members that have the same key. No member is in two groups, but two groups may have the same key.
use Rattle.std.specs.Prelude.{◌≡◌, ℕ, ◌<◌, List, [], bytes_eq, cond, get_or, length, map, sum_by}
use Rattle.std.specs.List.{All, count_by}
use Rattle.lake_model.specs.Texts.{Text}
use Rattle.lake_model.specs.Tables.{Table}
use Rattle.search_model.specs.Segment.{Token}
use Rattle.search_model.specs.Arrays.{token_with}
use Rattle.token_order.specs.Keyed.{IsKeyed}
use Rattle.token_order.specs.Places.{pointed_by, IsThere}
use Rattle.token_order.specs.declared.columns.ColumnAt.{ColumnAt}
use Rattle.token_order.specs.declared.groups.Group.{Group}

-- a group's key, and how many members it has
abbrev pub group_token : List Table → List ColumnAt → Group → Token
group_token tables columns group = token_with (pointed_by tables columns group.keyed.member) group.frequency

-- how many members a token stands for if it has the key, and none otherwise
abbrev pub often_as : Text → Token → ℕ
often_as key token = cond (bytes_eq key token.key) token.frequency 0

-- how often a key occurs, by the frequencies of tokens, several of which may have the same key
abbrev pub often : Text → List Token → ℕ
often key tokens = sum_by (often_as key) tokens

-- the key of the group with a number
abbrev pub group_key : List Table → List ColumnAt → List Group → ℕ → Text
group_key tables columns groups number = get_or (map (λ g. pointed_by tables columns g.keyed.member) groups) number []

-- the members that have these keys, in groups, and the number of the group of each member
pub record AreGroups (tables : List Table) (columns : List ColumnAt) (keys : List Text) (groups : List Group) (numbers : List ℕ) : Type 0 where
  pub keyed : All (λ g. IsKeyed tables columns g.keyed) groups
  pub within : All (λ g. IsThere tables columns g.keyed.member) groups
  pub numbered : (i : ℕ) (d : Group) → i < length groups → (get_or groups i d).number ≡ i
  pub some : All (λ g. 0 < g.frequency) groups
  pub counted : (key : Text) → often key (map (group_token tables columns) groups) ≡ count_by (bytes_eq key) keys
  pub total : sum_by (λ g. g.frequency) groups ≡ length keys
  pub long : length numbers ≡ length keys
  pub inside : All (λ number. number < length groups) numbers
  pub same : map (group_key tables columns groups) numbers ≡ keys
