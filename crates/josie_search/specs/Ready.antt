-- What a search holds before it runs: the query's tokens of each part, room in the log for as many looks as it can
-- take, and a tally and a mark for each column of the part with the most columns.
use Rattle.std.specs.Prelude.{◌≡◌, ℕ, ◌*◌, ◌<◌, ◌≤◌, [], List, length, map, sum_by, bytes_eq}
use Rattle.std.specs.List.{All, IsDistinct}
use Rattle.lake_model.specs.Answer.{Query}
use Rattle.lake_model.specs.Layout.{Part}
use Rattle.josie_search.specs.Firsts.{Firsts}
use Rattle.josie_search.specs.Candidates.{CandidatesOf}
use Rattle.part_columns.specs.Columns.{ColumnsOf, IsClean}
use Rattle.part_columns.specs.Room.{asked_in, IsMost, looks_in}
use Rattle.token_set.specs.Bits.{IsSetOf}

pub record IsReady (parts : List Part) (query : Query) (spare : ℕ) (lists : List (List ℕ)) (columns : ColumnsOf) (first : Firsts) : Type 0 where
  pub asked : lists ≡ map (asked_in query.keys) parts
  pub room : sum_by (looks_in query.keys) parts ≤ spare
  pub wide : IsMost parts (length columns.tallies)
  pub different : IsDistinct bytes_eq query.keys
  pub few : length query.keys ≤ 4194304
  pub some : 0 < query.k
  pub k : first.k ≡ query.k
  pub none : first.rows ≡ []

-- a set of this many words has room for each of these tokens
abbrev pub IsRoomFor : ℕ → List (List ℕ) → Type 0
IsRoomFor words lists = All (All (λ token. token < 64 * words)) lists

-- a set without tokens that has room for each of these
pub record IsReadySet (set : List ℕ) (lists : List (List ℕ)) : Type 0 where
  pub empty : IsSetOf set []
  pub room : IsRoomFor (length set) lists

-- Memory for parts of this many columns, which the next search may use: no column was seen, and there is room for a
-- candidate of each.
pub record IsFree (most : ℕ) (columns : ColumnsOf) (candidates : CandidatesOf) : Type 0 where
  pub clean : IsClean columns
  pub wide : most ≤ length columns.tallies
  pub kept : length columns.tallies ≤ candidates.room
