-- What a search holds before it runs: the query's tokens of each part, room in the log for as many looks as it can
-- take, room for as many rows as it can find, and a tally and room for each column of the part with the most columns.
use Rattle.std.specs.Prelude.{◌≡◌, ℕ, ◌≤◌, [], List, length, map, sum_by, bytes_eq}
use Rattle.std.specs.List.{IsDistinct}
use Rattle.lake_model.specs.Answer.{Row}
use Rattle.lake_model.specs.Layout.{Part}
use Rattle.contain_search.specs.Contained.{FractionOf, least_of}
use Rattle.contain_search.specs.Met.{looks_for, rows_for}
use Rattle.part_columns.specs.Columns.{ColumnsOf}
use Rattle.part_columns.specs.Room.{asked_in, IsMost}

pub record IsReady (parts : List Part) (asked : FractionOf) (spare : ℕ) (lists : List (List ℕ)) (columns : ColumnsOf) (found_room : ℕ) (rows : List Row) (rows_room : ℕ) : Type 0 where
  pub tokens : lists ≡ map (asked_in asked.keys) parts
  pub looks : sum_by (looks_for asked.keys (least_of asked)) parts ≤ spare
  pub wide : IsMost parts (length columns.tallies)
  pub kept : length columns.tallies ≤ found_room
  pub none : rows ≡ []
  pub room : sum_by (rows_for asked.keys (least_of asked)) parts ≤ rows_room
  pub different : IsDistinct bytes_eq asked.keys
  pub few : length asked.keys ≤ 4194304
