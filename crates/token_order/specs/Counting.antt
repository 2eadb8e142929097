-- A count of runs that is under way: the runs that have ended, the current one, and how many groups were seen.
use Rattle.std.specs.Prelude.{◌≡◌, ℕ, ◌≤◌, List, ◌++◌, map, length, drop}
use Rattle.std.specs.List.{All}
use Rattle.lake_model.specs.Tables.{Table}
use Rattle.search_model.specs.Segment.{Token}
use Rattle.token_order.specs.Groups.{group_token}
use Rattle.token_order.specs.Places.{IsThere}
use Rattle.token_order.specs.Runs.{run_token, runs_from, AreRanked}
use Rattle.token_order.specs.declared.columns.ColumnAt.{ColumnAt}
use Rattle.token_order.specs.declared.groups.Group.{Group}
use Rattle.token_order.specs.declared.runs.Run.{Run}

-- the runs so far, followed by those from the current one on, are all runs
pub record IsCounting (tables : List Table) (all : List Token) (columns : List ColumnAt) (groups : List Group) (ended : List Run) (run : Run) (i : ℕ) : Type 0 where
  pub runs : map (run_token tables columns) ended ++ runs_from (run_token tables columns run) (map (group_token tables columns) (drop i groups)) ≡ all
  pub within : All (λ r. IsThere tables columns r.first) ended
  pub here : IsThere tables columns run.first
  pub ranked : AreRanked ended
  pub rank : run.rank ≡ length ended
  pub few : length ended ≤ i
