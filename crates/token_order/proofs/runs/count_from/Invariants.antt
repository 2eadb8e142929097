use Rattle.std.proofs.Common.{◌≡◌, length, map, take}
use Rattle.search_model.specs.Arrays.{token_keys, token_with}
use Rattle.token_order.specs.Counting.{IsCounting}
use Rattle.token_order.specs.Groups.{group_token}
use Rattle.token_order.specs.Keyed.{IsKeyed}
use Rattle.token_order.specs.Places.{pointed_by}
use Rattle.token_order.specs.Ranks.{HaveRanks}
use Rattle.token_order.specs.Runs.{runs_from}
use Rattle.token_order.proofs.runs.count_from.Given as goal

abbrev pub invariant-loop-group : goal.invariant-loop-group
invariant-loop-group l = record {
  counting : IsCounting l.tables (runs_from (token_with (pointed_by l.tables l.columns l.fn.first.member) 0) (map (group_token l.tables l.columns) l.groups)) l.columns l.groups l.runs.items l.run l.group-index;
  ranked : HaveRanks (token_keys (runs_from (token_with (pointed_by l.tables l.columns l.fn.first.member) 0) (map (group_token l.tables l.columns) l.groups))) l.tables l.columns l.ranks (take l.group-index l.groups);
  begins : l.held.member ≡ l.run.first;
  held : IsKeyed l.tables l.columns l.held;
  long : length l.ranks ≡ length l.fn.ranks;
}
