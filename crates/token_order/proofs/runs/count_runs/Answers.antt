use Rattle.std.proofs.Common.{◌≡◌, subst, List, map}
use Rattle.std.specs.Result.{IfOk, OnOk}
use Rattle.search_model.specs.Arrays.{token_keys}
use Rattle.search_model.specs.Segment.{Token}
use Rattle.token_order.specs.Ranks.{HaveRanks}
use Rattle.token_order.specs.Runs.{run_token}
use Rattle.token_order.proofs.CountLemmas.{from_first}
use Rattle.token_order.proofs.runs.count_runs.Goals as goal

pub returns-clause-runs : goal.returns-clause-runs
returns-clause-runs c =
    let tables = c.args.tables.now in
    let columns = c.args.columns.now in
    subst (λ (all : List Token). IfOk c.count_from.result (λ runs. map (run_token tables columns) runs.items ≡ all)) (from_first tables columns c.args.groups.now c.in-Some.first.now c.in-Some.ensures.item.3.0 c.in-Some.ensures.item.1) c.count_from.ensures.runs

pub returns-clause-ranked : goal.returns-clause-ranked
returns-clause-ranked c =
    let tables = c.args.tables.now in
    let columns = c.args.columns.now in
    subst (λ (all : List Token). OnOk c.count_from.result (HaveRanks (token_keys all) tables columns c.count_from.new.ranks c.args.groups.now)) (from_first tables columns c.args.groups.now c.in-Some.first.now c.in-Some.ensures.item.3.0 c.in-Some.ensures.item.1) c.count_from.ensures.ranked
