use Rattle.std.proofs.Common.{arith}
use Rattle.std.proofs.lemmas.Result.{on_ok_weaker}
use Rattle.lake_maker.proofs.StepLemmas.{search_pushed, state_step}
use Rattle.lake_maker.proofs.batch.push_search.Goals as goal

pub returns-clause-tasks : goal.returns-clause-tasks
returns-clause-tasks c =
    on_ok_weaker c.push.result
    (search_pushed c.args.draws.now c.draw.new.self c.draw.result c.draw-column.result c.args.tables c.in_ok-table_name.field-0 c.args.into.now c.push.new.self c.draw.ensures.state c.draw.ensures.drawn c.draw-column.ensures.drawn c.in_ok-table_name.ensures)
    c.push.ensures

pub returns-clause-state : goal.returns-clause-state
returns-clause-state c =
    on_ok_weaker c.push.result (λ pushed. state_step c.args.draws.now 1 1 2 c.draw.new.self c.draw-column.new.self c.draw.ensures.state c.draw-column.ensures.state (omega arith)) c.push.ensures
