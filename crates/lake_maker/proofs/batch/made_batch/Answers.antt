use Rattle.std.proofs.Common.{ap, ◌∙◌}
use Rattle.lake_maker.specs.Made.{numbered}
use Rattle.lake_maker.proofs.StepLemmas.{tasks_made}
use Rattle.lake_maker.proofs.batch.made_batch.Goals as goal

pub returns-clause-batch : goal.returns-clause-batch
returns-clause-batch c =
    c.batch.ensures.batch
    ∙ ap numbered (tasks_made c.args.seed c.args.tables c.args.rows 50 _ _ _ _ _ c.new-draws.ensures c.new-commands.ensures c.in_ok-push_loads.ensures.state c.in_ok-push_loads.ensures.tasks c.in_ok-push_searches.ensures)
