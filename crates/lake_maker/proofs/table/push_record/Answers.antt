use Rattle.std.proofs.Common.{arith}
use Rattle.std.proofs.lemmas.Result.{on_ok_weaker}
use Rattle.lake_maker.proofs.StepLemmas.{record_pushed, state_step}
use Rattle.lake_maker.proofs.table.push_record.Goals as goal

pub returns-clause-text : goal.returns-clause-text
returns-clause-text c =
    on_ok_weaker c.push_bytes-3.result
    (record_pushed _ _ _ _ _ _ _ _ _ _ c.push_cell.ensures.state c.push_cell-2.ensures.state c.in_ok-push_cell.ensures.cell c.in_ok-push_bytes.ensures.ok c.in_ok-push_cell-2.ensures.cell c.in_ok-push_bytes-2.ensures.ok c.in_ok-push_cell-3.ensures.cell)
    c.push_bytes-3.ensures.ok

pub returns-clause-state : goal.returns-clause-state
returns-clause-state c =
    on_ok_weaker c.push_bytes-3.result
    (λ appended. state_step _ 2 1 3 _ _ (state_step _ 1 1 2 _ _ c.push_cell.ensures.state c.push_cell-2.ensures.state (omega arith)) c.push_cell-3.ensures.state (omega arith))
    c.push_bytes-3.ensures.ok
