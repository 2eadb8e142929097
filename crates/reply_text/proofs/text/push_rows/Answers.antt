use Rattle.reply_text.proofs.KeepingLemmas.{keeps_behind}
use Rattle.reply_text.proofs.text.push_rows.Goals as goal

pub returns-in_err-push_row-clause-kept : goal.returns-in_err-push_row-clause-kept
returns-in_err-push_row-clause-kept c = keeps_behind _ _ _ _ c.loop-row.invariant c.push_row.ensures.kept
