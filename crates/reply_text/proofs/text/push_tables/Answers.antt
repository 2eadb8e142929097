use Rattle.reply_text.proofs.KeepingLemmas.{keeps_behind}
use Rattle.reply_text.proofs.text.push_tables.Goals as goal

pub returns-in_err-push_table-clause-kept : goal.returns-in_err-push_table-clause-kept
returns-in_err-push_table-clause-kept c = keeps_behind _ _ _ _ c.loop-name.invariant c.push_table.ensures.kept
