use Rattle.reply_text.proofs.KeepingLemmas.{keeps_behind}
use Rattle.reply_text.proofs.quoted.push_each_escaped.Goals as goal

pub returns-in_err-push_escaped-clause-kept : goal.returns-in_err-push_escaped-clause-kept
returns-in_err-push_escaped-clause-kept c = keeps_behind _ _ _ _ c.loop-byte.invariant c.push_escaped.ensures.kept
