use Rattle.reply_text.proofs.KeepingLemmas.{keeps_behind}
use Rattle.reply_text.proofs.layout.push_parts.Goals as goal

pub returns-in_err-push_byte-clause-kept : goal.returns-in_err-push_byte-clause-kept
returns-in_err-push_byte-clause-kept c = keeps_behind _ _ _ _ c.loop-number.invariant c.push_byte.ensures.kept

pub returns-in_err-push_part-clause-kept : goal.returns-in_err-push_part-clause-kept
returns-in_err-push_part-clause-kept c =
    keeps_behind _ _ _ _ c.loop-number.invariant (keeps_behind _ _ _ _ c.in_ok-push_byte.ensures.ok c.push_part.ensures.kept)
