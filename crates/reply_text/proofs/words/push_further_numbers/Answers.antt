use Rattle.reply_text.proofs.KeepingLemmas.{keeps_behind}
use Rattle.reply_text.proofs.words.push_further_numbers.Goals as goal

pub returns-in_err-push_byte-clause-kept : goal.returns-in_err-push_byte-clause-kept
returns-in_err-push_byte-clause-kept c = keeps_behind _ _ _ _ c.loop-number.invariant c.push_byte.ensures.kept

pub returns-in_err-push_number-clause-kept : goal.returns-in_err-push_number-clause-kept
returns-in_err-push_number-clause-kept c =
    keeps_behind _ _ _ _ c.loop-number.invariant (keeps_behind _ _ _ _ c.in_ok-push_byte.ensures.ok c.push_number.ensures.kept)
