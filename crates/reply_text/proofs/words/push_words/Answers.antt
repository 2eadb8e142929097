use Rattle.reply_text.proofs.KeepingLemmas.{keeps_behind}
use Rattle.reply_text.proofs.words.push_words.Goals as goal

pub returns-in_err-push_byte-clause-kept : goal.returns-in_err-push_byte-clause-kept
returns-in_err-push_byte-clause-kept c = keeps_behind _ _ _ _ c.loop-word.invariant c.push_byte.ensures.kept

pub returns-in_err-push_word-clause-kept : goal.returns-in_err-push_word-clause-kept
returns-in_err-push_word-clause-kept c =
    keeps_behind _ _ _ _ c.loop-word.invariant (keeps_behind _ _ _ _ c.in_ok-push_byte.ensures.ok c.push_word.ensures.kept)
