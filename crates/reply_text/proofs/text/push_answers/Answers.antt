use Rattle.reply_text.proofs.KeepingLemmas.{keeps_behind}
use Rattle.reply_text.proofs.text.push_answers.Goals as goal

pub returns-in_err-push_answer-clause-kept : goal.returns-in_err-push_answer-clause-kept
returns-in_err-push_answer-clause-kept c = keeps_behind _ _ _ _ c.loop-answer.invariant c.push_answer.ensures.kept
