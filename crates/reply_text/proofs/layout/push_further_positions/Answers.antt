use Rattle.reply_text.proofs.KeepingLemmas.{keeps_behind}
use Rattle.reply_text.proofs.layout.push_further_positions.Goals as goal

pub returns-in_err-push_byte-clause-kept : goal.returns-in_err-push_byte-clause-kept
returns-in_err-push_byte-clause-kept c = keeps_behind _ _ _ _ c.loop-place.invariant c.push_byte.ensures.kept

pub returns-in_err-push_position-clause-kept : goal.returns-in_err-push_position-clause-kept
returns-in_err-push_position-clause-kept c =
    keeps_behind _ _ _ _ c.loop-place.invariant (keeps_behind _ _ _ _ c.in_ok-push_byte.ensures.ok c.push_position.ensures.kept)
