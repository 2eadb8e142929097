use Rattle.reply_text.proofs.refusals.push_unknown.Goals as goal

pub returns-clause-ok : goal.returns-clause-ok
returns-clause-ok c = rw (← c.text.ensures) c.push_refused.ensures.ok
