use Rattle.reply_text.proofs.refusals.push_nothing_to_merge.Goals as goal

pub returns-clause-ok : goal.returns-clause-ok
returns-clause-ok c = rw (← c.at.ensures) c.push_refused.ensures.ok
