use Rattle.reply_text.proofs.refusals.push_no_column.Goals as goal

pub returns-clause-ok : goal.returns-clause-ok
returns-clause-ok c = rw (← c.text.ensures, ← c.from.ensures) c.push_refused.ensures.ok
