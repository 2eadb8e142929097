use Rattle.reply_text.proofs.lines.push_first_line.Goals as goal

pub returns-in-Found-clause-ok : goal.returns-in-Found-clause-ok
returns-in-Found-clause-ok c = rw c.in-Found.is (c.push_found.ensures.ok c.in-Found.reads c.in-Found.probes)

pub returns-in-NoHeader-clause-ok : goal.returns-in-NoHeader-clause-ok
returns-in-NoHeader-clause-ok c = rw c.in-NoHeader.is c.push_refused.ensures.ok

pub returns-in-TooManyColumns-clause-ok : goal.returns-in-TooManyColumns-clause-ok
returns-in-TooManyColumns-clause-ok c = rw c.in-TooManyColumns.is c.push_refused-in-TooManyColumns.ensures.ok

pub returns-in-FileTooLong-clause-ok : goal.returns-in-FileTooLong-clause-ok
returns-in-FileTooLong-clause-ok c = rw c.in-FileTooLong.is c.push_refused-in-FileTooLong.ensures.ok

pub returns-in-TooManyValues-clause-ok : goal.returns-in-TooManyValues-clause-ok
returns-in-TooManyValues-clause-ok c = rw (c.in-TooManyValues.is, ← c.from.ensures) c.push_refused-in-TooManyValues.ensures.ok

pub returns-in-QueryTooLarge-clause-ok : goal.returns-in-QueryTooLarge-clause-ok
returns-in-QueryTooLarge-clause-ok c = rw c.in-QueryTooLarge.is c.push_refused-in-QueryTooLarge.ensures.ok
