use Rattle.std.proofs.Common.{◌∙◌, sym}
use Rattle.reply_text.proofs.ListedLemmas.{listed_some}
use Rattle.reply_text.proofs.words.push_numbers.Goals as goal

pub returns-clause-ok : goal.returns-clause-ok
returns-clause-ok c = rw (listed_some c.args.numbers.now (sym c.is_empty.ensures ∙ c.if-is_empty.false)) c.push_joined.ensures.ok
