use Rattle.std.proofs.Common.{◌∙◌, sym}
use Rattle.reply_text.proofs.LayoutLemmas.{parts_words}
use Rattle.reply_text.proofs.layout.push_parts_or_none.Goals as goal

pub returns-clause-ok : goal.returns-clause-ok
returns-clause-ok c = rw (parts_words c.args.parts.now (sym c.is_empty.ensures ∙ c.if-is_empty.false)) c.push_parts.ensures.ok
