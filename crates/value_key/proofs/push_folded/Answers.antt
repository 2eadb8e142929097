use Rattle.std.proofs.Common.{chars}
use Rattle.std.proofs.lemmas.Str.{encodes-chars}
use Rattle.unicode_normalization.specs.Forms.{nfd}
use Rattle.value_key.proofs.push_folded.Goals as goal

pub returns-then-is_nfd-clause-folded : goal.returns-then-is_nfd-clause-folded
returns-then-is_nfd-clause-folded c = rw (c.is_nfd.ensures.0 c.if-is_nfd.true) c.fold_text.ensures.folded

pub returns-clause-folded : goal.returns-clause-folded
returns-clause-folded c = c.fold_decomposed.ensures.folded (nfd (chars c.args.text.now)) (c.nfd.ensures.text (chars c.args.text.now) (encodes-chars c.args.text.now c.utf8.text))
