use Rattle.std.proofs.Common.{◌∙◌, sym}
use Rattle.unicode_normalization.specs.Forms.{Nfd}
use Rattle.value_key.proofs.FoldLemmas.{form_as_is, form_of_read}
use Rattle.value_key.proofs.make_nfd.Goals as goal

pub returns-then-is_nfd-clause-value : goal.returns-then-is_nfd-clause-value
returns-then-is_nfd-clause-value c = λ cs same.
    sym c.as_str.ensures.value ∙ form_as_is Nfd cs c.as_str.result.now c.as_str.utf8 (c.as_str.ensures.value ∙ same) (c.is_nfd.ensures.0 c.if-is_nfd.true)

pub returns-clause-value : goal.returns-clause-value
returns-clause-value c = λ cs same.
    rw (← c.in_ok-decomposed.ensures ∙ form_of_read Nfd cs c.as_str-2.result.now c.as_str-2.utf8 (c.as_str-2.ensures.value ∙ same)) c.put_in_place.ensures.bytes
