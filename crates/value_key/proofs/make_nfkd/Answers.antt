use Rattle.std.proofs.Common.{◌∙◌, sym}
use Rattle.unicode_normalization.specs.Forms.{Nfkd}
use Rattle.value_key.proofs.FoldLemmas.{form_as_is, form_of_read}
use Rattle.value_key.proofs.make_nfkd.Goals as goal

pub returns-then-is_nfkd-clause-value : goal.returns-then-is_nfkd-clause-value
returns-then-is_nfkd-clause-value c = λ cs same.
    sym c.as_str.ensures.value ∙ form_as_is Nfkd cs c.as_str.result.now c.as_str.utf8 (c.as_str.ensures.value ∙ same) (c.is_nfkd.ensures.0 c.if-is_nfkd.true)

pub returns-clause-value : goal.returns-clause-value
returns-clause-value c = λ cs same.
    rw (← c.in_ok-decomposed.ensures ∙ form_of_read Nfkd cs c.as_str-2.result.now c.as_str-2.utf8 (c.as_str-2.ensures.value ∙ same)) c.put_in_place.ensures.bytes
