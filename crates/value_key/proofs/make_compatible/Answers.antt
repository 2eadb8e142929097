use Rattle.std.proofs.Common.{◌∙◌, ◌++◌, ap, sym, encode_utf8_all}
use Rattle.caseless.specs.Caseless.{default_case_fold}
use Rattle.unicode_normalization.specs.Forms.{nfkd}
use Rattle.value_key.proofs.FoldLemmas.{compatible_as_is}
use Rattle.value_key.proofs.make_compatible.Goals as goal

pub returns-then-is_nfkd-clause-value : goal.returns-then-is_nfkd-clause-value
returns-then-is_nfkd-clause-value c = λ cs same.
    sym c.as_str.ensures.value ∙ compatible_as_is cs c.as_str.result.now c.as_str.utf8 (c.as_str.ensures.value ∙ same) (c.is_nfkd.ensures.0 c.if-is_nfkd.true)

pub returns-clause-value : goal.returns-clause-value
returns-clause-value c = λ cs same.
    let source = c.nfkd.ensures.text (default_case_fold cs) (sym (c.as_str-2.ensures.value ∙ same)) in
    let again = c.in_ok-fold_decomposed.ensures.folded (nfkd (default_case_fold cs)) source in
    let folded = again ∙ ap (λ bytes. bytes ++ encode_utf8_all (default_case_fold (nfkd (default_case_fold cs)))) c.new-folded.ensures.bytes in
    c.make_nfkd.ensures.value (default_case_fold (nfkd (default_case_fold cs))) (c.in_ok-put_in_place.ensures.bytes ∙ folded)
