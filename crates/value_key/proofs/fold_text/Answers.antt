use Rattle.std.proofs.Common.{refl, ap, ◌∙◌, arith}
use Rattle.std.specs.Str.Iter.{chars_rest, chars_steps}
use Rattle.unicode_normalization.proofs.IterLemmas.{Spells-chars, Spells-end, Spells-next}
use Rattle.value_key.proofs.FoldLemmas.{folds_all, folds_more}
use Rattle.value_key.proofs.fold_text.Goals as goal

pub loop-c-init : goal.loop-c-init
loop-c-init c =
    (omega arith, (_, Spells-chars _ _ c.utf8.text (ap chars_rest c.into_iter-c-iterator.ensures.into_iter_gives ∙ c.chars-c-items.ensures.rest), refl))

pub loop-c-preserved : goal.loop-c-preserved
loop-c-preserved c =
    let now = c.loop-c.invariant.1 in
    let next = Spells-next chars_steps _ _ _ _ c.in-Some.ensures.steps now.1 in
    (omega (arith, c.loop-c.invariant.0, c.in_ok-fold_char.ensures.capacity), (next.0, next.2, folds_more _ _ _ _ _ c.in_ok-fold_char.ensures.folded next.1 ∙ now.2))

pub returns-clause-folded : goal.returns-clause-folded
returns-clause-folded c =
    let now = c.loop-c.invariant.1 in
    folds_all _ _ (Spells-end chars_steps _ _ _ c.in-None.ensures.steps now.1) ∙ now.2
