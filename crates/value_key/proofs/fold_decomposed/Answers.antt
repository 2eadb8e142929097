use Rattle.std.proofs.Common.{refl, ◌∙◌, arith}
use Rattle.value_key.proofs.FoldLemmas.{folds_all, folds_more}
use Rattle.value_key.proofs.fold_decomposed.Goals as goal

pub loop-item-init : goal.loop-item-init
loop-item-init c =
    let same = c.into_iter-item-iterator.ensures.into_iter_gives in
    (rw same c.requires, omega arith, λ cs h. (cs, rw same h, refl))

pub loop-item-preserved : goal.loop-item-preserved
loop-item-preserved c =
    let step = rw c.in_ok-item.was at c.in-Some.ensures.steps in (
      step.again,
      omega (arith, c.loop-item.invariant.1, c.in_ok-fold_char.ensures.capacity),
      λ cs h.
          let now = c.loop-item.invariant.2 cs h in
          let next = step.first.at now.0 now.1 in
          (next.0, next.2, folds_more _ _ _ _ _ c.in_ok-fold_char.ensures.folded next.1 ∙ now.2),
    )

pub returns-clause-folded : goal.returns-clause-folded
returns-clause-folded c =
    λ cs h.
    let now = c.loop-item.invariant.2 cs h in
    folds_all _ _ (c.in-None.ensures.steps.first.at now.0 now.1).0 ∙ now.2
