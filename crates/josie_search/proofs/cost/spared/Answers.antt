use Rattle.std.proofs.Common.{arith}
use Rattle.josie_search.proofs.CostLemmas.{spared_sums, spares_nothing, sums_rise}
use Rattle.josie_search.proofs.cost.spared.Goals as goal

pub overflow_sub-result : goal.overflow_sub-result
overflow_sub-result c =
    let (lengths, are) = c.requires.sums in
    sums_rise lengths c.args.sums.now c.max-first.result c.saturating_sub-end.result are (omega (arith, c.if-first-end.true)) (omega (arith, c.saturating_sub-end.ensures, c.max.ensures, c.requires.read))

pub returns-then-first-end : goal.returns-then-first-end
returns-then-first-end c = λ lengths are.
    spared_sums lengths c.args.sums.now c.args.read c.args.threshold c.args.estimate c.max-first.result c.saturating_sub-end.result are
    (omega (arith, c.max-first.ensures, c.saturating_sub.ensures)) (omega (arith, c.saturating_sub-end.ensures, c.max.ensures)) c.if-first-end.true

pub returns-else-first-end : goal.returns-else-first-end
returns-else-first-end c = λ lengths are.
    spares_nothing lengths c.args.sums.now c.args.read c.args.threshold c.args.estimate c.max-first.result c.saturating_sub-end.result are c.requires.read
    (omega (arith, c.max-first.ensures, c.saturating_sub.ensures)) (omega (arith, c.saturating_sub-end.ensures, c.max.ensures)) (omega (arith, c.if-first-end.false))
