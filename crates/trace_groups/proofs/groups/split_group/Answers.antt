use Rattle.std.proofs.Common.{refl, sym, ◌∙◌, ◌-◌, subst, List, ℕ, length, take, drop}
use Rattle.trace_groups.specs.Pieces.{IsGroup}
use Rattle.trace_groups.proofs.GroupLemmas.{begun_first, begun_group, begun_more, begun_not_cut, if_none, not_cut}
use Rattle.trace_groups.proofs.groups.split_group.Goals as goal

pub returns-in_err-_first-clause-none : goal.returns-in_err-_first-clause-none
returns-in_err-_first-clause-none c = if_none _ c.from_residual.result (not_cut c.args.text.now c.in_err-_first.ensures.none c.requires.some)

pub loop-behind-init : goal.loop-behind-init
loop-behind-init c = begun_first c.args.text.now c.in_ok-_first._first.now c.in_ok-_first.behind.now c.in_ok-_first.ensures.line c.requires.first

pub returns-in_err-_more-clause-none : goal.returns-in_err-_more-clause-none
returns-in_err-_more-clause-none c =
    if_none _ c.from_residual-in_err-_more.result
    (begun_not_cut c.args.text.now c.loop-behind.behind.now c.loop-behind.invariant c.in_err-_more.ensures.none (sym c.begins_with_space.ensures ∙ c.loop-behind-test.true))

pub loop-behind-preserved : goal.loop-behind-preserved
loop-behind-preserved c =
    begun_more c.args.text.now c.loop-behind.behind.now c.in_ok-_more._more.now c.in_ok-_more.rest.now c.loop-behind.invariant c.in_ok-_more.ensures.line
    (sym c.begins_with_space.ensures ∙ c.loop-behind-test.true)

pub returns-clause-group : goal.returns-clause-group
returns-clause-group c =
    let text = c.args.text.now in
    let n = length text - length c.loop-behind.behind.now in
    let group : IsGroup text (take n text) (drop n text) = begun_group text c.loop-behind.behind.now n c.loop-behind.invariant (sym c.begins_with_space.ensures ∙ c.loop-behind-test.false) refl in
    subst (λ (t : List ℕ). IsGroup text t c.split_at.result.1.now) (sym c.split_at.ensures.front) (subst (λ (t : List ℕ). IsGroup text (take n text) t) (sym c.split_at.ensures.back) group)
