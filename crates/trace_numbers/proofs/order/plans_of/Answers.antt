use Rattle.std.proofs.Common.{ap, sym, ◌∙◌, ◌++◌, List, Option, ℕ}
use Rattle.std.proofs.lemmas.List.{append-nil}
use Rattle.trace_numbers.specs.declared.order.Plan.{Plan}
use Rattle.trace_numbers.specs.Turns.{plan_of}
use Rattle.trace_numbers.proofs.OrderLemmas.{plans_more, plans_up}
use Rattle.trace_numbers.proofs.order.plans_of.Goals as goal
use Rattle.trace_numbers.proofs.order.plans_of.Goals.{in-Some+in_ok-push, in_default}

pub loop-index-preserved : goal.loop-index-preserved
loop-index-preserved c =
    let before = c.loop-index.plans.items in
    let plans : Option ℕ → List Plan = λ (o : Option ℕ). before ++ plan_of c.loop-index.index o in
    elim c.match-planned_at.branch [
      | in-Some+in_ok-push w ↦
          plans_more c.args.hints.now c.loop-index.index _ c.planned_at.result before c.match-planned_at.plans.items c.loop-index-test.true c.loop-index.invariant c.planned_at.ensures (ap (λ v. v.items) w.plans-is ∙ w.in_ok-push.ensures.items ∙ ap plans (sym w.in-Some.is))
      | in_default w ↦
          plans_more c.args.hints.now c.loop-index.index _ c.planned_at.result before c.match-planned_at.plans.items c.loop-index-test.true c.loop-index.invariant c.planned_at.ensures (ap (λ v. v.items) w.plans-is ∙ sym (append-nil before) ∙ ap plans (sym w.in_default.is))
    ]

pub returns-clause-positions : goal.returns-clause-positions
returns-clause-positions c = plans_up c.sort_plans.new.plans.items c.sort_plans.ensures.sorted
