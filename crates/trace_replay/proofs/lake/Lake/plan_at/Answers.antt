use Rattle.std.proofs.Common.{sym, subst, arith}
use Rattle.trace_replay.specs.Lakes.{IsAt, IsBehindLooks}
use Rattle.trace_replay.proofs.ReplayLemmas.{held_kept, held_planned, plan_found, planned_next}
use Rattle.trace_replay.proofs.lake.Lake.plan_at.Goals as goal

pub plan_one-requires-clause-at : goal.plan_one-requires-clause-at
plan_one-requires-clause-at c =
    subst (λ n. IsAt c.args.trace.now n c.loop-plan.self) (sym (plan_found c.args.trace.now.hints c.args.plans.now c.plans_at-plan-items.result.now c.args.at c.loop-plan.plan-index _ c.requires.plans c.plans_at-plan-items.ensures c.loop-plan-test.true).1) c.loop-plan.invariant.here

pub plan_one-requires-clause-plan : goal.plan_one-requires-clause-plan
plan_one-requires-clause-plan c = (plan_found c.args.trace.now.hints c.args.plans.now c.plans_at-plan-items.result.now c.args.at c.loop-plan.plan-index _ c.requires.plans c.plans_at-plan-items.ensures c.loop-plan-test.true).0

pub loop-plan-preserved : goal.loop-plan-preserved
loop-plan-preserved c =
    let trace = c.args.trace.now in
    let found = c.plans_at-plan-items.result.now in
    let here = plan_found trace.hints c.args.plans.now found c.args.at c.loop-plan.plan-index _ c.requires.plans c.plans_at-plan-items.ensures c.loop-plan-test.true in
    record {
      here = subst (λ n. IsAt trace n c.plan_one.new.self) here.1 c.in_ok-plan_one.ensures.at;
      held = held_kept trace c.args.at (IsBehindLooks trace c.args.at) c.loop-plan.self c.plan_one.new.self c.loop-plan.invariant.held c.in_ok-plan_one.ensures.others;
      planned = planned_next trace found c.loop-plan.plan-index _ c.loop-plan.self c.plan_one.new.self c.loop-plan-test.true c.loop-plan.invariant.planned c.in_ok-plan_one.ensures.others c.in_ok-plan_one.ensures.ready;
    }

pub returns-clause-held : goal.returns-clause-held
returns-clause-held c =
    held_planned c.args.trace.now c.args.plans.now c.plans_at-plan-items.result.now c.args.at c.loop-plan.plan-index _ c.loop-plan.self c.positions.ensures.each c.positions.ensures.one_each c.requires.plans
    c.plans_at-plan-items.ensures (omega arith) c.loop-plan.invariant.held c.loop-plan.invariant.planned
