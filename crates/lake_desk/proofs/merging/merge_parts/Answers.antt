use Rattle.record_model.specs.Rules.{rules_with}
use Rattle.std.proofs.Common.{subst}
use Rattle.lake_model.specs.declared.Policy.{Policy}
use Rattle.run_record.specs.Replies.{reply_of}
use Rattle.command_replies.specs.Merging.{IsPlanned}
use Rattle.lake_desk.proofs.Answering.{merged_answered, merge_denied}
use Rattle.lake_desk.proofs.merging.merge_parts.Goals as goal

pub returns-clause-answered : goal.returns-clause-answered
returns-clause-answered g c keys =
    let between = c.plan_newest-planned.new.pass in
    merged_answered (rules_with keys g.B.Bounds.limits) c.args.number c.args.all c.args.pass.now between c.in-Ok.planned (reply_of c.swap.result) c.swap.new.pass.seen c.plan_newest-planned.ensures.grows c.plan_newest-planned.ensures.pass
    (subst (λ (p : Policy). IsPlanned p between.seen c.in-Ok.planned) c.policy_of.ensures c.in-Ok.ensures.planned) c.in-Ok.ensures.newest c.swap.ensures.made

pub returns-in_default-clause-answered : goal.returns-in_default-clause-answered
returns-in_default-clause-answered g c keys = merge_denied (rules_with keys g.B.Bounds.limits) c.args.number c.args.all c.args.pass.now c.plan_newest-planned.new.pass.seen c.plan_newest-planned.ensures.grows
