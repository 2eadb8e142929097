use Rattle.std.proofs.Common.{ap, sym, ◌∙◌}
use Rattle.record_model.specs.Rules.{wide_limits}
use Rattle.segment_merge.specs.Planned.{plan_at}
use Rattle.command_replies.proofs.MergeLemmas.{plan_small, plans_on_ok}
use Rattle.command_replies.proofs.merging.plan_now.Goals as goal

pub plan_pinned-requires-clause-few : goal.plan_pinned-requires-clause-few
plan_pinned-requires-clause-few c = λ plan is.
    (plan_small c.args.policy wide_limits c.args.catalogue.now.limits c.args.catalogue.now.journal plan c.is_legal.ensures c.requires c.is_within_limits.ensures
    (sym (ap (plan_at c.args.policy) c.in_ok-pin.ensures.version) ∙ is)).0

pub plan_pinned-requires-clause-light : goal.plan_pinned-requires-clause-light
plan_pinned-requires-clause-light c = λ plan is.
    (plan_small c.args.policy wide_limits c.args.catalogue.now.limits c.args.catalogue.now.journal plan c.is_legal.ensures c.requires c.is_within_limits.ensures
    (sym (ap (plan_at c.args.policy) c.in_ok-pin.ensures.version) ∙ is)).1

pub returns : goal.returns
returns c = plans_on_ok c.args.policy c.args.catalogue.now.journal c.in_ok-pin.pin c.plan_pinned.result c.is_legal.ensures c.in_ok-pin.ensures.version c.plan_pinned.ensures.layout c.plan_pinned.ensures.merged
