use Rattle.std.proofs.Common.{sym, ap, ◌∙◌}
use Rattle.record_model.specs.Rules.{wide_limits}
use Rattle.segment_merge.specs.Planned.{plan_at}
use Rattle.std.proofs.lemmas.Result.{IfOk-weaker}
use Rattle.command_replies.proofs.MergeLemmas.{plan_small, plans_on_ok}
use Rattle.lake_desk.proofs.merging.plan_newest.Goals as goal

pub plan_pinned-requires-clause-few : goal.plan_pinned-requires-clause-few
plan_pinned-requires-clause-few g c = λ plan is.
    (plan_small c.args.policy wide_limits g.B.Bounds.limits c.pin.new.pass.seen plan c.pin.ensures.lawful.legal c.requires.wide c.pin.ensures.lawful.within (sym (ap (plan_at c.args.policy) c.in_ok-pin.ensures.version) ∙ is)).0

pub plan_pinned-requires-clause-light : goal.plan_pinned-requires-clause-light
plan_pinned-requires-clause-light g c = λ plan is.
    (plan_small c.args.policy wide_limits g.B.Bounds.limits c.pin.new.pass.seen plan c.pin.ensures.lawful.legal c.requires.wide c.pin.ensures.lawful.within (sym (ap (plan_at c.args.policy) c.in_ok-pin.ensures.version) ∙ is)).1

pub returns-clause-planned : goal.returns-clause-planned
returns-clause-planned g c =
    IfOk-weaker c.plan_pinned.result _ _ (λ planned is. is.0)
    (plans_on_ok c.args.policy c.pin.new.pass.seen c.in_ok-pin.pin c.plan_pinned.result c.pin.ensures.lawful.legal c.in_ok-pin.ensures.version c.plan_pinned.ensures.layout c.plan_pinned.ensures.merged)
