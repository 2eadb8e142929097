use Rattle.std.proofs.Common.{ap, sym, ◌∙◌, Some, option_map}
use Rattle.segment_core.specs.Plans.{MergedOf}
use Rattle.command_replies.specs.Merging.{merge_of}
use Rattle.command_replies.proofs.merging.plan_pinned.Goals as goal

pub merge_few-requires-clause-few : goal.merge_few-requires-clause-few
merge_few-requires-clause-few c = c.requires.few c.in-Some.plan (sym c.in_ok-plan.ensures ∙ c.in-Some.is)

pub merge_few-requires-clause-light : goal.merge_few-requires-clause-light
merge_few-requires-clause-light c = c.requires.light c.in-Some.plan (sym c.in_ok-plan.ensures ∙ c.in-Some.is)

pub returns-clause-merged : goal.returns-clause-merged
returns-clause-merged c =
    ap (λ (m : MergedOf). Some m) c.in_ok-merge_few.ensures ∙ ap (option_map merge_of) (sym c.in-Some.is ∙ c.in_ok-plan.ensures)
