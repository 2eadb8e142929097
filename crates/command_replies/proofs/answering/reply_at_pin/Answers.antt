use Rattle.std.proofs.Common.{ap, sym, ◌∙◌}
use Rattle.record_model.specs.Rules.{rules_with}
use Rattle.record_model.specs.Answered.{answer_to}
use Rattle.record_model.specs.Play.{reply_or_denied}
use Rattle.batch_work.specs.Works.{work_of}
use Rattle.command_replies.proofs.answering.reply_at_pin.Goals as goal

pub returns : goal.returns
returns c limits journal is =
    let (denied, said) = c.finish.ensures limits journal is in
    (denied, said ∙ ap (λ task. reply_or_denied denied (answer_to (rules_with c.args.keys limits) task journal journal)) (c.task.ensures.value ∙ ap (λ work. (work_of work).task) (sym c.in-Given.is)))
