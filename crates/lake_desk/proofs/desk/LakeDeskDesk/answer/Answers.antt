use Rattle.record_model.specs.Rules.{rules_with}
use Rattle.std.proofs.Common.{◌≡◌, ℕ, Bool, ap, sym, ◌∙◌, refl}
use Rattle.script_model.specs.Commands.{command_with}
use Rattle.turn_lock.specs.Passes.{after_seeing}
use Rattle.run_record.specs.Callers.{who_by}
use Rattle.run_record.specs.Replies.{reply_of}
use Rattle.commands.specs.Tasks.{task_of}
use Rattle.lake_desk.proofs.Answering.{answered_by}
use Rattle.lake_desk.proofs.desk.LakeDeskDesk.answer.Goals as goal

pub returns : goal.returns
returns g c =
    let before = c.args.self.now in
    let after = c.reply-reply.new.self in
    let who = who_by c.args.by in
    let task = task_of c.args.task.now in
    let number : c.number-number.result ≡ who.command = c.number-number.ensures in
    answered_by (rules_with g.B.Bounds.keys g.B.Bounds.limits) (command_with who.command who.caller task) (command_with c.number-number.result before.caller task) before (reply_of c.reply-reply.result) after
    (λ lane. ap (λ (n : ℕ). command_with n before.caller task) number ∙ ap (λ (l : ℕ). command_with who.command l task) (sym lane)) refl
    c.reply-reply.ensures.answered (c.reply-reply.ensures.pass ∙ ap (λ (b : Bool). after_seeing before after.seen b) (sym c.reply-reply.ensures.free))
