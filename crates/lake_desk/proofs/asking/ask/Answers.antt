use Rattle.record_model.specs.Rules.{rules_with}
use Rattle.command_replies.specs.Searches.{IsPinOf}
use Rattle.commands.specs.Tasks.{task_of}
use Rattle.run_record.specs.Replies.{reply_of}
use Rattle.lake_desk.proofs.Answering.{asked}
use Rattle.lake_desk.proofs.asking.ask.Goals as goal

pub returns-clause-answered : goal.returns-clause-answered
returns-clause-answered g c =
    let seen = c.pin-pinned.new.pass.seen in
    let is : IsPinOf seen c.in-Ok.pin = record { current = c.in-Ok.ensures.version; searched = c.in-Ok.ensures.live } in
    asked (rules_with c.args.keys g.B.Bounds.limits) c.args.number (task_of c.args.task.now) c.args.pass.now (reply_of c.finish.result) seen c.requires.asks c.requires.merges c.pin-pinned.ensures.grows (c.finish.ensures g.B.Bounds.limits seen is)
