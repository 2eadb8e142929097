use Rattle.command_replies.specs.Searches.{IsPinOf}
use Rattle.command_replies.proofs.answering.list_now.Goals as goal

pub returns-in-Ok : goal.returns-in-Ok
returns-in-Ok c =
    let is : IsPinOf c.args.catalogue.now.journal c.in-Ok.pin = record { current = c.in-Ok.ensures.version; searched = c.in-Ok.ensures.live } in
    c.finish.ensures c.args.catalogue.now.limits c.args.catalogue.now.journal is
