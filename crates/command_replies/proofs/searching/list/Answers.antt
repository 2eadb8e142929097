use Rattle.std.proofs.Common.{false}
use Rattle.command_replies.proofs.SearchLemmas.{listed_now}
use Rattle.command_replies.proofs.searching.list.Goals as goal

pub returns-in-Ok : goal.returns-in-Ok
returns-in-Ok c journal is = (false, listed_now c.args.pin.now journal c.in-Ok.tables c.at.result is c.in-Ok.ensures c.at.ensures)
