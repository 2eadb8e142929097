use Rattle.std.proofs.Common.{rules}
use Rattle.turn_lock.proofs.Looks.{peeks}
use Rattle.turn_lock.proofs.Turns.{may_commit}
use Rattle.turn_lock.proofs.lock.HistoryLock.commit.Goals as goal

pub load-found-requires : goal.load-found-requires
load-found-requires g c = (search rules, search rules, peeks _ _ _ _ _)

pub store-requires : goal.store-requires
store-requires g c = (search rules, search rules, may_commit g.V.Kept.list g.V.Kept.caller_of _ _ c.args.seat.now.me c.load-found.new.seat.me c.args.count c.load-found.result c.requires.hand c.load-found.ensures.2 (search rules))
