use Rattle.std.proofs.Common.{rules}
use Rattle.turn_lock.proofs.Looks.{peeks}
use Rattle.turn_lock.proofs.Joins.{joins}
use Rattle.turn_lock.proofs.lock.HistoryLock.join.Goals as goal

pub join_seat-requires : goal.join_seat-requires
join_seat-requires g c = (search rules, search rules, search rules, search rules, joins _ _ _ _ _ _ c.requires.free.1 c.requires.free.2)

pub load-requires : goal.load-requires
load-requires g c = (search rules, search rules, peeks _ _ _ _ _)
