use Rattle.turn_lock.proofs.Looks.{opens}
use Rattle.turn_lock.proofs.lock.HistoryLock.new.Goals as goal

pub new-requires : goal.new-requires
new-requires g c = rw (c.in_ok-slots.ensures) (opens g.V.Kept.list g.V.Kept.caller_of c.args.value c.requires.empty)
