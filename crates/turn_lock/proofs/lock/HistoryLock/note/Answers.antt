use Rattle.std.proofs.Common.{rules}
use Rattle.turn_lock.proofs.Splits.{notes}
use Rattle.turn_lock.proofs.lock.HistoryLock.note.Goals as goal

pub split_seat-requires : goal.split_seat-requires
split_seat-requires g c = (search rules, search rules, notes _ _ _ _)
