use Rattle.std.proofs.Common.{◌≡◌}
use Rattle.turn_lock.proofs.lock.HistoryLock.wait.Given as goal

abbrev pub invariant-loop : goal.invariant-loop
invariant-loop g l = record {
  goes_on : (goal.iterator-loop g).can_next l.iterator' × (goal.iterator-loop g).is_finite l.iterator';
  same_lock : l.seat.table_id ≡ l.initial.seat.table_id;
  same_seat : l.seat.me ≡ l.initial.seat.me;
}
