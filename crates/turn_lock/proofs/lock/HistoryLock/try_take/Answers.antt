use Rattle.std.proofs.Common.{rules, refl, ◌+◌, ◌/◌}
use mathlib.Core.Option.{none}
use Rattle.atomic_table.specs.Table.{step}
use Rattle.turn_lock.proofs.Turns.{wins}
use Rattle.turn_lock.proofs.Passes.{even_half, hand_of}
use Rattle.turn_lock.proofs.lock.HistoryLock.try_take.Goals as goal

pub compare_exchange-now-requires : goal.compare_exchange-now-requires
compare_exchange-now-requires g c = (search rules, search rules, wins _ _ _ _ _ _ _ (c.args.found / 2) (even_half c.args.found c.requires.even) refl)

pub exchange-requires : goal.exchange-requires
exchange-requires g c = (search rules, hand_of g.V.Kept.list g.V.Kept.caller_of (step c.self.inside.table.shared.table_id.slots 0 c.args.found (c.args.found + 1) none) c.args.seat.now.me c.compare_exchange-now.new.seat.me c.compare_exchange-now.result c.compare_exchange-now.ensures.2 c.if-now-found.false)
