use Rattle.std.proofs.Common.{rules, ap, ◌∙◌, ◌∷◌, Some}
use Rattle.atomic_table.specs.Table.{rest}
use Rattle.turn_lock.proofs.Turns.{releases_held}
use Rattle.turn_lock.proofs.lock.HistoryLock.put_back.Goals as goal

pub store-requires : goal.store-requires
store-requires g c =
    let hand = ap (λ m. m.1) c.exchange.ensures.3 ∙ ap (λ l. (0, Some c.args.value) ∷ rest l) c.requires.holds.1 in
    (search rules, search rules, releases_held g.V.Kept.list g.V.Kept.caller_of _ _ c.commit.new.seat.me c.exchange.new.seat.me.0 c.args.value c.args.count (c.commit.ensures.whole c.args.value hand) c.requires.count.0)
