use Rattle.std.proofs.Common.{sym, subst}
use Rattle.turn_lock.specs.Passes.{Known}
use Rattle.turn_lock.specs.History.{Follows}
use Rattle.turn_lock.proofs.Passes.{pass_after_give}
use Rattle.turn_lock.proofs.lock.HistoryLock.give.Goals as goal

pub invariant_of-pass : goal.invariant_of-pass
invariant_of-pass g c = pass_after_give g.V.Kept.list g.V.Kept.caller_of c.pass.inside.seat c.put_back.new.seat c.pass.inside.caller c.pass.inside.given c.pass.inside.left (g.V.Kept.list c.args.turn.value) c.pass.invariant
    (subst (λ (p : Known g.row.V-Entry.Denot). Follows g.V.Kept.caller_of p.caller p.seen (g.V.Kept.list c.args.turn.value)) (sym c.pass.view_is) c.requires.list) c.put_back.ensures.free
