use Rattle.std.proofs.Common.{rules, ◌∙◌, ◌<◌, sym, subst}
use Rattle.turn_lock.specs.Passes.{Known}
use Rattle.turn_lock.proofs.Splits.{gives_number}
use Rattle.turn_lock.proofs.Passes.{pass_after_number}
use Rattle.turn_lock.proofs.lock.HistoryLock.new_pass.Goals as goal

pub split_seat-seat-requires : goal.split_seat-seat-requires
split_seat-seat-requires g c = (search rules, search rules, gives_number _ _ _ _ c.in-Some.number (c.pass.invariant.given_is ∙ c.in-Some.is))

pub invariant_of-pass : goal.invariant_of-pass
invariant_of-pass g c = pass_after_number g.V.Kept.list g.V.Kept.caller_of c.pass.inside.seat c.split_seat-seat.new.seat c.pass.inside.caller c.pass.inside.given c.pass.inside.left c.in-Some.number c.pass.invariant c.in-Some.is
    (subst (λ (p : Known g.row.V-Entry.Denot). 0 < p.left) (sym c.pass.view_is) c.requires.left.1) c.split_seat-seat.ensures.2
