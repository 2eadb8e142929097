use Rattle.std.proofs.Common.{ap, List, ℕ, length, arith}
use Rattle.josie_search.proofs.RoomLemmas.{room_for_greatest}
use Rattle.josie_search.proofs.asked.set_for.Goals as goal

pub returns-then-greatest-kept-clause-room : goal.returns-then-greatest-kept-clause-room
returns-then-greatest-kept-clause-room c =
    room_for_greatest c.args.tokens.now c.greatest-greatest.result (length c.in-Some.kept) c.greatest-greatest.ensures (omega (arith, c.if-greatest-kept.true, c.kept.invariant, ap (λ (ws : List ℕ). length ws) c.kept.view_is))

pub returns-clause-room : goal.returns-clause-room
returns-clause-room c = room_for_greatest c.args.tokens.now c.greatest-greatest.result _ c.greatest-greatest.ensures c.in_ok-new.ensures.room
