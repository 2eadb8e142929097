use Rattle.std.proofs.Common.{◌≡◌, ap, sym, subst, ◌∙◌, List, arith, false}
use Rattle.lake_model.specs.Journal.{Entry}
use Rattle.turn_lock.specs.History.{longer, Grows}
use Rattle.turn_lock.specs.Passes.{Known, Noted, after_seeing, callers_of}
use Rattle.lake.specs.Lawful.{caller_of}
use Rattle.lake_desk.proofs.Hands.{hands_all, hands_lock, hands_more, hands_none}
use Rattle.lake_desk.proofs.gathering.hand_out.Goals as goal

pub loop-lane-init : goal.loop-lane-init
loop-lane-init g c = hands_none c.args.desks.now c.requires.behind

pub meet-requires : goal.meet-requires
meet-requires g c =
    let first = c.index-desks-0.result in
    let lane = c.index-desks-lane.result in
    ap (λ (note : Noted Entry). note.lock) c.note-note.ensures.note ∙ ap (λ (p : Known Entry). p.lock) (sym c.index-desks-0.is)
    ∙ hands_lock c.loop-lane.lane c.args.desks.now c.loop-lane.desks first c.note-note.new.self lane c.loop-lane.invariant c.requires.lock c.loop-lane.auto.lane (omega (arith, c.loop-lane-test.true, c.loop-lane.auto.desks)) c.index-desks-0.is
    c.index-desks-lane.is
    ∙ ap (λ (p : Known Entry). p.lock) c.index-desks-lane.is

pub loop-lane-preserved : goal.loop-lane-preserved
loop-lane-preserved g c =
    let first = c.index-desks-0.result in
    let lane = c.index-desks-lane.result in
    let note = c.note-note.result in
    let new = c.meet.new.self in
    let noted : note.seen ≡ first.seen = ap (λ (n : Noted Entry). n.seen) c.note-note.ensures.note ∙ ap (λ (p : Known Entry). p.seen) (sym c.index-desks-0.is) in
    let meets : new ≡ after_seeing lane (longer lane.seen first.seen) false =
    c.meet.ensures.longer ∙ ap (λ (p : Known Entry). after_seeing p (longer p.seen note.seen) false) (sym c.index-desks-lane.is) ∙ ap (λ (j : List Entry). after_seeing lane (longer lane.seen j) false) noted in
    let grows : Grows caller_of (callers_of lane) lane.seen new.seen = subst (λ (p : Known Entry). Grows caller_of (callers_of p) p.seen new.seen) (sym c.index-desks-lane.is) c.meet.ensures.others in
    hands_more c.loop-lane.lane c.args.desks.now c.loop-lane.desks first c.note-note.new.self lane new c.loop-lane.invariant c.loop-lane.auto.lane (omega (arith, c.loop-lane-test.true, c.loop-lane.auto.desks)) c.index-desks-0.is
    (c.note-note.ensures.desk ∙ sym c.index-desks-0.is) c.index-desks-lane.is meets grows

pub returns : goal.returns
returns g c = hands_all c.loop-lane.lane c.args.desks.now c.loop-lane.desks c.loop-lane.invariant (omega (arith, c.loop-lane-test.false, c.loop-lane.auto.desks))
