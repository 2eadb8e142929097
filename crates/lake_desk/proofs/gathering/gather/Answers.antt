use Rattle.std.proofs.Common.{◌≡◌, ap, sym, subst, ◌∙◌, List, arith, false}
use mathlib.Core.List.{IsPrefix}
use Rattle.lake_model.specs.Journal.{Entry}
use Rattle.turn_lock.specs.History.{longer, Grows}
use Rattle.turn_lock.specs.Passes.{Known, Noted, after_seeing, callers_of}
use Rattle.lake.specs.Lawful.{caller_of}
use Rattle.lake_desk.proofs.Gathers.{gathers_all, gathers_lock, gathers_more, gathers_none}
use Rattle.lake_desk.proofs.gathering.gather.Goals as goal

pub loop-lane-init : goal.loop-lane-init
loop-lane-init g c = gathers_none c.args.desks.now c.requires.some c.requires.free

pub meet-requires : goal.meet-requires
meet-requires g c =
    let lane = c.index-desks-lane.result in
    let first = c.index-desks-0.result in
    ap (λ (note : Noted Entry). note.lock) c.note-note.ensures.note ∙ ap (λ (p : Known Entry). p.lock) (sym c.index-desks-lane.is)
    ∙ gathers_lock c.loop-lane.lane c.args.desks.now c.loop-lane.desks lane c.note-note.new.self first c.loop-lane.invariant c.requires.lock c.loop-lane.auto.lane (omega (arith, c.loop-lane-test.true, c.loop-lane.auto.desks)) c.index-desks-lane.is
    c.index-desks-0.is
    ∙ ap (λ (p : Known Entry). p.lock) c.index-desks-0.is

pub loop-lane-preserved : goal.loop-lane-preserved
loop-lane-preserved g c =
    let lane = c.index-desks-lane.result in
    let first = c.index-desks-0.result in
    let note = c.note-note.result in
    let later = c.meet.new.self in
    let meets : later ≡ after_seeing first (longer first.seen note.seen) false = c.meet.ensures.longer ∙ ap (λ (p : Known Entry). after_seeing p (longer p.seen note.seen) false) (sym c.index-desks-0.is) in
    let grows : Grows caller_of (callers_of first) first.seen later.seen = subst (λ (p : Known Entry). Grows caller_of (callers_of p) p.seen later.seen) (sym c.index-desks-0.is) c.meet.ensures.others in
    let noted : note.seen ≡ lane.seen = ap (λ (n : Noted Entry). n.seen) c.note-note.ensures.note ∙ ap (λ (p : Known Entry). p.seen) (sym c.index-desks-lane.is) in
    gathers_more c.loop-lane.lane c.args.desks.now c.loop-lane.desks lane c.note-note.new.self first later (longer first.seen note.seen) c.loop-lane.invariant c.loop-lane.auto.lane
    (omega (arith, c.loop-lane-test.true, c.loop-lane.auto.desks)) c.index-desks-lane.is (c.note-note.ensures.desk ∙ sym c.index-desks-lane.is) c.index-desks-0.is meets grows
    (subst (λ (j : List Entry). IsPrefix j later.seen) noted c.meet.ensures.begins)

pub returns : goal.returns
returns g c = gathers_all c.loop-lane.lane c.args.desks.now c.loop-lane.desks c.loop-lane.invariant (omega (arith, c.loop-lane-test.false, c.loop-lane.auto.desks))
