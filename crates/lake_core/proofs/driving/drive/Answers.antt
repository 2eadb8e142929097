use Rattle.std.proofs.Common.{◌≡◌, ◌++◌, ap, sym, subst, ◌∙◌, length, arith}
use Rattle.script_model.specs.Commands.{Batch}
use Rattle.record_model.specs.Rules.{rules_with}
use Rattle.record_model.specs.Play.{merges_of}
use Rattle.lake_core.specs.Lanes.{AreShared}
use Rattle.batch_work.specs.Works.{works_of}
use Rattle.lake_core.proofs.BatchLemmas.{batch_played, ready_shared}
use Rattle.batch_work.proofs.WorkLemmas.{works_long}
use Rattle.lake_core.proofs.WorkLemmas.{within_lanes}
use Rattle.lake_core.proofs.driving.drive.Goals as goal

pub share_out-requires : goal.share_out-requires
share_out-requires c = within_lanes c.args.lanes c.args.merger c.args.batch.now (works_of c.deref.result.now) c.requires.lanes (ap works_of c.deref.ensures.value ∙ c.in_ok-works.ensures.works)

pub play-requires-clause-ready : goal.play-requires-clause-ready
play-requires-clause-ready c =
    ready_shared c.args.catalogue.now c.args.past.now c.deref_mut.result.now c.in_ok-all.all.items c.room.new.self c.args.out.now.made c.args.lanes (length c.deref.result.now) (works_of c.deref.result.now) c.requires.journal c.in_ok-room.ensures.made c.deref_mut.ensures.value
    c.in_ok-all.ensures (sym (works_long c.deref.result.now)) (omega (arith, c.in_ok-room.ensures.room.1, c.len-2.ensures, ap (λ works. length works) c.deref.ensures.value)) c.requires.limits c.requires.past

pub returns-clause-played : goal.returns-clause-played
returns-clause-played c =
    let (denials, is) = c.play.ensures.played in
    let works = c.deref-2.result.now in
    let all : works_of works ≡ c.args.batch.now ++ merges_of c.args.merger c.args.batch.now = ap works_of c.deref-2.ensures.value ∙ c.in_ok-works.ensures.works in
    let shared = subst (λ (commands : Batch). AreShared c.args.lanes commands c.in_ok-all.all.items) (ap works_of (c.deref.ensures.value ∙ sym c.deref-2.ensures.value)) c.in_ok-all.ensures in (
      denials,
      batch_played (rules_with c.args.keys c.args.catalogue.now.limits) c.args.lanes (length works) c.args.batch.now (works_of works) c.args.piece.now c.args.merger denials c.args.out.now.made c.room.new.self.made c.play.new.out.made
          c.args.catalogue.now.journal c.deref_mut.result.now c.in_ok-all.all.items
          c.requires.lanes (sym (works_long works)) c.requires.journal c.in_ok-room.ensures.made all c.deref_mut.ensures.value shared.lanes_are is,
    )
