use Rattle.std.proofs.Common.{ap, sym, ◌∙◌, arith}
use Rattle.std.specs.Prelude.{option_to_list}
use Rattle.run_record.specs.Rooms.{RecordOf}
use Rattle.lake_core.proofs.GatherLemmas.{gathers_work, with_none}
use Rattle.lake_core.proofs.driving.gather.Goals as goal
use Rattle.lake_core.proofs.driving.gather.Goals.{in-Some, in_default}
use Rattle.record_model.specs.InTurn.{with_answers}

pub loop-work-preserved : goal.loop-work-preserved
loop-work-preserved c =
    elim c.match-next_done.branch [
      | in-Some w ↦ gathers_work c.args.works.now c.loop-work.work-index c.lane.result c.args.lanes.now c.loop-work.lanes c.next_done.new.lanes c.args.out.now c.loop-work.out c.match-next_done.out c.work-item.result c.next_done.result
          c.loop-work.invariant c.loop-work-test.true c.work-item.is c.lane.ensures c.next_done.ensures.answer c.next_done.ensures.rest
          (ap (λ (o : RecordOf). o.made) w.out-is ∙ w.add_answer.ensures.made ∙ ap (λ answer. with_answers (option_to_list answer) c.loop-work.out.made) (sym w.in-Some.is))
          (omega (arith, ap (λ (o : RecordOf). o.answers_room) w.out-is, w.add_answer.ensures.answers_room))
          (ap (λ (o : RecordOf). o.syncs_room) w.out-is ∙ w.add_answer.ensures.syncs_room)
      | in_default w ↦ gathers_work c.args.works.now c.loop-work.work-index c.lane.result c.args.lanes.now c.loop-work.lanes c.next_done.new.lanes c.args.out.now c.loop-work.out c.match-next_done.out c.work-item.result c.next_done.result
          c.loop-work.invariant c.loop-work-test.true c.work-item.is c.lane.ensures c.next_done.ensures.answer c.next_done.ensures.rest
          (ap (λ (o : RecordOf). o.made) w.out-is ∙ with_none c.loop-work.out.made ∙ ap (λ answer. with_answers (option_to_list answer) c.loop-work.out.made) (sym w.in_default.is))
          (omega (arith, ap (λ (o : RecordOf). o.answers_room) w.out-is))
          (ap (λ (o : RecordOf). o.syncs_room) w.out-is)
    ]
