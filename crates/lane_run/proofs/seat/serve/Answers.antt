use Rattle.std.proofs.Common.{ap, sym, ◌∙◌, [], ◌∷◌, ◌++◌}
use Rattle.record_model.specs.Play.{Done}
use Rattle.lane_run.specs.declared.seat.Seat.{Seat}
use Rattle.run_record.specs.Replies.{reply_of}
use Rattle.lane_run.proofs.Serving.{serving_own, serving_other}
use Rattle.lane_run.proofs.seat.serve.Goals as goal
use Rattle.lane_run.proofs.seat.serve.Goals.{then-lane, else-lane}

pub loop-work-preserved : goal.loop-work-preserved
loop-work-preserved g c =
    let works = c.args.works.now in
    let n = c.loop-work.work-index in
    elim c.if-lane.branch [
      | then-lane w ↦
          let given : Seat g.row.D.Denot = record { desk = w.answer-reply.new.desk; done = w.push_back_reserved.new.self } in
          serving_own g.D.Desk.step c.args.lane works n c.work-item.result (reply_of w.answer-reply.result) c.args.seat.now.desk c.loop-work.seat given c.if-lane.seat
          c.loop-work-test.true c.work-item.is (sym c.lane.ensures ∙ w.if-lane.true) w.seat-is c.loop-work.invariant w.answer-reply.ensures (w.push_back_reserved.ensures.items ∙ ap (λ (d : Done). c.loop-work.seat.done.items ++ d ∷ []) w.new.ensures) w.push_back_reserved.ensures.capacity
      | else-lane w ↦ serving_other g.D.Desk.step c.args.lane works n c.work-item.result c.args.seat.now.desk c.loop-work.seat c.if-lane.seat
          c.loop-work-test.true c.work-item.is (λ same. w.if-lane.false (c.lane.ensures ∙ same)) w.seat-is c.loop-work.invariant
    ]
