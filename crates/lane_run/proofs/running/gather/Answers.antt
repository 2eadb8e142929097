use Rattle.std.proofs.Common.{ap, sym, ◌∙◌, arith, map, vec_capacity, length, length-append, append-nil, List, [], ◌∷◌, ◌++◌, Option}
use Rattle.std.specs.Prelude.{option_to_list}
use Rattle.std.specs.declared.alloc.Global.{Global}
use Rattle.std.specs.declared.vec.Vec.{Vec}
use Rattle.record_model.specs.Record.{Answered}
use Rattle.lane_run.specs.Seats.{done_in}
use Rattle.lane_run.proofs.Gathering.{gathers_more}
use Rattle.lane_run.proofs.running.gather.Goals as goal
use Rattle.lane_run.proofs.running.gather.Goals.{in-Some, in_default}

pub loop-work-preserved : goal.loop-work-preserved
loop-work-preserved g c =
    let i = c.loop-work.invariant in
    elim c.match-next_done.branch [
      | in-Some w ↦ (
        gathers_more c.args.works.now c.loop-work.work-index c.work-item.result c.lane.result (map done_in c.args.seats.now) (map done_in c.loop-work.seats) (map done_in c.next_done.new.seats) (vec_capacity c.loop-work.answers) (vec_capacity c.match-next_done.answers)
            c.loop-work.answers.items c.match-next_done.answers.items c.next_done.result i.0 c.loop-work-test.true c.work-item.is c.lane.ensures c.next_done.ensures.answer c.next_done.ensures.rest
            (ap (λ (v : Vec Answered Global). v.items) w.answers-is ∙ w.push_reserved.ensures.items ∙ ap (λ (o : Option Answered). c.loop-work.answers.items ++ option_to_list o) (sym w.in-Some.is))
            (let n = ap (λ (v : Vec Answered Global). length v.items) w.answers-is in let m = ap (λ (xs : List Answered). length xs) w.push_reserved.ensures.items in omega (arith, n, m, length-append c.loop-work.answers.items (w.in-Some.answered ∷ [])))
            (sym (ap (λ (v : Vec Answered Global). vec_capacity v) w.answers-is ∙ w.push_reserved.ensures.capacity)),
        c.next_done.ensures.desks ∙ i.1,
      )
      | in_default w ↦ (
        gathers_more c.args.works.now c.loop-work.work-index c.work-item.result c.lane.result (map done_in c.args.seats.now) (map done_in c.loop-work.seats) (map done_in c.next_done.new.seats) (vec_capacity c.loop-work.answers) (vec_capacity c.match-next_done.answers)
            c.loop-work.answers.items c.match-next_done.answers.items c.next_done.result i.0 c.loop-work-test.true c.work-item.is c.lane.ensures c.next_done.ensures.answer c.next_done.ensures.rest
            (ap (λ (v : Vec Answered Global). v.items) w.answers-is ∙ sym (append-nil c.loop-work.answers.items) ∙ ap (λ (o : Option Answered). c.loop-work.answers.items ++ option_to_list o) (sym w.in_default.is))
            (let n = ap (λ (v : Vec Answered Global). length v.items) w.answers-is in omega (arith, n))
            (sym (ap (λ (v : Vec Answered Global). vec_capacity v) w.answers-is)),
        c.next_done.ensures.desks ∙ i.1,
      )
    ]
