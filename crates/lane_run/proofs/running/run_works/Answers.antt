use Rattle.std.proofs.Common.{◌≡◌, ap, ◌∙◌, map, arith, length, take, drop, ◌++◌, ℕ}
use Rattle.std.proofs.Math.Seq.{take-append_seam}
use Rattle.batch_work.specs.Works.{works_of}
use Rattle.lane_run.specs.Seats.{desk_in}
use Rattle.lane_run.proofs.Served.{are_served}
use Rattle.lane_run.proofs.running.run_works.Goals as goal

pub returns-clause-ok : goal.returns-clause-ok
returns-clause-ok g c =
    let after = c.answer_all.new.seats in
    let size : c.sit.new.seats.len ≡ length after = omega (arith, c.deref_mut.ensures.len, c.answer_all.auto.seats) in
    are_served g.D.Desk.step c.args.desks.now.items c.rise.new.desks.items (works_of c.args.works.now) c.answer_all.new.answers.items c.deref_mut.result.now after
    (ap (map desk_in) c.deref_mut.ensures.value ∙ c.sit.ensures.desks ∙ ap (λ v. v.items) c.replace.ensures.value)
    c.answer_all.ensures
    (c.rise.ensures ∙ ap (map desk_in) (ap (λ (n : ℕ). take n (after ++ drop (length after) c.sit.new.seats.items)) size ∙ take-append_seam after (drop (length after) c.sit.new.seats.items)))
    c.requires
