use Rattle.std.proofs.Common.{◌≡◌, map, vec_capacity}
use Rattle.batch_work.specs.Works.{works_of}
use Rattle.lane_run.specs.Seats.{desk_in, done_in}
use Rattle.lane_run.proofs.Gathering.{Gathers}
use Rattle.lane_run.proofs.running.gather.Given as goal

abbrev pub invariant-loop-work : goal.invariant-loop-work
invariant-loop-work g l =
    Gathers (works_of l.works) l.work-index (map done_in l.initial.seats) (map done_in l.seats) (vec_capacity l.answers) l.answers.items
    × (map desk_in l.seats ≡ map desk_in l.initial.seats)
