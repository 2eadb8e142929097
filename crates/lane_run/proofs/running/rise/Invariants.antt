use Rattle.std.proofs.Common.{◌≡◌, ◌≤◌, map, vec_capacity, vec_len}
use Rattle.lane_run.specs.Seats.{desk_in}
use Rattle.lane_run.proofs.running.rise.Given as goal

abbrev pub invariant-loop-seat : goal.invariant-loop-seat
invariant-loop-seat g l =
    (l.desks.items ≡ map desk_in l.yielded)
    × (vec_len l.fn.seats ≤ vec_capacity l.desks)
    × (goal.iterator-loop-seat g).can_next l.seat-iterator
    × (goal.iterator-loop-seat g).is_finite l.seat-iterator
