use Rattle.std.proofs.Common.{◌≡◌, ◌-◌}
use Rattle.lake_desk.specs.Opened.{opened, opened_desks}
use Rattle.lake_desk.proofs.opening.lane_desks.Given as goal

abbrev pub invariant-loop-lane : goal.invariant-loop-lane
invariant-loop-lane g l = (l.desks.items ≡ opened_desks l.lake l._lane) × (l.opening ≡ opened l.lake l._lane (l.lanes - l._lane))
