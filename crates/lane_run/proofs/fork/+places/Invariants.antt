use Rattle.std.proofs.Common.{◌+◌, ◌*◌, length}
use Rattle.lane_run.proofs.fork.+places.Given as goal

abbrev pub decreases-call_each : goal.decreases-call_each
decreases-call_each g l = 3 * length l.items.now

abbrev pub decreases-call_apart : goal.decreases-call_apart
decreases-call_apart g l = 3 * length l.rest.now + 2

abbrev pub decreases-call_apart-call_rest : goal.decreases-call_apart-call_rest
decreases-call_apart-call_rest g l = 3 * length l.rest.now + 1
