use Rattle.std.proofs.Common.{◌≡◌}
use Rattle.answer_tests.proofs.lake_desk_meter_tests.metered.Given as goal

-- a desk stays at its lake
abbrev pub invariant-loop-command : goal.invariant-loop-command
invariant-loop-command g l = l.desk.lock ≡ l.initial.desk.lock
