use Rattle.std.proofs.Common.{◌≡◌, length}
use Rattle.trace_numbers.proofs.PassLemmas.{pass_from}
use Rattle.trace_numbers.proofs.rising.given_rise.Given as goal

abbrev pub invariant-loop-command : goal.invariant-loop-command
invariant-loop-command l = pass_from l.lows l.commands l.hints (length l.yielded) ≡ pass_from l.fn.lows l.commands l.hints 0
