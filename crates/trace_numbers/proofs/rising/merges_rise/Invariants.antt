use Rattle.std.proofs.Common.{◌≡◌, List, length}
use Rattle.std.specs.List.{AllByRecursion}
use Rattle.script_model.specs.Commands.{Command}
use Rattle.trace_numbers.proofs.PassLemmas.{pass_from}
use Rattle.trace_numbers.proofs.rising.merges_rise.Given as goal

abbrev pub invariant-loop-hint : goal.invariant-loop-hint
invariant-loop-hint l =
    (merges : List Command) → AllByRecursion (λ (command : Command). command.lane ≡ 0) merges → length l.hints ≡ length merges → pass_from l.lows merges l.hints l.hint-index ≡ pass_from l.fn.lows merges l.hints 0
