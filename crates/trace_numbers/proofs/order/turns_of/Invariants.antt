use Rattle.std.proofs.Common.{◌≡◌, map, take}
use Rattle.trace_hints.specs.Told.{hint_as}
use Rattle.trace_numbers.specs.Turns.{turns_from}
use Rattle.trace_numbers.proofs.order.turns_of.Given as goal

abbrev pub invariant-loop-index : goal.invariant-loop-index
invariant-loop-index l = l.turns.items ≡ turns_from 0 (map hint_as (take l.index l.hints))
