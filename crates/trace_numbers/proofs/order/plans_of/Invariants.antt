use Rattle.std.proofs.Common.{◌≡◌, map, take}
use Rattle.trace_hints.specs.Told.{hint_as}
use Rattle.trace_numbers.specs.Turns.{plans_from}
use Rattle.trace_numbers.proofs.order.plans_of.Given as goal

abbrev pub invariant-loop-index : goal.invariant-loop-index
invariant-loop-index l = l.plans.items ≡ plans_from 0 (map hint_as (take l.index l.hints))
