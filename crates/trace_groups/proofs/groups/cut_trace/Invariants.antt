use Rattle.std.proofs.Common.{flat_map, length, map}
use Rattle.trace_hints.specs.Told.{hint_as}
use Rattle.trace_groups.proofs.TraceLemmas.{IsCutTo}
use Rattle.trace_groups.proofs.groups.cut_trace.Given as goal

abbrev pub invariant-loop-rest : goal.invariant-loop-rest
invariant-loop-rest l =
    IsCutTo l.fn.trace (map (λ group. hint_as group.hint) l.groups.items) (map (λ group. group.text.now) l.groups.items) (flat_map (λ group. group.text.now) l.groups.items) l.rest

abbrev pub decreases-loop-rest : goal.decreases-loop-rest
decreases-loop-rest l = length l.rest
