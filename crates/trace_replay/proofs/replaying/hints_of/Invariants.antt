use Rattle.std.proofs.Common.{◌≡◌, map, take}
use Rattle.trace_hints.specs.Told.{hint_as}
use Rattle.trace_groups.specs.declared.groups.Group.{Group}
use Rattle.trace_replay.proofs.replaying.hints_of.Given as goal

abbrev pub invariant-loop-group : goal.invariant-loop-group
invariant-loop-group l = map hint_as l.hints.items ≡ map (λ (group : Group). hint_as group.hint) (take l.group-index l.group-items)
