use Rattle.std.proofs.Common.{sym, ap, ◌∙◌, map, take, arith}
use Rattle.std.proofs.lemmas.List.{take-map, take_all}
use Rattle.trace_hints.specs.Told.{hint_as}
use Rattle.trace_groups.specs.declared.groups.Group.{Group}
use Rattle.trace_replay.proofs.replaying.hints_of.Goals as goal

pub returns : goal.returns
returns c =
    let hint = λ (group : Group). hint_as group.hint in
    let groups = take c.args.many c.args.groups.now in
    c.loop-group.invariant ∙ ap (map hint) (take_all c.loop-group.group-index groups (omega arith)) ∙ sym (take-map hint c.args.many c.args.groups.now)
