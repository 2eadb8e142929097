use Rattle.std.proofs.Common.{map}
use Rattle.trace_hints.specs.Told.{hint_as}
use Rattle.trace_replay.proofs.TurnLemmas.{ok_both, turns_are}
use Rattle.trace_replay.proofs.replaying.all_turns.Goals as goal

pub returns : goal.returns
returns c = ok_both c.turns_of.result _ _ _ c.turns_of.ensures.all c.turns_of.ensures.positions (λ turns same sorted. turns_are (map hint_as c.args.hints.now) turns.items same sorted)
