use Rattle.std.proofs.Common.{map}
use Rattle.trace_hints.specs.Told.{hint_as}
use Rattle.trace_replay.proofs.TurnLemmas.{ok_both, plans_are}
use Rattle.trace_replay.proofs.replaying.all_plans.Goals as goal

pub returns : goal.returns
returns c = ok_both c.plans_of.result _ _ _ c.plans_of.ensures.all c.plans_of.ensures.positions (λ plans same sorted. plans_are (map hint_as c.args.hints.now) plans.items same sorted)
