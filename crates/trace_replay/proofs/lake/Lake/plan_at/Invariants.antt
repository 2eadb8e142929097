use Rattle.trace_replay.specs.Lakes.{AreHeld, IsAt, IsBehindLooks}
use Rattle.trace_replay.proofs.ReplayLemmas.{IsPlannedTo}
use Rattle.trace_replay.proofs.lake.Lake.plan_at.Given as goal

abbrev pub invariant-loop-plan : goal.invariant-loop-plan
invariant-loop-plan l = record {
  here : IsAt l.trace l.at l.self;
  held : AreHeld l.trace l.at (IsBehindLooks l.trace l.at) l.self;
  planned : IsPlannedTo l.trace l.plan-items l.plan-index l.self;
}
