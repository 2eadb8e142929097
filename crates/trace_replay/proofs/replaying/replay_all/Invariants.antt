use Rattle.trace_replay.specs.Lakes.{AreHeld, AreToldBefore, IsAt, IsFrom}
use Rattle.trace_replay.proofs.replaying.replay_all.Given as goal

abbrev pub invariant-loop-at : goal.invariant-loop-at
invariant-loop-at l = record { here : IsAt l.trace l.at l.lake; told : AreToldBefore l.trace l.at; held : AreHeld l.trace l.at (IsFrom l.trace l.at) l.lake }
