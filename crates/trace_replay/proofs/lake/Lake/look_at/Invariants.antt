use Rattle.std.proofs.Common.{ℕ, ◌<◌}
use Rattle.trace_replay.specs.Lakes.{AreHeld, IsAt}
use Rattle.trace_replay.proofs.ReplayLemmas.{IsLeftOf, LookIsTold}
use Rattle.trace_replay.proofs.lake.Lake.look_at.Given as goal

abbrev pub invariant-loop-turn : goal.invariant-loop-turn
invariant-loop-turn l = record {
  here : IsAt l.trace l.at l.self;
  told : (k : ℕ) → k < l.turn-index → LookIsTold l.trace l.turn-items k;
  held : AreHeld l.trace l.at (IsLeftOf l.trace l.turn-items l.at l.turn-index) l.self;
}
