use Rattle.std.proofs.Common.{ap, sym, map, subst}
use Rattle.std.proofs.lemmas.Result.{IfOk-weaker}
use Rattle.trace_hints.specs.Told.{hint_as}
use Rattle.trace_ends.specs.Ends.{IsReplayed}
use Rattle.trace_replay.specs.Lakes.{TraceOf}
use Rattle.trace_replay.proofs.ReplayLemmas.{trace_is}
use Rattle.trace_replay.proofs.replaying.replay.Goals as goal

pub returns-clause-sound : goal.returns-clause-sound
returns-clause-sound c =
    let whole = trace_is c.new-trace.result _ _ _ _ _ _ c.new-trace.ensures (ap (map hint_as) c.deref-3.ensures.value) c.in_ok-hints.ensures in
    IfOk-weaker c.replay_in.result _ _ (λ value sound fine. subst (λ (t : TraceOf). IsReplayed t.rules t.commands t.hints t.texts) whole (sound fine)) c.replay_in.ensures.sound

pub returns-clause-complete : goal.returns-clause-complete
returns-clause-complete c =
    let whole = trace_is c.new-trace.result _ _ _ _ _ _ c.new-trace.ensures (ap (map hint_as) c.deref-3.ensures.value) c.in_ok-hints.ensures in
    IfOk-weaker c.replay_in.result _ _ (λ value complete is. complete (subst (λ (t : TraceOf). IsReplayed t.rules t.commands t.hints t.texts) (sym whole) is)) c.replay_in.ensures.complete
