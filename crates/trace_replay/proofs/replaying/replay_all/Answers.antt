use Rattle.std.proofs.Common.{arith}
use Rattle.std.proofs.lemmas.Result.{IfOk-weaker}
use Rattle.trace_replay.proofs.ReplayLemmas.{told_all, told_more}
use Rattle.trace_replay.proofs.replaying.replay_all.Goals as goal

pub loop-at-preserved : goal.loop-at-preserved
loop-at-preserved c =
    let here = c.in_ok-replay_at.ensures.sound c.if-not-branch.false in
    record {
      here = c.in_ok-replay_at.ensures.at c.if-not-branch.false;
      told = told_more c.within_law.ensures.owns c.args.trace.now c.args.owners.now c.loop-at.at c.positions.ensures c.requires.owners c.loop-at.invariant.told here.0 here.1;
      held = c.in_ok-replay_at.ensures.held c.if-not-branch.false;
    }

pub returns-clause-sound : goal.returns-clause-sound
returns-clause-sound c =
    IfOk-weaker c.look_at.result _ _
    (λ value sound fine. told_all c.within_law.ensures.owns c.args.trace.now c.args.owners.now c.positions.ensures c.requires.owners
    (λ i low before. c.loop-at.invariant.told i low (omega (arith, before, c.loop-at-test.false))) (sound fine))
    c.look_at.ensures.sound
