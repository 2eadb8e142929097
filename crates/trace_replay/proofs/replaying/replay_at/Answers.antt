use Rattle.std.proofs.Common.{sym, ◌+◌, subst, arith}
use Rattle.std.proofs.lemmas.Result.{IfOk-weaker}
use Rattle.trace_numbers.specs.Positions.{IsOwner}
use Rattle.trace_replay.specs.Lakes.{IsAt}
use Rattle.trace_replay.proofs.ReplayLemmas.{held_next, owner_ready}
use Rattle.trace_replay.proofs.replaying.replay_at.Goals as goal

pub plan_at-requires-clause-held : goal.plan_at-requires-clause-held
plan_at-requires-clause-held c = c.in_ok-look_at.ensures.held c.if-not-branch.false

pub answer-requires-clause-index : goal.answer-requires-clause-index
answer-requires-clause-index c =
    let made = c.within_law.ensures.made c.args.trace.now.hints c.args.at c.args.owner c.requires.owner in
    omega (arith, made.0, c.positions.ensures.one_each)

pub answer-requires-clause-at : goal.answer-requires-clause-at
answer-requires-clause-at c =
    let made = c.within_law.ensures.made c.args.trace.now.hints c.args.at c.args.owner c.requires.owner in
    subst (λ n. IsAt c.args.trace.now n c.plan_at.new.self) (sym made.2) c.in_ok-plan_at.ensures.at

pub answer-requires-clause-ready : goal.answer-requires-clause-ready
answer-requires-clause-ready c =
    let made = c.within_law.ensures.made c.args.trace.now.hints c.args.at c.args.owner c.requires.owner in
    owner_ready c.args.trace.now c.args.at c.args.owner c.plan_at.new.self (omega (arith, made.0, c.positions.ensures.one_each)) made.1 made.2 c.in_ok-plan_at.ensures.held

pub returns-clause-sound : goal.returns-clause-sound
returns-clause-sound c = IfOk-weaker c.answer.result _ _ (λ value sound told. (c.in_ok-look_at.ensures.sound c.if-not-branch.false, sound told)) c.answer.ensures.sound

pub returns-clause-complete : goal.returns-clause-complete
returns-clause-complete c =
    let made = c.within_law.ensures.made c.args.trace.now.hints c.args.at c.args.owner c.requires.owner in
    IfOk-weaker c.answer.result _ _ (λ value complete told. complete (told c.args.owner (omega (arith, made.0, c.positions.ensures.one_each)))) c.answer.ensures.complete

pub returns-clause-at : goal.returns-clause-at
returns-clause-at c =
    let trace = c.args.trace.now in
    let made = c.within_law.ensures.made trace.hints c.args.at c.args.owner c.requires.owner in
    IfOk-weaker c.answer.result _ _
    (λ value owns told. subst (λ n. IsAt trace (n + 1) c.answer.new.self) made.2 (owns told (subst (λ n. IsOwner trace.hints (n + 1) c.args.owner) (sym made.2) c.requires.owner)))
    c.answer.ensures.owns

pub returns-clause-held : goal.returns-clause-held
returns-clause-held c =
    let made = c.within_law.ensures.made c.args.trace.now.hints c.args.at c.args.owner c.requires.owner in
    IfOk-weaker c.answer.result _ _ (λ value keeps told. held_next c.args.trace.now c.args.at c.args.owner c.plan_at.new.self c.answer.new.self made.2 c.in_ok-plan_at.ensures.held keeps) c.answer.ensures.others
