use Rattle.std.proofs.Common.{sym, subst, below_more, arith}
use Rattle.trace_replay.specs.Lakes.{IsAt}
use Rattle.trace_replay.proofs.ReplayLemmas.{LookIsTold, held_last, held_more, look_ready, look_told, looks_told, turn_found}
use Rattle.trace_replay.proofs.lake.Lake.look_at.Goals as goal

pub look-requires-clause-at : goal.look-requires-clause-at
look-requires-clause-at c =
    subst (λ n. IsAt c.args.trace.now n c.loop-turn.self) (sym (turn_found c.args.trace.now.hints c.args.turns.now c.turns_at-turn-items.result.now c.args.at c.loop-turn.turn-index _ c.requires.turns c.turns_at-turn-items.ensures c.loop-turn-test.true).1) c.loop-turn.invariant.here

pub look-requires-clause-turn : goal.look-requires-clause-turn
look-requires-clause-turn c = (turn_found c.args.trace.now.hints c.args.turns.now c.turns_at-turn-items.result.now c.args.at c.loop-turn.turn-index _ c.requires.turns c.turns_at-turn-items.ensures c.loop-turn-test.true).0

pub look-requires-clause-ready : goal.look-requires-clause-ready
look-requires-clause-ready c looks =
    look_ready c.args.trace.now c.args.turns.now c.turns_at-turn-items.result.now c.args.at c.loop-turn.turn-index _ c.loop-turn.self c.positions.ensures.one_each c.requires.turns c.turns_at-turn-items.ensures
    c.loop-turn-test.true c.loop-turn.invariant.held

pub loop-turn-preserved : goal.loop-turn-preserved
loop-turn-preserved c =
    let trace = c.args.trace.now in
    let found = c.turns_at-turn-items.result.now in
    let here = turn_found trace.hints c.args.turns.now found c.args.at c.loop-turn.turn-index _ c.requires.turns c.turns_at-turn-items.ensures c.loop-turn-test.true in
    let looked = look_told trace found c.loop-turn.turn-index _ c.loop-turn-test.true (c.in_ok-look.ensures.sound c.if-not-branch.false) in
    record {
      here = subst (λ n. IsAt trace n c.look.new.self) here.1 (c.in_ok-look.ensures.at c.if-not-branch.false);
      told = below_more (LookIsTold trace found) c.loop-turn.turn-index c.loop-turn.invariant.told looked;
      held = held_more trace found c.args.at c.loop-turn.turn-index _ c.loop-turn.self c.look.new.self c.loop-turn-test.true c.loop-turn.invariant.held c.in_ok-look.ensures.others;
    }

pub returns-clause-sound : goal.returns-clause-sound
returns-clause-sound c told =
    looks_told c.args.trace.now c.args.turns.now c.turns_at-turn-items.result.now c.args.at c.positions.ensures.one_each c.requires.turns c.turns_at-turn-items.ensures
    (λ k low. c.loop-turn.invariant.told k (omega (arith, low)))

pub returns-clause-held : goal.returns-clause-held
returns-clause-held c told =
    held_last c.args.trace.now c.args.turns.now c.turns_at-turn-items.result.now c.args.at c.loop-turn.turn-index _ c.loop-turn.self c.positions.ensures.each c.requires.turns c.turns_at-turn-items.ensures
    (omega arith) c.loop-turn.invariant.held
