use Rattle.std.proofs.Common.{◌*◌, ◌-◌, ◌≤◌, sym, arith}
use Rattle.lake_core.specs.Plays.{state_with}
use Rattle.lake_core.proofs.BatchLemmas.{two_more, turns_left}
use Rattle.lake_core.proofs.TurnLemmas.{goes_none, goes_on, goes_by, goes_idle, ready_after}
use Rattle.lake_core.proofs.driving.play_lane.Goals as goal

pub loop-taken-init : goal.loop-taken-init
loop-taken-init c = goes_none (state_with c.args.catalogue.now c.args.past.now c.args.lanes.now c.args.out.now) c.requires

pub returns-then-is_idle : goal.returns-then-is_idle
returns-then-is_idle c =
    let n = c.loop-taken._taken in
    let all = c.args.works in
    let state = state_with c.loop-taken.catalogue c.loop-taken.past c.loop-taken.lanes c.loop-taken.out in
    let within : n ≤ all = omega arith in
    goes_by _ _ _ _ _ _ (turns_left n all c.args.lane within) c.loop-taken.invariant
    (goes_idle state c.args.lane (2 * all - 2 * n) (ready_after _ _ _ c.loop-taken.invariant) (c.is_idle.ensures c.if-is_idle.true))

pub loop-taken-preserved : goal.loop-taken-preserved
loop-taken-preserved c = goes_by _ _ _ _ _ _ (sym (two_more c.loop-taken._taken c.args.lane)) (goes_on _ _ _ _ _ c.loop-taken.invariant c.step.ensures) c.step-in-loop-taken.ensures
