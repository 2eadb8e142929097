use Rattle.std.proofs.Common.{ℕ, ◌≡◌, ◌*◌, ◌++◌, ap, arith, replicate, sym, ◌∙◌}
use Rattle.std.specs.List.{range_with_len}
use Rattle.lake_core.specs.Plays.{state_with}
use Rattle.lake_core.proofs.BatchLemmas.{lane_more, merger_last, turns_each}
use Rattle.lake_core.proofs.TurnLemmas.{goes_none, goes_by}
use Rattle.lake_core.proofs.driving.play_rest.Goals as goal

pub loop-before-init : goal.loop-before-init
loop-before-init c = goes_none (state_with c.args.catalogue.now c.args.past.now c.args.lanes.now c.args.out.now) c.requires

pub loop-before-preserved : goal.loop-before-preserved
loop-before-preserved c = goes_by _ _ _ _ _ _ (sym (lane_more (2 * c.args.works) c.loop-before.before)) c.loop-before.invariant c.play_lane.ensures

pub returns : goal.returns
returns c =
    let steps : ℕ = 2 * c.args.works in
    let all : c.loop-before.before ≡ c.args.count = omega arith in
    goes_by _ _ _ _ _ _ (ap (λ (n : ℕ). turns_each steps (range_with_len 1 n) ++ replicate steps 0) all ∙ sym (merger_last steps c.args.count)) c.loop-before.invariant c.play_lane-2.ensures
