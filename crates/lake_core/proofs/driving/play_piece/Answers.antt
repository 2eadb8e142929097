use Rattle.std.proofs.Common.{◌∷◌, [], get_or, sym}
use Rattle.std.proofs.lemmas.List.{take_more}
use Rattle.lake_core.specs.Plays.{state_with}
use Rattle.lake_core.proofs.TurnLemmas.{goes_none, goes_by}
use Rattle.lake_core.proofs.driving.play_piece.Goals as goal

pub loop-lane-init : goal.loop-lane-init
loop-lane-init c = goes_none (state_with c.args.catalogue.now c.args.past.now c.args.lanes.now c.args.out.now) c.requires

pub loop-lane-preserved : goal.loop-lane-preserved
loop-lane-preserved c = goes_by _ (get_or c.args.piece.now c.loop-lane.lane-index 0 ∷ []) _ _ _ _ (sym (take_more c.args.piece.now c.loop-lane.lane-index 0 c.loop-lane-test.true)) c.loop-lane.invariant c.step.ensures
