use Rattle.std.proofs.Common.{ap, get_or}
use Rattle.lake_core.specs.Plays.{state_with}
use Rattle.lake_core.proofs.TurnLemmas.{goes_one, goes_nowhere}
use Rattle.lake_core.proofs.driving.step.Goals as goal

pub returns-then-lane-lanes : goal.returns-then-lane-lanes
returns-then-lane-lanes c =
    let (denied, steps) = c.step.ensures.steps in
    let (more, grows) = c.step.ensures.grows in
    let lanes = c.args.lanes.now in
    let l = c.args.lane in
    goes_one c.args.catalogue.now c.step.new.catalogue c.args.past.now c.step.new.past lanes c.args.out.now c.step.new.out l (get_or lanes l c.index-lanes-lane.result) c.step.new.self more denied
    c.requires c.step.ensures.past c.if-lane-lanes.true (ap (get_or lanes l) c.index-lanes-lane.is) steps c.step.ensures.held grows c.step.ensures.made c.step.ensures.limits c.step.ensures.entries_room c.step.ensures.answers_room c.step.ensures.syncs_room

pub returns-else-lane-lanes : goal.returns-else-lane-lanes
returns-else-lane-lanes c = goes_nowhere (state_with c.args.catalogue.now c.args.past.now c.args.lanes.now c.args.out.now) c.args.lane c.requires c.if-lane-lanes.false
