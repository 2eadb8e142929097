use Rattle.std.proofs.Common.{◌∙◌}
use Rattle.lake_desk.proofs.Opens.{desks_more, opened_next}
use Rattle.lake_desk.proofs.opening.lane_desks.Goals as goal

pub loop-lane-preserved : goal.loop-lane-preserved
loop-lane-preserved g c =
    let lock = c.args.lake.now in
    let n = c.loop-lane._lane in
    let next = opened_next lock n c.args.lanes c.loop-lane.opening c.new_pass-pass.new.pass c.new_pass-pass.result c.loop-lane.invariant.1 c.new_pass-pass.ensures in
    (desks_more lock n c.loop-lane.desks.items c.push.new.self.items c.new.result c.loop-lane.invariant.0 (c.new.ensures ∙ next.1) c.in_ok-push.ensures.items, next.0)
