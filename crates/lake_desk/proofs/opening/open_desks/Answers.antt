use Rattle.std.proofs.Common.{◌∙◌}
use Rattle.lake_desk.proofs.Opens.{opened_all}
use Rattle.lake_desk.proofs.opening.open_desks.Goals as goal

pub returns : goal.returns
returns g c =
    opened_all c.args.lake.now c.args.lanes c.in_ok-desks.desks.items c.push.new.self.items c.in_ok-lane_desks.lane_desks.items c.append.new.self.items c.new.result
    c.in_ok-append.ensures.items c.in_ok-push.ensures.items c.in_ok-desks.ensures.items c.in_ok-lane_desks.ensures.0 (c.new.ensures ∙ c.in_ok-lane_desks.ensures.1)
