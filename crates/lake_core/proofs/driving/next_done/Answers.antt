use Rattle.std.proofs.Common.{◌≡◌, [], ap, sym, ◌∙◌, drop, get_or, map}
use Rattle.std.specs.Prelude.{slice_set}
use Rattle.std.proofs.lemmas.List.{get_or-map, map-set}
use Rattle.lake_core.specs.Lanes.{done_in}
use Rattle.lake_core.proofs.driving.next_done.Goals as goal

pub returns-then-lane-lanes-clause-rest : goal.returns-then-lane-lanes-clause-rest
returns-then-lane-lanes-clause-rest c =
    let lanes = c.args.lanes.now in
    let l = c.args.lane in
    let lane = get_or lanes l c.index-lanes-lane.result in
    let here : done_in lane ≡ get_or (map done_in lanes) l [] = sym (get_or-map done_in lanes l c.index-lanes-lane.result [] c.if-lane-lanes.true) in
    map-set done_in lanes l c.next_done.new.self ∙ ap (slice_set (map done_in lanes) l) (ap done_in c.next_done.ensures.rest ∙ ap (drop 1) here)
