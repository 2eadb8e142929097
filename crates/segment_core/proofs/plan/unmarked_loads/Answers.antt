use Rattle.std.proofs.Common.{◌∙◌, ◌<◌, length, arith}
use Rattle.segment_core.proofs.PlanLemmas.{kept_more}
use Rattle.segment_core.proofs.plan.unmarked_loads.Goals as goal

pub loop-part-preserved : goal.loop-part-preserved
loop-part-preserved c =
    let run = c.args.run.now in
    let i = c.loop-part.part-index in
    let within : i < length run = omega arith in
    kept_more run i c.part-item.result c.loads.result.now c.tables.result.now c.marks.result.now c.loop-part.loads.items c.add_loads.new.loads.items within c.part-item.is c.loads.ensures (c.tables.ensures ∙ c.segment.ensures) c.marks.ensures.marks c.loop-part.invariant c.in_ok-add_loads.ensures
