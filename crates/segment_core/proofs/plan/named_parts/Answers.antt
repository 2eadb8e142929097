use Rattle.std.proofs.Common.{◌≡◌, ◌∙◌, sym, ap, ◌<◌, length, arith}
use Rattle.lake_model.specs.Layout.{Part}
use Rattle.segment_core.specs.Positions.{loads_of}
use Rattle.segment_core.proofs.PartLemmas.{positions_with}
use Rattle.segment_core.proofs.PlanLemmas.{named_more}
use Rattle.segment_core.proofs.plan.named_parts.Goals as goal

pub loop-part-preserved : goal.loop-part-preserved
loop-part-preserved c =
    let run = c.args.run.now in
    let i = c.loop-part.part-index in
    let item = c.part-item.result in
    let within : i < length run = omega arith in
    let number : c.part.inside.number ≡ item.number = ap (λ (p : Part). p.number) c.part.view_is in
    let loads : c.in_ok-copy.field-0 ≡ loads_of item = c.in_ok-copy.ensures ∙ sym (positions_with c.part.inside.number c.part.inside.positions c.part.inside.segment.value c.part.inside.marked c.part.invariant.0 c.part.invariant.1) ∙ ap loads_of c.part.view_is in
    named_more run i item c.part.inside.number c.in_ok-copy.field-0 c.loop-part.all.items c.push.new.self.items within c.part-item.is number loads c.loop-part.invariant c.in_ok-push.ensures.items
