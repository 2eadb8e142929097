use Rattle.std.proofs.Common.{◌≡◌, ap, ◌<◌, ℕ, List, length, arith}
use Rattle.std.proofs.lemmas.List.{length-map}
use Rattle.lake_model.specs.Layout.{Place}
use Rattle.catalogue.specs.Carried.{run_marks}
use Rattle.catalogue.proofs.MarksLemmas.{run_ended, run_more}
use Rattle.catalogue.proofs.swapping.carried_marks.Goals as goal

pub loop-part-preserved : goal.loop-part-preserved
loop-part-preserved c =
    let run = c.args.run.now in
    let kept = c.args.kept.now in
    let i = c.loop-part.part-index in
    let part = c.part-item.result in
    let within : i < length run = omega arith in
    let many : length c.marks.result.now ≡ length c.loads.result.now =
    omega (arith, c.marks.ensures.many, ap (λ (ns : List ℕ). length ns) c.loads.ensures, length-map c.part-item.result.places (λ (p : Place). p.position), length-map c.part-item.result.places (λ (p : Place). p.table)) in
    run_more kept run i part c.loads.result.now c.marks.result.now c.loop-part.marks.items c.add_marks.new.all.items (run_marks kept run) within c.part-item.is c.loads.ensures c.marks.ensures.marks many c.loop-part.invariant c.in_ok-add_marks.ensures

pub returns : goal.returns
returns c = run_ended c.args.kept.now c.args.run.now c.loop-part.part-index c.loop-part.marks.items c.loop-part-test.false c.requires.distinct c.requires.taken c.loop-part.invariant
