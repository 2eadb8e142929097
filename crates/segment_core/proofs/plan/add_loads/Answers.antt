use Rattle.std.proofs.Common.{◌≡◌, ◌∙◌, ap, ◌<◌, length, arith}
use Rattle.std.proofs.lemmas.List.{get_or_default}
use Rattle.search_model.specs.Arrays.{no_table, table_at}
use Rattle.segment_core.proofs.PlanLemmas.{load_kept, load_left}
use Rattle.segment_core.proofs.plan.add_loads.Goals as goal
use Rattle.segment_core.proofs.plan.add_loads.Goals.{then-not-marks-i+in_ok-share+in_ok-push, else-not-marks-i}

pub loop-i-preserved : goal.loop-i-preserved
loop-i-preserved c =
    let i = c.loop-i.i in
    let positions = c.args.positions.now in
    let tables = c.args.tables.now in
    let marks = c.args.marks.now in
    let first = c.args.loads.now.items in
    let within : i < length tables = omega arith in
    elim c.if-not-marks-i.branch [
      | then-not-marks-i+in_ok-share+in_ok-push w ↦
          let table : w.in_ok-share.field-0 ≡ table_at tables i = w.in_ok-share.ensures ∙ c.index-tables-i.is ∙ get_or_default tables i c.index-tables-i.result no_table within in
          load_kept positions tables marks i w.in_ok-share.field-0 first c.loop-i.loads.items c.if-not-marks-i.loads.items within c.requires.positions c.requires.marks w.if-not-marks-i.true table c.loop-i.invariant (ap (λ v. v.items) w.loads-is ∙ w.in_ok-push.ensures.items)
      | else-not-marks-i w ↦
          load_left positions tables marks i first c.loop-i.loads.items c.if-not-marks-i.loads.items within c.requires.positions c.requires.marks w.if-not-marks-i.false c.loop-i.invariant (ap (λ v. v.items) w.loads-is)
    ]
