use Rattle.std.proofs.Common.{◌≡◌, ◌∙◌, ◌++◌, sym, ap, ◌<◌, length, drop, get_or, arith}
use Rattle.catalogue.specs.Carried.{is_first, marks_along}
use Rattle.catalogue.proofs.MarksLemmas.{along_kept, along_left}
use Rattle.catalogue.proofs.swapping.add_marks.Goals as goal
use Rattle.catalogue.proofs.swapping.add_marks.Goals.{then-is_next+in_ok-push, else-is_next}

pub loop-i-preserved : goal.loop-i-preserved
loop-i-preserved c =
    let i = c.loop-i.i in
    let kept = c.args.kept.now in
    let positions = c.args.positions.now in
    let marks = c.args.marks.now in
    let all = c.loop-i.all.items in
    let whole = c.args.all.now.items ++ marks_along (drop (length c.args.all.now.items) kept) positions marks in
    let within : i < length positions = omega arith in
    let long : c.len.result ≡ length c.loop-i.all.items = omega arith in
    let next : c.is_next.result ≡ is_first (get_or c.args.positions.now c.loop-i.i 0) (drop (length c.loop-i.all.items) c.args.kept.now) = c.is_next.ensures ∙ ap (λ n. is_first (get_or c.args.positions.now c.loop-i.i 0) (drop n c.args.kept.now)) long in
    elim c.if-is_next.branch [
      | then-is_next+in_ok-push w ↦ along_kept kept positions marks all c.if-is_next.all.items i whole within c.requires (sym next ∙ w.if-is_next.true) c.loop-i.invariant (ap (λ v. v.items) w.all-is ∙ w.in_ok-push.ensures.items)
      | else-is_next w ↦ along_left kept positions marks all c.if-is_next.all.items i whole within c.requires (sym next ∙ w.if-is_next.false) c.loop-i.invariant (ap (λ v. v.items) w.all-is)
    ]
