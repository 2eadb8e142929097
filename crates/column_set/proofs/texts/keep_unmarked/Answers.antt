use Rattle.std.proofs.Common.{◌∙◌, refl, set}
use Rattle.column_set.proofs.SortedLemmas.{kept_all, kept_next, kept_past}
use Rattle.column_set.proofs.texts.keep_unmarked.Goals as goal
use Rattle.column_set.proofs.texts.keep_unmarked.Goals.{then-not-mark, else-not-mark}

pub loop-i-preserved : goal.loop-i-preserved
loop-i-preserved c =
    let spans = c.args.spans.now.items in
    let held = c.loop-i.spans.items in
    let marks = c.args.marks.now in
    elim c.if-not-mark.branch [
      | then-not-mark w ↦
          rw (w.kept-is, w.spans-is) (kept_next spans held marks c.args.from c.loop-i.i c.loop-i.kept c.loop-i.invariant c.requires c.loop-i-test.true w.if-not-mark.true w.index.result.now w.index.ensures (set held c.loop-i.kept w.index.result.now) refl)
      | else-not-mark w ↦ rw (w.kept-is, w.spans-is) (kept_past spans held marks c.args.from c.loop-i.i c.loop-i.kept c.loop-i.invariant c.requires c.loop-i-test.true w.if-not-mark.false)
    ]

pub returns : goal.returns
returns c = c.truncate.ensures.items ∙ kept_all c.args.spans.now.items c.loop-i.spans.items c.args.marks.now c.args.from c.loop-i.i c.loop-i.kept c.loop-i.invariant c.requires c.loop-i-test.false
