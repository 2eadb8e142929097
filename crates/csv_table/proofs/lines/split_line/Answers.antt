use Rattle.std.proofs.Common.{◌∙◌, ◌≡◌, ◌+◌, ◌<◌, [], false, get_or, length, drop, true, refl, sym, arith}
use Rattle.std.specs.Prelude.{◌==◌}
use Rattle.std.specs.List.{slice_range}
use Rattle.std.proofs.lemmas.Bool.{eq-eqb, ne_eqb}
use Rattle.std.proofs.lemmas.Str.{IsCharBoundary-after_ascii, IsCharBoundary-start}
use Rattle.csv_table.specs.Lines.{first_line, is_break}
use Rattle.csv_table.proofs.LineLemmas.{line_break, line_comma, line_end, line_more, range_none}
use Rattle.csv_table.proofs.lines.split_line.Goals as goal
use Rattle.csv_table.proofs.lines.split_line.Goals.{then-bytes-i-eq44+in_ok-push-2, else-bytes-i-eq44}

pub loop-i-init : goal.loop-i-init
loop-i-init c = record { begun = omega arith; between = IsCharBoundary-start c.args.text.now c.utf8.text; left = refl }

pub returns-then-is_break : goal.returns-then-is_break
returns-then-is_break c =
    let text = c.args.text.now in
    let within : c.loop-i.i < length text = rw c.as_bytes-bytes.ensures.value at c.loop-i-test.true in
    let is : is_break (get_or text c.loop-i.i 0) ≡ true = rw c.as_bytes-bytes.ensures.value at (sym c.is_break.ensures ∙ c.if-is_break.true) in
    rw (c.in_ok-push.ensures.added, c.range.ensures.value, c.range_from.ensures.value) (c.loop-i.invariant.left ∙ line_break c.loop-i.store text c.loop-i.from c.loop-i.i within is)

pub loop-i-preserved : goal.loop-i-preserved
loop-i-preserved c =
    let text = c.args.text.now in
    let kept = c.loop-i.invariant in
    let within : c.loop-i.i < length text = rw c.as_bytes-bytes.ensures.value at c.loop-i-test.true in
    let not : is_break (get_or text c.loop-i.i 0) ≡ false = rw c.as_bytes-bytes.ensures.value at (sym c.is_break.ensures ∙ c.if-is_break.false) in
    elim c.if-bytes-i-eq44.branch [
      | then-bytes-i-eq44+in_ok-push-2 w ↦
          let is : get_or text c.loop-i.i 0 ≡ 44 = rw c.as_bytes-bytes.ensures.value at w.if-bytes-i-eq44.true in
          let comma = line_comma c.loop-i.store text c.loop-i.from c.loop-i.i within not (eq-eqb _ 44 is) in
          record {
            begun = omega (arith, w.from-is);
            between = rw w.from-is (IsCharBoundary-after_ascii text c.loop-i.i c.utf8.text within (omega (arith, is)));
            left = rw (w.store-is, w.from-is, w.in_ok-push-2.ensures.added, w.range-then-bytes-i-eq44.ensures.value, range_none text (c.loop-i.i + 1)) (kept.left ∙ comma);
          }
      | else-bytes-i-eq44 w ↦
          let other : (get_or text c.loop-i.i 0 == 44) ≡ false = rw c.as_bytes-bytes.ensures.value at (ne_eqb _ 44 w.if-bytes-i-eq44.false) in
          record {
            begun = omega (arith, w.from-is, kept.begun);
            between = rw w.from-is kept.between;
            left = rw (w.store-is, w.from-is) (kept.left ∙ line_more c.loop-i.store text c.loop-i.from c.loop-i.i kept.begun within not other);
          }
    ]

pub returns : goal.returns
returns c =
    let text = c.args.text.now in
    let end : c.loop-i.i ≡ length text = omega (arith, c.loop-i-test.false, c.loop-i.auto.i-end, c.as_bytes-bytes.ensures.len) in
    let left : first_line c.args.store.now [] text ≡ first_line c.loop-i.store (slice_range text c.loop-i.from (length text)) (drop (length text) text) = rw end at c.loop-i.invariant.left in
    rw (c.in_ok-push-3.ensures.added, c.range_from-2.ensures.value) (left ∙ line_end c.loop-i.store text c.loop-i.from)
