use Rattle.std.proofs.Common.{◌∙◌, ◌≡◌, ◌<◌, false, get_or, length, true, refl, sym, arith}
use Rattle.std.proofs.lemmas.List.{drop_all}
use Rattle.std.proofs.lemmas.Str.{IsCharBoundary-after_ascii, IsCharBoundary-start}
use Rattle.csv_table.specs.Lines.{is_break}
use Rattle.csv_table.proofs.LineLemmas.{break_ascii, breaks_all, breaks_end, breaks_more}
use Rattle.csv_table.proofs.lines.behind_breaks.Goals as goal

pub loop-i-init : goal.loop-i-init
loop-i-init c = record { between = IsCharBoundary-start c.args.text.now c.utf8.text; left = refl }

pub returns-then-not-is_break : goal.returns-then-not-is_break
returns-then-not-is_break c =
    let text = c.args.text.now in
    let within : c.loop-i.i < length text = rw c.as_bytes-bytes.ensures.value at c.loop-i-test.true in
    let other : is_break (get_or text c.loop-i.i 0) ≡ false = rw c.as_bytes-bytes.ensures.value at (sym c.is_break.ensures ∙ c.if-not-is_break.true) in
    c.range_from.ensures.value ∙ sym (c.loop-i.invariant.left ∙ breaks_end text c.loop-i.i within other)

pub loop-i-preserved : goal.loop-i-preserved
loop-i-preserved c =
    let text = c.args.text.now in
    let within : c.loop-i.i < length text = rw c.as_bytes-bytes.ensures.value at c.loop-i-test.true in
    let is : is_break (get_or text c.loop-i.i 0) ≡ true = rw c.as_bytes-bytes.ensures.value at (sym c.is_break.ensures ∙ c.if-not-is_break.false) in
    record {
      between = IsCharBoundary-after_ascii text c.loop-i.i c.utf8.text within (break_ascii (get_or text c.loop-i.i 0) is);
      left = c.loop-i.invariant.left ∙ breaks_more text c.loop-i.i within is;
    }

pub returns : goal.returns
returns c =
    let text = c.args.text.now in
    let end : c.loop-i.i ≡ length text = omega (arith, c.loop-i-test.false, c.loop-i.auto.i-end, c.as_bytes-bytes.ensures.len) in
    sym (c.loop-i.invariant.left ∙ breaks_all text c.loop-i.i (omega (arith, end)) ∙ drop_all c.loop-i.i text (omega (arith, end)))
