use Rattle.std.proofs.Common.{◌∙◌, ◌≡◌, ◌-◌, ap, arith, inr, length, length-append, sym}
use Rattle.std.proofs.lemmas.Bool.{eqb-true}
use Rattle.std.proofs.lemmas.List.{nil_from_length}
use Rattle.std.proofs.lemmas.Result.{err_from_is_err_and}
use Rattle.csv_table.specs.Lines.{lines_of}
use Rattle.csv_table.proofs.FaultLemmas.{length_bad, texts_sound}
use Rattle.csv_table.proofs.LineLemmas.{line_added, no_line}
use Rattle.csv_table.proofs.lines.add_line.Goals as goal

pub returns-then-is_empty-clause-end : goal.returns-then-is_empty-clause-end
returns-then-is_empty-clause-end c = λ _.
    let none = eqb-true _ 0 (sym c.is_empty.ensures ∙ c.if-is_empty.true) in
    no_line c.args.text.now.now (sym c.behind_breaks-line.ensures ∙ nil_from_length _ none)

pub overflow_sub-len : goal.overflow_sub-len
overflow_sub-len c =
    let line = line_added c.args.text.now.now c.behind_breaks-line.result.now c.in_ok-text.field-0.now c.args.store.now c.split_line.new.store
    c.requires c.behind_breaks-line.ensures (sym c.is_empty.ensures ∙ c.if-is_empty.false) c.in_ok-text.ensures in
    omega (arith, c.len-before.ensures.value, c.len.ensures.value, ap length line.added, length-append c.args.store.now line.fields)

pub returns-in_err-count-clause-refused : goal.returns-in_err-count-clause-refused
returns-in_err-count-clause-refused c =
    let line = line_added c.args.text.now.now c.behind_breaks-line.result.now c.in_ok-text.field-0.now c.args.store.now c.split_line.new.store
    c.requires c.behind_breaks-line.ensures (sym c.is_empty.ensures ∙ c.if-is_empty.false) c.in_ok-text.ensures in
    let counted : c.len.result - c.len-before.result ≡ length line.fields =
    omega (arith, c.len-before.ensures.value, c.len.ensures.value, ap length line.added, length-append c.args.store.now line.fields) in
    let (e, is, same) = err_from_is_err_and c.from_residual-in_err-count.result c.from_residual-in_err-count.ensures.1 in
    rw (is, same) (inr (record {
      fields = line.fields;
      rest = lines_of c.in_ok-text.field-0.now;
      first = line.taken;
      bad = length_bad c.args.expected line.fields _ c.in_err-count.field-0.0 counted c.in_err-count.ensures.refused;
    }))

pub returns-clause-left : goal.returns-clause-left
returns-clause-left c =
    (line_added c.args.text.now.now c.behind_breaks-line.result.now c.in_ok-text.field-0.now c.args.store.now c.split_line.new.store
    c.requires c.behind_breaks-line.ensures (sym c.is_empty.ensures ∙ c.if-is_empty.false) c.in_ok-text.ensures).quiet

pub returns-clause-more : goal.returns-clause-more
returns-clause-more c =
    let line = line_added c.args.text.now.now c.behind_breaks-line.result.now c.in_ok-text.field-0.now c.args.store.now c.split_line.new.store
    c.requires c.behind_breaks-line.ensures (sym c.is_empty.ensures ∙ c.if-is_empty.false) c.in_ok-text.ensures in
    let counted : c.len.result - c.len-before.result ≡ length line.fields =
    omega (arith, c.len-before.ensures.value, c.len.ensures.value, ap length line.added, length-append c.args.store.now line.fields) in
    record {
      fields = line.fields;
      taken = line.taken;
      sound = texts_sound c.args.expected c.args.store.now c.split_line.new.store line.fields _ line.added c.len.ensures.texts counted c.in_ok-count.ensures.sound;
      added = line.added;
      counted = c.in_ok-count.ensures.same ∙ counted;
    }
