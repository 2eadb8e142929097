use Rattle.std.proofs.Common.{◌∙◌, ap, not, arith, sym, inl, inr}
use Rattle.csv.specs.Reading.{default_config}
use Rattle.std.proofs.lemmas.Result.{err_from_is_err_and}
use Rattle.csv_table.specs.RecordsLeft.{left_of}
use Rattle.lake_model.specs.Records.{records_of}
use Rattle.csv_table.proofs.TableLawLemmas.{table_of}
use Rattle.csv_table.proofs.ReaderLemmas.{size_records}
use Rattle.csv_table.proofs.TableLemmas.{all_read, header_added, header_refused, none_next, open_next, record_added, record_refused, wide_header, wide_record_bad}
use Rattle.csv_table.proofs.read_table.Goals as goal

pub returns-in-Some-clause-refused : goal.returns-in-Some-clause-refused
returns-in-Some-clause-refused c =
    inr (wide_header c.args.most c.in-Some.got c.args.bytes.now c.wide_record-wide.result c.wide_record-wide.ensures c.in-Some.ensures)

pub returns-in_err-columns-clause-refused : goal.returns-in_err-columns-clause-refused
returns-in_err-columns-clause-refused c =
    let (e, is, same) = err_from_is_err_and c.from_residual-in_err-columns.result c.from_residual-in_err-columns.ensures.1 in
    rw (is, same) (elim c.in_err-columns.ensures.refused [
      | inl none ↦ inl none
      | inr bad ↦ inr (header_refused c.args.most c.args.bytes.now (left_of c.in_ok-left.left) c.in_err-columns.field-0.0 (sym c.in_ok-left.ensures.left) bad)
    ])

pub loop-records-init : goal.loop-records-init
loop-records-init c =
    let header = rw c.in-Some-2.is at c.in_ok-columns.ensures.more in
    let ready = rw c.in-Some-2.is at c.in_ok-columns.ensures.open in
    let (narrow, left) = header_added c.args.most c.args.bytes.now (left_of c.in_ok-left.left) (left_of c.add_next.new.self) c.in_ok-store.store c.add_next.new.store c.in-Some-2.columns
    (sym c.in_ok-left.ensures.left) c.in_ok-store.ensures header in
    record { ready = ready; narrow = narrow; left = left }

pub returns-in-Some-fields_if_wide-clause-refused : goal.returns-in-Some-fields_if_wide-clause-refused
returns-in-Some-fields_if_wide-clause-refused c =
    inr (wide_record_bad c.args.most c.loop-records.records c.in-Some-2.columns c.in-Some-fields_if_wide.got c.args.bytes.now c.loop-records.store (left_of c.loop-records.left)
    c.wide_record-wide.result c.wide_record-wide.ensures c.in-Some-fields_if_wide.ensures c.loop-records.invariant.narrow c.loop-records.invariant.left)

pub returns-in_err-add_next-clause-refused : goal.returns-in_err-add_next-clause-refused
returns-in_err-add_next-clause-refused c =
    let (e, is, same) = err_from_is_err_and c.from_residual-in_err-add_next.result c.from_residual-in_err-add_next.ensures.1 in
    rw (is, same) (elim c.in_err-add_next.ensures.refused [
      | inl none ↦ inl none
      | inr bad ↦ inr (record_refused c.args.most c.args.bytes.now c.loop-records.records c.in-Some-2.columns c.loop-records.store (left_of c.loop-records.left)
          c.in_err-add_next.field-0.0 c.loop-records.invariant.left bad)
    ])

pub invariant_of-result : goal.invariant_of-result
invariant_of-result c =
    let none = none_next c.in_ok-add_next.field-0 (c.is_none.ensures ∙ ap not c.if-is_none.true) in
    let stored = rw (← c.in_ok-add_next.ensures.kept none) at c.loop-records.invariant.left.stored in
    (stored, omega arith, omega (arith, c.loop-records.invariant.narrow, c.requires.high))

pub returns-then-is_none-clause-table : goal.returns-then-is_none-clause-table
returns-then-is_none-clause-table c =
    let none = none_next c.in_ok-add_next.field-0 (c.is_none.ensures ∙ ap not c.if-is_none.true) in
    (all_read c.args.most c.args.bytes.now c.loop-records.records c.in-Some-2.columns c.loop-records.store c.add_next-in-loop-records.new.store (left_of c.loop-records.left)
    c.loop-records.invariant.left (c.in_ok-add_next.ensures.end none) (c.in_ok-add_next.ensures.kept none)).0

pub returns-then-is_none-clause-sound : goal.returns-then-is_none-clause-sound
returns-then-is_none-clause-sound c =
    let none = none_next c.in_ok-add_next.field-0 (c.is_none.ensures ∙ ap not c.if-is_none.true) in
    (all_read c.args.most c.args.bytes.now c.loop-records.records c.in-Some-2.columns c.loop-records.store c.add_next-in-loop-records.new.store (left_of c.loop-records.left)
    c.loop-records.invariant.left (c.in_ok-add_next.ensures.end none) (c.in_ok-add_next.ensures.kept none)).1

pub returns-then-is_none-clause-is_table : goal.returns-then-is_none-clause-is_table
returns-then-is_none-clause-is_table c =
    let none = none_next c.in_ok-add_next.field-0 (c.is_none.ensures ∙ ap not c.if-is_none.true) in
    let (read, sound) = all_read c.args.most c.args.bytes.now c.loop-records.records c.in-Some-2.columns c.loop-records.store c.add_next-in-loop-records.new.store (left_of c.loop-records.left)
    c.loop-records.invariant.left (c.in_ok-add_next.ensures.end none) (c.in_ok-add_next.ensures.kept none) in
    rw read (table_of c.args.most (records_of c.args.bytes.now) sound)

pub returns-then-is_none-clause-size : goal.returns-then-is_none-clause-size
returns-then-is_none-clause-size c =
    let none = none_next c.in_ok-add_next.field-0 (c.is_none.ensures ∙ ap not c.if-is_none.true) in
    let (read, sound) = all_read c.args.most c.args.bytes.now c.loop-records.records c.in-Some-2.columns c.loop-records.store c.add_next-in-loop-records.new.store (left_of c.loop-records.left)
    c.loop-records.invariant.left (c.in_ok-add_next.ensures.end none) (c.in_ok-add_next.ensures.kept none) in
    rw read (size_records default_config c.args.bytes.now _ _)

pub loop-records-preserved : goal.loop-records-preserved
loop-records-preserved c =
    let some = c.is_none.ensures ∙ ap not c.if-is_none.false in
    record {
      ready = open_next c.in_ok-add_next.field-0 _ some c.in_ok-add_next.ensures.open;
      narrow = c.loop-records.invariant.narrow;
      left = record_added c.args.most c.args.bytes.now c.loop-records.records c.in-Some-2.columns c.loop-records.store c.add_next-in-loop-records.new.store
          (left_of c.loop-records.left) (left_of c.add_next-in-loop-records.new.self) c.in_ok-add_next.field-0 c.loop-records.invariant.left some c.in_ok-add_next.ensures.more;
    }
