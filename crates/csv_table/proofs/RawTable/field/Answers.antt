use Rattle.std.proofs.Common.{◌∙◌, ◌-◌, ◌<◌, arith, sym}
use Rattle.std.proofs.lemmas.Nat.{row_fits}
use Rattle.csv_table.proofs.SplitLemmas.{column_count-split_records, field-split_records, length-split_records}
use Rattle.csv_table.proofs.RawTable.field.Goals as goal

pub overflow_mul-index : goal.overflow_mul-index
overflow_mul-index c =
    let table = c.self.inside in
    let row = rw (← c.self.view_is, length-split_records) at c.requires.row in
    let fits = row_fits c.args.row table.columns table.records table.columns row (omega arith) in
    omega (arith, c.self.invariant.0)

pub overflow_add-index : goal.overflow_add-index
overflow_add-index c =
    let table = c.self.inside in
    let row = rw (← c.self.view_is, length-split_records) at c.requires.row in
    let high = rw (← c.self.view_is, column_count-split_records _ _ _ c.self.invariant.1 c.self.invariant.0) at c.requires.high in
    let fits = row_fits c.args.row table.columns table.records table.columns row (omega arith) in
    omega (arith, c.self.invariant.0)

pub field-requires : goal.field-requires
field-requires c =
    let table = c.self.inside in
    let row = rw (← c.self.view_is, length-split_records) at c.requires.row in
    let high = rw (← c.self.view_is, column_count-split_records _ _ _ c.self.invariant.1 c.self.invariant.0) at c.requires.high in
    let fits = row_fits c.args.row table.columns table.records table.columns row (omega arith) in
    omega (arith, c.self.invariant.0)

pub returns : goal.returns
returns c =
    let table = c.self.inside in
    let row = rw (← c.self.view_is, length-split_records) at c.requires.row in
    let high = rw (← c.self.view_is, column_count-split_records _ _ _ c.self.invariant.1 c.self.invariant.0) at c.requires.high in
    let place : c.args.place - 1 < table.columns = omega arith in
    c.field.ensures ∙ sym (rw (← c.self.view_is) (field-split_records table.records table.columns table.store c.args.row (c.args.place - 1) row place))
