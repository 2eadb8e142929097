use Rattle.std.proofs.Common.{◌∙◌, ap, arith, get_or, string_bytes, []}
use Rattle.csv_table.proofs.CutLemmas.{ends_between, length-cut_from, part_at, starts_between}
use Rattle.csv_table.proofs.fields.Fields.field.Goals as goal

pub start_of-start-requires : goal.start_of-start-requires
start_of-start-requires c =
    let fields = c.self.inside in
    let here = rw (← c.self.view_is, length-cut_from 0 fields.ends.items (string_bytes fields.text)) at c.requires in
    rw c.deref.ensures.value (omega arith)

pub index-requires : goal.index-requires
index-requires c =
    let fields = c.self.inside in
    let here = rw (← c.self.view_is, length-cut_from 0 fields.ends.items (string_bytes fields.text)) at c.requires in
    rw fields.ends.ok.0 here

pub range-requires-clause-start_le_end : goal.range-requires-clause-start_le_end
range-requires-clause-start_le_end c =
    let fields = c.self.inside in
    let here = rw (← c.self.view_is) at c.requires in
    let start = rw c.deref.ensures.value at c.start_of-start.ensures in
    (part_at fields.ends.items (string_bytes fields.text) c.as_str.result.now c.args.i _ _ here c.self.invariant c.as_str.ensures.value start c.index.ensures).order

pub range-requires-clause-start_boundary : goal.range-requires-clause-start_boundary
range-requires-clause-start_boundary c _ =
    let fields = c.self.inside in
    let here = rw (← c.self.view_is) at c.requires in
    let start = rw c.deref.ensures.value at c.start_of-start.ensures in
    starts_between _ _ _ _ c.as_str.utf8 (part_at fields.ends.items (string_bytes fields.text) c.as_str.result.now c.args.i _ _ here c.self.invariant c.as_str.ensures.value start c.index.ensures)

pub range-requires-clause-end_boundary : goal.range-requires-clause-end_boundary
range-requires-clause-end_boundary c =
    let fields = c.self.inside in
    let here = rw (← c.self.view_is) at c.requires in
    let start = rw c.deref.ensures.value at c.start_of-start.ensures in
    ends_between _ _ _ _ c.as_str.utf8 (part_at fields.ends.items (string_bytes fields.text) c.as_str.result.now c.args.i _ _ here c.self.invariant c.as_str.ensures.value start c.index.ensures)

pub returns : goal.returns
returns c =
    let fields = c.self.inside in
    let here = rw (← c.self.view_is) at c.requires in
    let start = rw c.deref.ensures.value at c.start_of-start.ensures in
    let part = part_at fields.ends.items (string_bytes fields.text) c.as_str.result.now c.args.i _ _ here c.self.invariant c.as_str.ensures.value start c.index.ensures in
    c.range.ensures.value ∙ part.same ∙ ap (λ texts. get_or texts c.args.i []) c.self.view_is
