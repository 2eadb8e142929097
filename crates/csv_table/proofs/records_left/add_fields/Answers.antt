use Rattle.std.proofs.Common.{◌∙◌, take, ◌+◌, ◌≡◌, [], ◌∷◌, get_or, sym, ap, inr, true, false}
use Rattle.std.proofs.lemmas.List.{append_assoc, take_more, take_all, drop_all}
use Rattle.std.proofs.lemmas.Bool.{false_from_ne_true}
use Rattle.std.proofs.lemmas.Str.{IsUtf8-from_is_utf8, is_utf8-from_IsUtf8}
use Rattle.std.specs.Str.{is_utf8}
use Rattle.csv.specs.Records.{fields_of}
use Rattle.lake_model.specs.Records.{text_fault}
use Rattle.csv_table.proofs.FaultLemmas.{field_past, field_there, text_end, text_here, text_not}
use Rattle.csv_table.proofs.records_left.add_fields.Goals as goal

pub returns-in_default-clause-refused : goal.returns-in_default-clause-refused
returns-in_default-clause-refused c =
    let fields = fields_of c.args.row.now in
    let (here, same) = field_there fields c.loop-i.i c.in-Some.field.now (sym (rw (c.loop-i.invariant.row, c.loop-i.invariant.at) at c.in-Some.ensures.steps.1)) in
    let bad : is_utf8 (get_or fields c.loop-i.i []) ≡ false =
    rw same (false_from_ne_true _ (λ e. c.in_default.ensures.cases.0 (IsUtf8-from_is_utf8 _ e))) in
    inr (c.loop-i.invariant.text ∙ text_not c.args.number (c.loop-i.i + 1) fields c.loop-i.i here bad)

pub loop-i-preserved : goal.loop-i-preserved
loop-i-preserved c =
    let fields = fields_of c.args.row.now in
    let (here, same) = field_there fields c.loop-i.i c.in-Some.field.now (sym (rw (c.loop-i.invariant.row, c.loop-i.invariant.at) at c.in-Some.ensures.steps.1)) in
    let good : is_utf8 (get_or fields c.loop-i.i []) ≡ true = rw same (is_utf8-from_IsUtf8 _ c.in-Ok.ensures.cases.1) in
    let pushed = c.in_ok-push.ensures.added in
    let text = c.in-Ok.ensures.cases.0 in
    let more = take_more fields c.loop-i.i [] here in
    let joined = append_assoc c.args.store.now (take c.loop-i.i fields) (get_or fields c.loop-i.i [] ∷ []) in
    let before = c.loop-i.invariant.added in
    record {
      row = ap (λ r. r.now) c.in-Some.ensures.steps.0 ∙ c.loop-i.invariant.row;
      at = c.in-Some.ensures.steps.2 ∙ ap (λ n. n + 1) c.loop-i.invariant.at;
      added = cc;
      text = c.loop-i.invariant.text ∙ text_here c.args.number (c.loop-i.i + 1) fields c.loop-i.i here good;
    }

pub returns-clause-ok : goal.returns-clause-ok
returns-clause-ok c =
    let fields = fields_of c.args.row.now in
    let past = field_past fields c.loop-i.i (sym (rw (c.loop-i.invariant.row, c.loop-i.invariant.at) at c.in-None.ensures.steps.1)) in
    c.loop-i.invariant.text ∙ ap (text_fault c.args.number (c.loop-i.i + 1)) (drop_all c.loop-i.i fields past) ∙ text_end c.args.number (c.loop-i.i + 1)

pub returns-clause-added : goal.returns-clause-added
returns-clause-added c =
    let fields = fields_of c.args.row.now in
    let past = field_past fields c.loop-i.i (sym (rw (c.loop-i.invariant.row, c.loop-i.invariant.at) at c.in-None.ensures.steps.1)) in
    rw (take_all c.loop-i.i fields past) at c.loop-i.invariant.added
