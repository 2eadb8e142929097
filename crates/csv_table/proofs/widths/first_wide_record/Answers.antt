use Rattle.std.proofs.Common.{◌∙◌, ◌<◌, ◌≤◌, length, sym, arith}
use Rattle.csv_table.specs.Places.{state_of}
use Rattle.csv_table.proofs.WideLemmas.{pass_ends_between, pass_ends_narrow, pass_ends_wide, pass_field, pass_finds, pass_next, pass_same, pass_wide}
use Rattle.csv_table.proofs.widths.first_wide_record.Goals as goal
use Rattle.csv_table.proofs.widths.first_wide_record.Goals.{in-Nothing, in-EndField, in-EndRecord+else-fields-most}

pub loop-byte-init : goal.loop-byte-init
loop-byte-init c = record {
  numbered = omega arith;
  counted = omega arith;
  left = pass_finds c.args.most c.args.text.now;
}

pub returns-then-fields-most : goal.returns-then-fields-most
returns-then-fields-most c =
    let here : c.loop-byte.byte-index < length c.args.text.now = omega arith in
    sym (c.loop-byte.invariant.left
    ∙ pass_wide c.args.most c.loop-byte.number c.loop-byte.fields c.loop-byte.byte-index c.loop-byte.place c.step-next.result c.args.text.now here c.step-next.ensures c.in-EndRecord.is (omega arith))

pub loop-byte-preserved : goal.loop-byte-preserved
loop-byte-preserved c =
    let kept = c.loop-byte.invariant in
    let here : c.loop-byte.byte-index < length c.args.text.now = omega arith in
    elim c.match-effect.branch [
      | in-Nothing w ↦ record {
        numbered = omega (arith, kept.numbered);
        counted = omega (arith, kept.counted);
        left = rw (w.number-is, w.fields-is) (kept.left
            ∙ pass_same c.args.most c.loop-byte.number c.loop-byte.fields c.loop-byte.byte-index c.loop-byte.place c.step-next.result c.args.text.now here c.step-next.ensures w.in-Nothing.is);
      }
      | in-EndField w ↦ record {
        numbered = omega (arith, kept.numbered);
        counted = omega (arith, kept.counted);
        left = rw (w.number-is, w.fields-is) (kept.left
            ∙ pass_field c.args.most c.loop-byte.number c.loop-byte.fields c.loop-byte.byte-index c.loop-byte.place c.step-next.result c.args.text.now here c.step-next.ensures w.in-EndField.is);
      }
      | in-EndRecord+else-fields-most w ↦ record {
        numbered = omega (arith, kept.numbered);
        counted = omega (arith, kept.counted);
        left = rw (w.number-is, w.fields-is) (kept.left
            ∙ pass_next c.args.most c.loop-byte.number c.loop-byte.fields c.loop-byte.byte-index c.loop-byte.place c.step-next.result c.args.text.now here c.step-next.ensures w.in-EndRecord.is (omega arith));
      }
    ]

pub returns-then-not-ends_record : goal.returns-then-not-ends_record
returns-then-not-ends_record c =
    let past : length c.args.text.now ≤ c.loop-byte.byte-index = omega arith in
    sym (c.loop-byte.invariant.left
    ∙ pass_ends_between c.args.most c.loop-byte.number c.loop-byte.fields c.loop-byte.byte-index (state_of c.loop-byte.place) c.args.text.now past (sym c.ends_record.ensures ∙ c.if-not-ends_record.true))

pub returns-then-fields-most-2 : goal.returns-then-fields-most-2
returns-then-fields-most-2 c =
    let past : length c.args.text.now ≤ c.loop-byte.byte-index = omega arith in
    sym (c.loop-byte.invariant.left
    ∙ pass_ends_wide c.args.most c.loop-byte.number c.loop-byte.fields c.loop-byte.byte-index (state_of c.loop-byte.place) c.args.text.now past (sym c.ends_record.ensures ∙ c.if-not-ends_record.false) (omega arith))

pub returns : goal.returns
returns c =
    let past : length c.args.text.now ≤ c.loop-byte.byte-index = omega arith in
    sym (c.loop-byte.invariant.left
    ∙ pass_ends_narrow c.args.most c.loop-byte.number c.loop-byte.fields c.loop-byte.byte-index (state_of c.loop-byte.place) c.args.text.now past (omega arith))
