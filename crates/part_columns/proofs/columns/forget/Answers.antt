use Rattle.std.proofs.Common.{refl, ap, ◌∙◌, ℕ, ◌<◌, List, false, get_or, length, arith}
use Rattle.std.proofs.Math.ListN.{length-set}
use Rattle.std.proofs.lemmas.List.{drop_all}
use Rattle.lake_model.specs.Layout.{is_among}
use Rattle.part_columns.specs.Tallies.{no_tally}
use Rattle.part_columns.proofs.TouchedLemmas.{forgotten_more}
use Rattle.part_columns.proofs.columns.forget.Goals as goal

pub loop-column-init : goal.loop-column-init
loop-column-init c = record {
  wide = refl;
  marks = c.requires.marks;
  forgotten = λ x h. (c.requires.others x h, c.requires.unknown x h);
}

pub loop-column-preserved : goal.loop-column-preserved
loop-column-preserved c =
    let kept = c.loop-column.invariant in
    let i = c.loop-column.column-index in
    let x = get_or c.args.touched.now i 0 in
    let within : x < length c.loop-column.tallies = (let w = c.requires.within i 0 c.loop-column-test.true in omega (arith, w, kept.wide)) in
    record {
      wide = length-set c.loop-column.tallies x no_tally ∙ kept.wide;
      marks = length-set c.loop-column.known x false ∙ kept.marks;
      forgotten = forgotten_more c.loop-column.tallies c.args.touched.now c.loop-column.known i 0 x kept.forgotten c.loop-column-test.true refl within (omega (arith, within, kept.wide, kept.marks));
    }

pub returns : goal.returns
returns c =
    let none = λ (x : ℕ). ap (λ (xs : List ℕ). is_among xs x) (drop_all c.loop-column.column-index c.args.touched.now c.loop-column-test.false) in
    record {
      tallies = λ x. (c.loop-column.invariant.forgotten x (none x)).0;
      known = λ x. (c.loop-column.invariant.forgotten x (none x)).1;
    }
