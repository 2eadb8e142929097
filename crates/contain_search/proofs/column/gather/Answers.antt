use Rattle.std.proofs.Common.{◌∙◌, ap, sym, ◌<◌, ◌++◌, ◌∷◌, [], Bool, List, ℕ, cond, length, get_or, arith}
use Rattle.contain_search.proofs.ReadLemmas.{passed_more}
use Rattle.contain_search.specs.Met.{may_still, met}
use Rattle.part_columns.proofs.TouchedLemmas.{item_seen, listed_within}
use Rattle.segment_core.specs.Versions.{part_at}
use Rattle.contain_search.proofs.column.gather.Goals as goal

pub consider-requires-clause-column : goal.consider-requires-clause-column
consider-requires-clause-column c =
    let is = c.touched-column-items.ensures.touched in
    let within : c.loop-column.column-index < length c.args.columns.now.touched = omega (arith, c.loop-column-test.true, ap length is) in
    let seen = item_seen c.args.columns.now.tallies c.args.columns.now.touched c.touched-column-items.ensures.listed c.loop-column.column-index 0 within in
    omega (arith, c.requires.seen _ seen, ap (λ (xs : List ℕ). get_or xs c.loop-column.column-index 0) is)

pub consider-requires-clause-tallies : goal.consider-requires-clause-tallies
consider-requires-clause-tallies c =
    let is = c.touched-column-items.ensures.touched in
    let within : c.loop-column.column-index < length c.args.columns.now.touched = omega (arith, c.loop-column-test.true, ap length is) in
    omega (arith, listed_within c.args.columns.now.tallies c.args.columns.now.touched c.touched-column-items.ensures.listed c.loop-column.column-index 0 within, ap (λ (xs : List ℕ). get_or xs c.loop-column.column-index 0) is)

pub loop-column-preserved : goal.loop-column-preserved
loop-column-preserved c =
    let columns = c.args.columns.now in
    let i = c.loop-column.column-index in
    let kept = c.loop-column.invariant in
    let is = c.touched-column-items.ensures.touched in
    let within : i < length columns.touched = omega (arith, c.loop-column-test.true, ap length is) in
    let may : ℕ → Bool = may_still c.args.least (met (part_at c.args.looks.now.version.parts c.args.part) []) columns.tallies c.args.left in
    record {
      found = c.consider.ensures.items ∙ (λ j. kept.found j ++ cond (may (get_or (is j) i 0)) (get_or (is j) i 0 ∷ []) []) ∙ sym (passed_more may columns.touched i 0 within);
      few = omega (arith, c.consider.ensures.len, kept.few);
      room = omega (arith, c.consider.ensures.room, kept.room);
    }
