use Rattle.std.proofs.Common.{◌∙◌, ap, sym, ◌<◌, ◌+◌, ◌∷◌, List, ℕ, drop, get_or, length, arith}
use Rattle.josie_search.specs.Candidates.{all_of}
use Rattle.josie_search.proofs.HeldLemmas.{first_left, held_entered, held_unseen}
use Rattle.part_columns.proofs.TouchedLemmas.{item_seen, listed_within, unlisted_none}
use Rattle.josie_search.proofs.hold.fill.Goals as goal

pub loop-column-init : goal.loop-column-init
loop-column-init c =
    let columns = c.args.columns.now in
    record {
      held = λ query part. held_unseen query part c.args.ranks.now columns.tallies columns.known c.args.left c.args.low columns.touched (all_of c.clear.new.self) (λ x out. unlisted_none columns.tallies columns.touched x c.touched-column-items.ensures.listed out);
      low = c.clear.ensures.low;
      many = omega (arith, c.clear.ensures.many);
      room = c.clear.ensures.room;
    }

pub enter-requires-clause-column : goal.enter-requires-clause-column
enter-requires-clause-column c =
    let is = c.touched-column-items.ensures.touched in
    let within : c.loop-column.column-index < length c.args.columns.now.touched = omega (arith, c.loop-column-test.true, ap length is) in
    omega (arith, listed_within c.args.columns.now.tallies c.args.columns.now.touched c.touched-column-items.ensures.listed c.loop-column.column-index 0 within, ap (λ (xs : List ℕ). get_or xs c.loop-column.column-index 0) is)

pub enter-requires-clause-ranked : goal.enter-requires-clause-ranked
enter-requires-clause-ranked c =
    let is = c.touched-column-items.ensures.touched in
    let within : c.loop-column.column-index < length c.args.columns.now.touched = omega (arith, c.loop-column-test.true, ap length is) in
    let seen = item_seen c.args.columns.now.tallies c.args.columns.now.touched c.touched-column-items.ensures.listed c.loop-column.column-index 0 within in
    omega (arith, c.requires.ranked _ seen, ap (λ (xs : List ℕ). get_or xs c.loop-column.column-index 0) is)

pub loop-column-preserved : goal.loop-column-preserved
loop-column-preserved c =
    let columns = c.args.columns.now in
    let i = c.loop-column.column-index in
    let kept = c.loop-column.invariant in
    let is = c.touched-column-items.ensures.touched in
    let within : i < length columns.touched = omega (arith, c.loop-column-test.true, ap length is) in
    let x = get_or c.touched-column-items.result.now i 0 in
    let front = first_left columns.touched i 0 within ∙ (λ j. get_or (sym is j) i 0 ∷ drop (i + 1) columns.touched) in
    record {
      held = λ query part. held_entered query part c.args.ranks.now columns.tallies columns.known c.args.left c.args.low c.loop-column.candidates.low x (drop i columns.touched) (drop (i + 1) columns.touched) (all_of c.loop-column.candidates) (all_of c.enter.new.candidates)
          front kept.low (kept.held query part) c.enter.ensures.goes c.enter.ensures.stays;
      low = c.enter.ensures.low ∙ kept.low;
      many = omega (arith, c.enter.ensures.many, kept.many);
      room = c.enter.ensures.room ∙ kept.room;
    }
