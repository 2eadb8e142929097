use Rattle.std.proofs.Common.{◌∙◌, ◌<◌, ◌+◌, drop, map, length, arith}
use Rattle.search_model.specs.declared.Posting.{Posting}
use Rattle.josie_search.specs.Candidates.{all_of}
use Rattle.josie_search.proofs.HeldLemmas.{first_slot, held_entered}
use Rattle.josie_search.proofs.hold.enter_list.Goals as goal

pub loop-posting-preserved : goal.loop-posting-preserved
loop-posting-preserved c =
    let columns = c.args.columns.now in
    let i = c.loop-posting.posting-index in
    let kept = c.loop-posting.invariant in
    let list = c.args.list.now in
    let slot = λ (p : Posting). p.column in
    let within : i < length list = c.loop-posting-test.true in
    record {
      held = λ query part before. held_entered query part c.args.ranks.now columns.tallies columns.known c.args.left c.args.candidates.now.low c.loop-posting.candidates.low _ (map slot (drop i list)) (map slot (drop (i + 1) list)) (all_of c.loop-posting.candidates) (all_of c.enter.new.candidates)
          (first_slot slot list i _ within) kept.low (kept.held query part before) c.enter.ensures.goes c.enter.ensures.stays;
      low = c.enter.ensures.low ∙ kept.low;
      many = omega (arith, c.enter.ensures.many, kept.many);
      room = c.enter.ensures.room ∙ kept.room;
    }
