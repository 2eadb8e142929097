use Rattle.std.proofs.Common.{◌≡◌, [], ◌∙◌, sym, subst, ℕ, length, arith}
use Rattle.search_model.specs.Looks.{searched}
use Rattle.segment_core.proofs.SegmentLemmas.{length-sets}
use Rattle.segment_core.specs.Versions.{part_at, segment_at, tables_of}
use Rattle.josie_search.specs.Candidates.{all_of, IsOfRank}
use Rattle.josie_search.specs.Rows.{row_of_lead}
use Rattle.josie_search.proofs.HeldLemmas.{held_from}
use Rattle.josie_search.proofs.LeadLemmas.{first_exact, none_so_high}
use Rattle.josie_search.proofs.LoopLemmas.{lead_parts}
use Rattle.josie_search.proofs.first.lead_from.Goals as goal

pub reach-requires-clause-ranked : goal.reach-requires-clause-ranked
reach-requires-clause-ranked c = λ x some. omega (arith, c.requires.seen x some, length-sets (tables_of (part_at c.args.looks.now.version.parts c.args.part)), c.requires.ranks.size)

pub loop-top-init : goal.loop-top-init
loop-top-init c = record {
  held = c.reach.ensures.held c.args.query.now (searched c.args.query.now (part_at c.args.looks.now.version.parts c.args.part)) c.requires.held;
  low = c.reach.ensures.low;
  room = c.reach.ensures.room;
}

pub returns-then-most_now-from-clause-found : goal.returns-then-most_now-from-clause-found
returns-then-most_now-from-clause-found c =
    let query = c.args.query.now in
    let part = searched query (part_at c.args.looks.now.version.parts c.args.part) in
    let columns = c.args.columns.now in
    none_so_high query part c.args.order.ranks.now columns.tallies columns.known c.args.left c.args.low (all_of c.loop-top.candidates) c.loop-top.invariant.held c.in-Some.top c.in-Some.ensures.ahead _ (omega (arith, c.if-most_now-from.true, c.most_now.ensures, c.from.ensures))

pub returns-in-Some-exact_lead-clause-found : goal.returns-in-Some-exact_lead-clause-found
returns-in-Some-exact_lead-clause-found c =
    let query = c.args.query.now in
    let whole = part_at c.args.looks.now.version.parts c.args.part in
    let part = searched query whole in
    let columns = c.args.columns.now in
    let of_rank = subst (λ (n : ℕ). IsOfRank n c.args.order.ranks.now c.in-Some.top.rank c.ranked-column.result) (c.requires.ranks.size ∙ sym (length-sets (tables_of whole))) c.ranked-column.ensures.column in
    first_exact query part c.args.order.ranks.now columns.tallies columns.known c.args.left c.args.low (all_of c.loop-top.candidates) c.loop-top.invariant.held c.in-Some.top c.in-Some.ensures.ahead
    (length (segment_at c.args.looks.now.version.parts c.args.part).sets) c.in-Some-exact_lead.lead.column c.ranked-column.result (row_of_lead (segment_at c.args.looks.now.version.parts c.args.part).columns c.in-Some-exact_lead.lead) (length-sets (tables_of whole)) c.requires.ranks
    (omega (arith, c.if-most_now-from.false, c.most_now.ensures, c.from.ensures)) of_rank c.in-Some-exact_lead.ensures
    (λ y lead. c.requires.seen y (lead_parts query part columns.tallies columns.known y lead).2)

pub loop-top-preserved : goal.loop-top-preserved
loop-top-preserved c =
    let query = c.args.query.now in
    let whole = part_at c.args.looks.now.version.parts c.args.part in
    let part = searched query whole in
    let columns = c.args.columns.now in
    let kept = c.loop-top.invariant in
    let sets = length (segment_at c.args.looks.now.version.parts c.args.part).sets in
    let same : sets ≡ length part.segment.columns = length-sets (tables_of whole) in
    let of_rank = subst (λ (n : ℕ). IsOfRank n c.args.order.ranks.now c.in-Some.top.rank c.ranked-column.result) (c.requires.ranks.size ∙ sym (length-sets (tables_of whole))) c.ranked-column.ensures.column in
    let before = held_from query part c.args.order.ranks.now columns.tallies columns.known c.args.left c.args.low c.loop-top.candidates.low [] (all_of c.loop-top.candidates) (omega (arith, kept.low)) kept.held in
    let after = c.mend.ensures.held query part c.args.order.ranks.now sets (λ x y h k e. c.requires.ranks.apart x y (omega (arith, h, same)) (omega (arith, k, same)) e) (λ y lead. c.requires.seen y (lead_parts query part columns.tallies columns.known y lead).2) of_rank c.in-None.ensures before in
    record {
      held = held_from query part c.args.order.ranks.now columns.tallies columns.known c.args.left c.mend.new.candidates.low c.args.low [] (all_of c.mend.new.candidates) (omega (arith, kept.low, c.mend.ensures.low)) after;
      low = c.mend.ensures.low ∙ kept.low;
      room = c.mend.ensures.room ∙ kept.room;
    }

pub ranked-column-requires-clause-below : goal.ranked-column-requires-clause-below
ranked-column-requires-clause-below c = λ x h. omega (arith, c.requires.ranks.below x (omega (arith, h, c.requires.ranks.size)), c.requires.ranks.size)

pub exact_lead-requires-clause-column : goal.exact_lead-requires-clause-column
exact_lead-requires-clause-column c = λ x e. omega (arith, c.ranked-column.ensures.within x e, c.requires.ranks.size, length-sets (tables_of (part_at c.args.looks.now.version.parts c.args.part)))

pub mend-requires-clause-within : goal.mend-requires-clause-within
mend-requires-clause-within c = λ x e. omega (arith, c.ranked-column.ensures.within x e, c.requires.ranks.size, length-sets (tables_of (part_at c.args.looks.now.version.parts c.args.part)), c.requires.wide)
