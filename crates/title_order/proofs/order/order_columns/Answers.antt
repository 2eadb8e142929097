use Rattle.std.proofs.Common.{subst, List, ℕ}
use Rattle.search_model.specs.Segment.{segment}
use Rattle.title_order.proofs.PlaceLemmas.{places_inverse, segment_ranks}
use Rattle.title_order.proofs.order.order_columns.Goals as goal
use Rattle.token_order.specs.Counted.{ArePlaces}

pub returns-clause-ranks : goal.returns-clause-ranks
returns-clause-ranks c =
    let numbers = c.in_ok-by_rank.field-0.by_rank.items in
    let places = subst (λ (ns : List ℕ). ArePlaces ns c.in_ok-ranks.ranks.items) c.deref.ensures.value c.in_ok-ranks.ensures in
    segment_ranks c.args.tables.now numbers c.in_ok-ranks.ranks.items c.in_ok-by_rank.ensures.sorted c.in_ok-by_rank.ensures.long c.in_ok-by_rank.ensures.all places

pub returns-clause-inverse : goal.returns-clause-inverse
returns-clause-inverse c =
    let places = subst (λ (ns : List ℕ). ArePlaces ns c.in_ok-ranks.ranks.items) c.deref.ensures.value c.in_ok-ranks.ensures in
    places_inverse c.in_ok-by_rank.field-0.by_rank.items c.in_ok-ranks.ranks.items c.in_ok-by_rank.ensures.all places

pub returns-clause-strict : goal.returns-clause-strict
unfolding segment
returns-clause-strict c = c.in_ok-by_rank.ensures.strict
