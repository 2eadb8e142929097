use Rattle.std.proofs.Common.{◌≡◌}
use Rattle.search_model.specs.Looks.{searched}
use Rattle.segment_core.specs.Versions.{part_at}
use Rattle.josie_search.specs.Candidates.{all_of, AreHeld, weight}
use Rattle.josie_search.proofs.first.lead_from.Given as goal

abbrev pub invariant-loop-top : goal.invariant-loop-top
invariant-loop-top l = record {
  held : AreHeld l.query (searched l.query (part_at l.looks.version.parts l.part)) l.order.ranks.now l.columns.tallies l.columns.known l.left l.low (all_of l.candidates);
  low : l.candidates.low ≡ l.low;
  room : l.candidates.room ≡ l.fn.candidates.room;
}

abbrev pub decreases-loop-top : goal.decreases-loop-top
decreases-loop-top l = weight l.left (all_of l.candidates)
