use Rattle.std.proofs.Common.{◌≡◌}
use Rattle.search_model.specs.Looks.{searched}
use Rattle.segment_core.specs.Versions.{part_at}
use Rattle.josie_search.specs.Candidates.{all_of, AreHeld}
use Rattle.josie_search.proofs.first.first_lead.Given as goal

abbrev pub invariant-loop-least : goal.invariant-loop-least
invariant-loop-least l = record {
  held : AreHeld l.query (searched l.query (part_at l.looks.version.parts l.part)) l.order.ranks.now l.columns.tallies l.columns.known l.left l.candidates.low (all_of l.candidates);
  room : l.candidates.room ≡ l.fn.candidates.room;
}

abbrev pub decreases-loop-least : goal.decreases-loop-least
decreases-loop-least l = l.least
