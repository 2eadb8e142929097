use Rattle.std.proofs.Common.{◌≡◌}
use Rattle.std.specs.Prelude.{count_by, not}
use Rattle.search_model.specs.Looks.{searched}
use Rattle.segment_core.specs.Versions.{part_at}
use Rattle.josie_search.specs.Candidates.{all_of, AreHeld}
use Rattle.josie_search.specs.Offers.{offers}
use Rattle.josie_search.specs.Rows.{lead_row}
use Rattle.josie_search.proofs.offer.offer_rest.Given as goal

abbrev pub invariant-loop : goal.invariant-loop
invariant-loop l = record {
  k : l.top.k ≡ l.fn.top.k;
  titled : l.top.titled ≡ l.fn.top.titled;
  tallies : l.columns.tallies ≡ l.fn.columns.tallies;
  touched : l.columns.touched ≡ l.fn.columns.touched;
  room : l.candidates.room ≡ l.fn.candidates.room;
  held : AreHeld l.query (searched l.query (part_at l.looks.version.parts l.part)) l.order.ranks.now l.columns.tallies l.columns.known 0 l.candidates.low (all_of l.candidates);
  rows : offers l.fn.top.k (lead_row l.query (searched l.query (part_at l.looks.version.parts l.part)) l.columns.tallies l.columns.known 0) l.top.rows l.columns.touched
      ≡ offers l.fn.top.k (lead_row l.query (searched l.query (part_at l.looks.version.parts l.part)) l.fn.columns.tallies l.fn.columns.known 0) l.fn.top.rows l.fn.columns.touched;
}

abbrev pub decreases-loop : goal.decreases-loop
decreases-loop l = count_by not l.columns.known
