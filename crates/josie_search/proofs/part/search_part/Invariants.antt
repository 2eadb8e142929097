use Rattle.std.proofs.Common.{◌≡◌, ◌≤◌, ◌+◌, ◌-◌, ℕ, length}
use Rattle.std.specs.Prelude.{IfSome}
use Rattle.search_model.specs.Looks.{searched}
use Rattle.segment_core.specs.Versions.{part_at, segment_at}
use Rattle.josie_search.specs.Candidates.{all_of, AreHeld}
use Rattle.josie_search.specs.Rows.{MayLead}
use Rattle.part_columns.specs.Room.{looks_bound, unprobed}
use Rattle.part_columns.specs.Tallies.{tally_at}
use Rattle.josie_search.proofs.GoingLemmas.{Going}
use Rattle.josie_search.proofs.part.search_part.Given as goal

abbrev pub invariant-loop-read : goal.invariant-loop-read
invariant-loop-read g l = record {
  lists : l.lists ≡ length l.tokens;
  version : l.looks.version ≡ l.fn.looks.version;
  going : Going (g.C.Chooser.says l.chooser) l.query (searched l.query (part_at l.fn.looks.version.parts l.part)) l.fn.top.rows l.fn.looks.log l.looks.log l.read l.columns.tallies l.columns.known l.top.rows;
  k : l.top.k ≡ l.fn.top.k;
  titled : l.top.titled ≡ l.fn.top.titled;
  most : (column : ℕ) → (tally_at l.columns.tallies column).count ≤ l.most;
  wide : length l.columns.tallies ≡ length l.fn.columns.tallies;
  within : l.read ≤ length l.tokens;
  held : AreHeld l.query (searched l.query (part_at l.fn.looks.version.parts l.part)) l.order.ranks.now l.columns.tallies l.columns.known (length l.tokens - l.read) l.candidates.low (all_of l.candidates);
  witness : IfSome l.witness (MayLead l.query (searched l.query (part_at l.fn.looks.version.parts l.part)));
  kept : l.candidates.room ≡ l.fn.candidates.room;
  room : (length l.tokens - l.read) + unprobed (segment_at l.fn.looks.version.parts l.part).sets l.tokens l.columns.known ≤ l.looks.spare;
  spent : l.fn.looks.spare + ((length l.tokens - l.read) + unprobed (segment_at l.fn.looks.version.parts l.part).sets l.tokens l.columns.known) ≤ l.looks.spare + looks_bound (part_at l.fn.looks.version.parts l.part) l.tokens;
}

abbrev pub decreases-loop-read : goal.decreases-loop-read
decreases-loop-read g l = (length l.tokens - l.read) + unprobed (segment_at l.fn.looks.version.parts l.part).sets l.tokens l.columns.known
