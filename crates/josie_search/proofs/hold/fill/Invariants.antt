use Rattle.std.proofs.Common.{◌≡◌, ◌≤◌, drop}
use Rattle.lake_model.specs.Answer.{Query}
use Rattle.search_model.specs.Looks.{Searched}
use Rattle.josie_search.specs.Candidates.{all_of, AreHeldBut}
use Rattle.josie_search.proofs.hold.fill.Given as goal

abbrev pub invariant-loop-column : goal.invariant-loop-column
invariant-loop-column l = record {
  held : (query : Query) (part : Searched) → AreHeldBut (drop l.column-index l.columns.touched) query part l.ranks l.columns.tallies l.columns.known l.left l.low (all_of l.candidates);
  low : l.candidates.low ≡ l.low;
  many : l.candidates.many ≤ l.column-index;
  room : l.candidates.room ≡ l.fn.candidates.room;
}
