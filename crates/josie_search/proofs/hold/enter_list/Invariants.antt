use Rattle.std.proofs.Common.{◌≡◌, ◌≤◌, ◌+◌, drop, map}
use Rattle.lake_model.specs.Answer.{Query}
use Rattle.search_model.specs.Looks.{Searched}
use Rattle.josie_search.specs.Candidates.{all_of, AreHeldBut}
use Rattle.josie_search.proofs.hold.enter_list.Given as goal

abbrev pub invariant-loop-posting : goal.invariant-loop-posting
invariant-loop-posting l = record {
  held : (query : Query) (part : Searched) → AreHeldBut (map (λ posting. posting.column) l.list) query part l.ranks l.columns.tallies l.columns.known l.left l.fn.candidates.low (all_of l.fn.candidates)
      → AreHeldBut (map (λ posting. posting.column) (drop l.posting-index l.list)) query part l.ranks l.columns.tallies l.columns.known l.left l.fn.candidates.low (all_of l.candidates);
  low : l.candidates.low ≡ l.fn.candidates.low;
  many : l.candidates.many ≤ l.fn.candidates.many + l.posting-index;
  room : l.candidates.room ≡ l.fn.candidates.room;
}
