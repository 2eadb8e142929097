use Rattle.std.proofs.Common.{◌∷◌, map}
use Rattle.column_watch.proofs.IndexLemmas.{Merges}
use Rattle.column_watch.proofs.holders.merge_rest.Given as goal

abbrev pub invariant-loop-at : goal.invariant-loop-at
invariant-loop-at l = Merges (map (λ state. state.keys) l.queries) (l.fn.first ∷ l.rest) l.at-index l.index.items l.last
