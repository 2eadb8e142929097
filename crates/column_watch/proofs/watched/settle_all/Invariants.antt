use Rattle.std.proofs.Common.{◌≡◌, ◌<◌, ◌≤◌, ℕ, get_or, length, option_map}
use Rattle.column_watch.specs.Held.{Settles, StateOf}
use Rattle.column_watch.proofs.watched.settle_all.Given as goal

abbrev pub invariant-loop-query : goal.invariant-loop-query
invariant-loop-query l = record {
  len : length l.queries ≡ length l.initial.queries;
  done : (i : ℕ) (d : StateOf) → i < l.query-index → Settles (option_map (λ name. name.now) l.gone) (get_or l.initial.queries i d) (get_or l.queries i d);
  rest : (i : ℕ) (d : StateOf) → l.query-index ≤ i → get_or l.queries i d ≡ get_or l.initial.queries i d;
}
