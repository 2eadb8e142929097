use Rattle.std.proofs.Common.{◌≡◌, ◌<◌, ◌≤◌, ℕ, get_or, length, option_map}
use Rattle.column_watch.specs.Held.{StateOf, ready, rows_put}
use Rattle.column_watch.proofs.watched.prepare_all.Given as goal

abbrev pub invariant-loop-w : goal.invariant-loop-w
invariant-loop-w l = record {
  len : length l.queries ≡ length l.initial.queries;
  done : (i : ℕ) (d : StateOf) → i < l.w → get_or l.queries i d ≡ ready (get_or l.initial.queries i d) (rows_put (get_or l.initial.queries i d).keys (option_map (λ table. table.now) l.table));
  rest : (i : ℕ) (d : StateOf) → l.w ≤ i → get_or l.queries i d ≡ get_or l.initial.queries i d;
}
