use Rattle.std.proofs.Common.{ℕ, ◌<◌, ◌≤◌, get_or, length, Vec, Global}
use Rattle.josie_search.proofs.asked.greatest.Given as goal

abbrev pub invariant-loop-list : goal.invariant-loop-list
invariant-loop-list l = (k : ℕ) (none : Vec ℕ Global) (i d : ℕ) → k < l.list-index → i < length (get_or l.tokens k none).items → get_or (get_or l.tokens k none).items i d ≤ l.most
