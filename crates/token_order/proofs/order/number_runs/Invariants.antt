use Rattle.std.proofs.Common.{◌≡◌, get_or, length, take}
use Rattle.std.specs.List.{All}
use Rattle.token_order.proofs.OrderLemmas.{IsSlot}
use Rattle.token_order.proofs.order.number_runs.Given as goal

abbrev pub invariant-loop-number : goal.invariant-loop-number
invariant-loop-number l = record {
  long : length l.numbers ≡ length l.fn.numbers;
  written : All (λ r. IsSlot l.runs r.rank (get_or l.numbers r.rank 0)) (take l.number l.runs);
}
