use Rattle.std.proofs.Common.{◌≡◌, ◌≤◌, ◌+◌, ◌*◌, ◌^◌, ℕ, get_or, length, sum_by, take, vec_capacity}
use Rattle.search_model.specs.Choosers.{read_cost}
use Rattle.segment_core.specs.Versions.{segment_at}
use Rattle.josie_search.specs.Costs.{lengths_of}
use Rattle.josie_search.proofs.cost.sum_costs.Given as goal

abbrev pub invariant-loop-token : goal.invariant-loop-token
invariant-loop-token l = record {
  long : length l.sums.items ≡ l.token-index + 1;
  sums : (n : ℕ) → n ≤ l.token-index → get_or l.sums.items n 0 ≡ sum_by read_cost (take n (lengths_of (segment_at l.looks.version.parts l.part) l.tokens));
  sum : l.sum ≡ sum_by read_cost (take l.token-index (lengths_of (segment_at l.looks.version.parts l.part) l.tokens));
  small : l.sum ≤ l.token-index * 2 ^ 35;
  room : vec_capacity l.sums ≡ vec_capacity l.fn.sums;
}
