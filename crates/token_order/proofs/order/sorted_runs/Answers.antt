use Rattle.std.proofs.Common.{rules}
use Rattle.std.proofs.lemmas.List.Sorted.{IsNonDecreasingBy-from_sort_by}
use Rattle.token_order.specs.Runs.{run_number}
use Rattle.token_order.proofs.order.sorted_runs.Goals as goal

pub returns-clause-rising : goal.returns-clause-rising
returns-clause-rising c = IsNonDecreasingBy-from_sort_by run_number c.sort_unstable_by.new.self.items c.sort_unstable_by.ensures.sorted (λ a r f' k. search rules)
