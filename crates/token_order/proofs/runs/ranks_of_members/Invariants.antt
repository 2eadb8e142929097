use Rattle.token_order.specs.Ranked.{AreReplaced}
use Rattle.token_order.proofs.runs.ranks_of_members.Given as goal

abbrev pub invariant-loop-i : goal.invariant-loop-i
invariant-loop-i l = AreReplaced l.fn.numbers.items l.ranks l.numbers.items l.i
