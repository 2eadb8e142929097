use Rattle.std.proofs.Common.{length}
use Rattle.trace_groups.proofs.GroupLemmas.{HasBegun}
use Rattle.trace_groups.proofs.groups.split_group.Given as goal

abbrev pub invariant-loop-behind : goal.invariant-loop-behind
invariant-loop-behind l = HasBegun l.text l.behind

abbrev pub decreases-loop-behind : goal.decreases-loop-behind
decreases-loop-behind l = length l.behind
