use Rattle.segment_core.specs.Hashes.{IsSplitIn}
use Rattle.segment_core.proofs.hashes.count_lower.Given as goal

abbrev pub invariant-loop-entry : goal.invariant-loop-entry
invariant-loop-entry l = IsSplitIn l.entry-index l.entries l.hash l.lower
