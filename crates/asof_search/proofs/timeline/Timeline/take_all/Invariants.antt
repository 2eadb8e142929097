use Rattle.std.proofs.Common.{◌≡◌, ◌++◌, take}
use Rattle.asof_search.proofs.timeline.Timeline.take_all.Given as goal

abbrev pub invariant-loop-entry : goal.invariant-loop-entry
invariant-loop-entry l = l.self ≡ l.initial.self ++ take l.entry-index l.entries
