use Rattle.std.proofs.Common.{arith}
use Rattle.lake_maker.proofs.NumberedLemmas.{pushed_is_numbered}
use Rattle.lake_maker.proofs.numbered.Numbered.push.Goals as goal

pub invariant_of-self-2 : goal.invariant_of-self-2
invariant_of-self-2 c = pushed_is_numbered _ _ _ _ c.self.invariant (omega arith) c.in_ok-push.ensures.items
