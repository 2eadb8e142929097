use Rattle.std.proofs.Common.{arith}
use Rattle.std.proofs.lemmas.List.{take_more}
use Rattle.value_key.proofs.FoldLemmas.{writes_more}
use Rattle.value_key.proofs.push_all.Goals as goal

pub loop-c-preserved : goal.loop-c-preserved
loop-c-preserved c = (
  omega (arith, c.loop-c.invariant.0, c.in_ok-push.ensures.capacity),
  writes_more _ _ _ _ _ _ c.loop-c.invariant.1 c.in_ok-push.ensures.bytes (rw c.c-item.is (take_more c.args.characters.now c.loop-c.c-index _ c.loop-c-test.true)),
)
