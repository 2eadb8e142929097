use Rattle.trace_numbers.proofs.OrderLemmas.{turns_more, turns_up}
use Rattle.trace_numbers.proofs.order.turns_of.Goals as goal

pub loop-index-preserved : goal.loop-index-preserved
loop-index-preserved c =
    turns_more c.args.hints.now c.loop-index.index _ c.made_at.result c.adds.result c.loop-index.turns.items c.push.new.self.items c.loop-index-test.true c.loop-index.invariant c.made_at.ensures c.adds.ensures c.in_ok-push.ensures.items

pub returns-clause-positions : goal.returns-clause-positions
returns-clause-positions c = turns_up c.sort_turns.new.turns.items c.sort_turns.ensures.sorted
