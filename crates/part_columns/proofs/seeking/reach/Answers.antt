use Rattle.std.proofs.Common.{arith}
use Rattle.segment_core.proofs.PositionLemmas.{rise_far}
use Rattle.part_columns.proofs.seeking.reach.Goals.{then-loop-count-test+else-tokens-count, else-loop-count-test}
use Rattle.part_columns.proofs.seeking.reach.Goals as goal

pub returns-clause-behind : goal.returns-clause-behind
returns-clause-behind c = λ i h l. elim c.loop-count-test.branch [
  | then-loop-count-test+else-tokens-count w ↦
      let n = w.loop-count-test.true in
      let above = w.if-tokens-count.false in
      omega (arith, above, rise_far c.args.tokens.now c.loop-count.count i c.requires (omega (arith, h, n, c.min.ensures)) l)
  | else-loop-count-test w ↦ let all = w.loop-count-test.false in omega (arith, h, l, all, c.min.ensures)
]
