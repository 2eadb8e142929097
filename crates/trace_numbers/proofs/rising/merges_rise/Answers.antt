use Rattle.std.proofs.Common.{sym, ◌∙◌}
use Rattle.trace_numbers.proofs.PassLemmas.{merge_falls, merge_rises}
use Rattle.trace_numbers.proofs.rising.merges_rise.Goals as goal

pub returns-then-not-one_more-clause-falls : goal.returns-then-not-one_more-clause-falls
returns-then-not-one_more-clause-falls c =
    λ _ merges lanes size. sym (c.loop-hint.invariant merges lanes size) ∙ merge_falls c.loop-hint.lows merges c.args.hints.now c.loop-hint.hint-index _ lanes size c.loop-hint-test.true (c.one_more.ensures.falls c.if-not-one_more.true)

pub loop-hint-preserved : goal.loop-hint-preserved
loop-hint-preserved c =
    λ merges lanes size. merge_rises c.loop-hint.lows c.one_more.new.lows merges c.args.hints.now c.loop-hint.hint-index _ lanes size c.loop-hint-test.true (c.one_more.ensures.rises c.if-not-one_more.false) ∙ c.loop-hint.invariant merges lanes size
