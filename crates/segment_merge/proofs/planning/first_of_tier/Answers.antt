use Rattle.std.proofs.Common.{◌∙◌, sym, arith}
use Rattle.segment_merge.proofs.PlannedLemmas.{first_found, first_more}
use Rattle.segment_merge.proofs.planning.first_of_tier.Goals as goal

pub returns-then-begins_run-clause-within : goal.returns-then-begins_run-clause-within
returns-then-begins_run-clause-within c = (first_found c.args.pin.now.parts c.loop-part.part (sym c.begins_run.ensures ∙ c.if-begins_run.true) c.loop-part.invariant).0

pub returns-then-begins_run-clause-run : goal.returns-then-begins_run-clause-run
returns-then-begins_run-clause-run c = (first_found c.args.pin.now.parts c.loop-part.part (sym c.begins_run.ensures ∙ c.if-begins_run.true) c.loop-part.invariant).1

pub loop-part-preserved : goal.loop-part-preserved
loop-part-preserved c = first_more c.args.pin.now.parts c.loop-part.part (omega arith) (sym c.begins_run.ensures ∙ c.if-begins_run.false) c.loop-part.invariant
