use Rattle.std.proofs.Common.{sym, ◌∙◌}
use Rattle.trace_groups.proofs.GroupLemmas.{not_cut_first}
use Rattle.trace_groups.proofs.TraceLemmas.{all_cut}
use Rattle.trace_groups.proofs.groups.cut_trace.Goals as goal

pub returns-then-begins_with_space-clause-none : goal.returns-then-begins_with_space-clause-none
returns-then-begins_with_space-clause-none c = not_cut_first c.args.trace.now (sym c.begins_with_space.ensures ∙ c.if-begins_with_space.true)

pub returns-clause-hints : goal.returns-clause-hints
returns-clause-hints c = (all_cut c.args.trace.now _ _ _ c.loop-rest.rest.now c.loop-rest.invariant (sym c.is_empty.ensures ∙ c.loop-rest-test.false)).0

pub returns-clause-texts : goal.returns-clause-texts
returns-clause-texts c = (all_cut c.args.trace.now _ _ _ c.loop-rest.rest.now c.loop-rest.invariant (sym c.is_empty.ensures ∙ c.loop-rest-test.false)).1
