use Rattle.std.proofs.Common.{◌∙◌, arith, sym}
use Rattle.column_set.proofs.SortedLemmas.{all_distinct, each_marked, left_distinct, on_ok}
use Rattle.column_set.proofs.sorted.sorted_distinct.Goals as goal

pub returns-then-not-has_mark-clause-left : goal.returns-then-not-has_mark-clause-left
returns-then-not-has_mark-clause-left c = all_distinct c.args.texts.now c.deref-2.result.now (c.deref-2.ensures.value ∙ c.in_ok-repeats.ensures) (sym c.has_mark.ensures ∙ c.if-not-has_mark.true)

pub leave_out-requires : goal.leave_out-requires
leave_out-requires c = each_marked c.args.texts.now 0 c.deref-3.result.now (c.deref-3.ensures.value ∙ c.in_ok-repeats.ensures) (omega arith)

pub returns-clause-left : goal.returns-clause-left
returns-clause-left c = on_ok c.hash_order-2.result (left_distinct c.args.texts.now c.leave_out.new.self 0 c.deref-3.result.now (c.deref-3.ensures.value ∙ c.in_ok-repeats.ensures) c.leave_out.ensures)
