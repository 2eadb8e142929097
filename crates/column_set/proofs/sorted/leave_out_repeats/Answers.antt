use Rattle.std.proofs.Common.{◌∙◌}
use Rattle.column_set.proofs.SortedLemmas.{each_marked, left_distinct}
use Rattle.column_set.proofs.sorted.leave_out_repeats.Goals as goal

pub leave_out-requires : goal.leave_out-requires
leave_out-requires c = each_marked c.args.texts.now c.args.from c.deref-2.result.now (c.deref-2.ensures.value ∙ c.in_ok-repeats.ensures) c.requires

pub returns-clause-left : goal.returns-clause-left
returns-clause-left c = left_distinct c.args.texts.now c.leave_out.new.self c.args.from c.deref-2.result.now (c.deref-2.ensures.value ∙ c.in_ok-repeats.ensures) c.leave_out.ensures
