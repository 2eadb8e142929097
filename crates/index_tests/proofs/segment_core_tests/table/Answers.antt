use Rattle.std.proofs.Common.{◌∙◌}
use Rattle.index_tests.proofs.WorkedSegment.{is_worked}
use Rattle.index_tests.proofs.segment_core_tests.table.Goals as goal

pub returns : goal.returns
returns c =
    c.in_ok-new.ensures ∙ is_worked c.in_ok-sets.sets c.in_ok-expect_name.ensures c.in_ok-expect_two.ensures c.in_ok-expect_p.ensures c.in_ok-expect_q.ensures c.in_ok-expect_first.ensures c.in_ok-expect_second.ensures
