use Rattle.std.proofs.Common.{arith, lit<}
use Rattle.index_tests.proofs.segment_core_tests.found.Goals as goal

pub find-requires : goal.find-requires
find-requires c = rw c.requires (record { rise = λ k l. absurd (omega arith); full = (lit< tt, tt); few = lit< tt })
