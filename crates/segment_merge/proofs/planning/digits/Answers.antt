use Rattle.std.proofs.Common.{arith}
use Rattle.segment_merge.proofs.DigitLemmas.{digits_by_zeros}
use Rattle.segment_merge.proofs.planning.digits.Goals as goal

pub returns : goal.returns
returns c = digits_by_zeros c.args.n (omega arith)
