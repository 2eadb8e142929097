use Rattle.std.proofs.Common.{◌<◌, [], IfNone, None, Option, Some, ap, arith, length, ℕ}
use Rattle.std.proofs.lemmas.List.Sums.{sum_by_more_le}
use Rattle.column_set.proofs.texts.Texts.byte_count.Goals as goal

at_none : {P : Type 0} (r : Option ℕ) → P → IfNone r P
at_none None p = p
at_none (Some x) p = tt

pub returns-in_err-count-clause-too_many : goal.returns-in_err-count-clause-too_many
returns-in_err-count-clause-too_many c =
    let within : c.loop-i.i < length c.args.self.now = omega (arith, c.len-i-end.ensures.value) in
    let more = sum_by_more_le length c.args.self.now c.loop-i.i [] within in
    at_none c.from_residual.result (omega (arith, more, c.loop-i.invariant, ap length c.text.ensures, c.in_err-count.ensures))
