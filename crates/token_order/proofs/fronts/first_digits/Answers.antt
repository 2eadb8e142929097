use Rattle.std.proofs.Common.{arith}
use Rattle.token_order.proofs.FrontLemmas.{digits_fit, fifteen_digits, fifteen_small}
use Rattle.token_order.proofs.fronts.first_digits.Goals as goal

pub returns-clause-value : goal.returns-clause-value
returns-clause-value c =
    fifteen_digits c.args.bytes.now c.five_digits-first.result c.five_digits-second.result c.five_digits-third.result c.five_digits-first.ensures.value c.five_digits-second.ensures.value c.five_digits-third.ensures.value

pub returns-clause-small : goal.returns-clause-small
returns-clause-small c =
    digits_fit 15 _ (omega arith) (fifteen_small c.five_digits-first.result c.five_digits-second.result c.five_digits-third.result c.five_digits-first.ensures.small c.five_digits-second.ensures.small c.five_digits-third.ensures.small)
