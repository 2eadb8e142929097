use Rattle.std.proofs.Common.{◌≡◌, ◌<◌, ◌^◌, drop}
use Rattle.list_laws.specs.Digits.{digits}
use Rattle.token_order.proofs.fronts.five_digits.Given as goal

abbrev pub invariant-loop-i : goal.invariant-loop-i
invariant-loop-i l = record {
  value : l.digits ≡ digits 257 l.i (drop l.from l.bytes);
  small : l.digits < 257 ^ l.i;
}
