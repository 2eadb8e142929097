use Rattle.std.proofs.Common.{◌≡◌, ◌<◌, ◌^◌}
use Rattle.list_laws.specs.Digits.{digits}
use Rattle.column_set.proofs.name.front_of.Given as goal

abbrev pub invariant-loop-i : goal.invariant-loop-i
invariant-loop-i l = record {
  value : l.front ≡ digits 129 l.i l.bytes;
  small : l.front < 129 ^ l.i;
}
