use Rattle.std.proofs.Common.{◌≡◌, take}
use Rattle.catalogue.specs.Swaps.{numbers_in}
use Rattle.catalogue.proofs.swapping.planned_numbers.Given as goal

abbrev pub invariant-loop-number : goal.invariant-loop-number
invariant-loop-number l = l.numbers.items ≡ numbers_in (take l.number-index l.from)
