use Rattle.std.proofs.Common.{◌≡◌, length, map}
use Rattle.trace_hints.specs.Told.{hint_as}
use Rattle.trace_numbers.specs.Positions.{accepted_of}
use Rattle.trace_numbers.specs.Slots.{ArePut}
use Rattle.trace_numbers.proofs.owners.put_all.Given as goal

abbrev pub invariant-loop-index : goal.invariant-loop-index
invariant-loop-index l = record {
  put : ArePut (map hint_as l.hints) l.index l.owners;
  long : length l.owners ≡ accepted_of (map hint_as l.hints);
}
