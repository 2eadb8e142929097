use Rattle.std.proofs.Common.{◌≡◌, take}
use Rattle.trace_laws.specs.Reading.{read_number}
use Rattle.trace_hints.proofs.hint.read_number.Given as goal

abbrev pub invariant-loop-digit : goal.invariant-loop-digit
invariant-loop-digit l = l.value ≡ read_number (take l.digit-index l.word)
