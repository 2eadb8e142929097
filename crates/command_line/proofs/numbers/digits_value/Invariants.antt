use Rattle.std.proofs.Common.{◌≡◌, min, take}
use Rattle.script_model.specs.Words.{digits_value}
use Rattle.command_line.proofs.numbers.digits_value.Given as goal

abbrev pub invariant-loop-digit : goal.invariant-loop-digit
invariant-loop-digit l = l.value ≡ min (digits_value (take l.digit-index l.digits)) 4294967296
