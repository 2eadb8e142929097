use Rattle.std.proofs.Common.{◌≡◌, length, string_bytes, take}
use Rattle.std.specs.Prelude.{sum_by}
use Rattle.column_set.proofs.texts.byte_count.Given as goal

abbrev pub invariant-loop-string : goal.invariant-loop-string
invariant-loop-string l = l.count ≡ sum_by (λ string. length (string_bytes string)) (take l.string-index l.strings)
