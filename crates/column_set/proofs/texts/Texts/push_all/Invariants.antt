use Rattle.std.proofs.Common.{◌≡◌, ◌++◌, map, string_bytes, take}
use Rattle.column_set.proofs.texts.Texts.push_all.Given as goal

abbrev pub invariant-loop-string : goal.invariant-loop-string
invariant-loop-string l = l.self ≡ l.initial.self ++ map string_bytes (take l.string-index l.strings)
