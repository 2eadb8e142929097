use Rattle.std.proofs.Common.{◌≡◌, ◌++◌, flat_map, take}
use Rattle.record_model.specs.Texts.{escaped_byte}
use Rattle.reply_text.proofs.quoted.push_each_escaped.Given as goal

abbrev pub invariant-loop-byte : goal.invariant-loop-byte
invariant-loop-byte l = l.into.items ≡ l.initial.into.items ++ flat_map escaped_byte (take l.byte-index l.name)
