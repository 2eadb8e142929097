use Rattle.std.proofs.Common.{◌≡◌, ◌≤◌, ◌++◌, encode_utf8_all, string_bytes, take}
use Rattle.std.specs.String.{string_capacity}
use Rattle.value_key.proofs.push_all.Given as goal

abbrev pub invariant-loop-c : goal.invariant-loop-c
invariant-loop-c l =
    (string_capacity l.fn.into ≤ string_capacity l.into)
    × (string_bytes l.into ≡ string_bytes l.fn.into ++ encode_utf8_all (take l.c-index l.characters))
