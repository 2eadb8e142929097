-- The bytes of a name that need no escape.

use Rattle.std.specs.Prelude.{Bool, ℕ, ◌&&◌, ◌==◌, nat_le, not}

abbrev pub is_plain : ℕ → Bool
is_plain byte = nat_le 0x20 byte && not (byte == 0x7F) && not (byte == 0x22) && not (byte == 0x5C)
