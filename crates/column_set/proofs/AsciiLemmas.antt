-- A name is ASCII, so it is a text.
use Rattle.std.proofs.Common.{◌≡◌, ℕ, zero, suc, ◌<◌, List, [], ◌∷◌, Bool, true, ◌&&◌, length, arith}
use Rattle.std.specs.Prelude.{nat_le}
use Rattle.std.specs.List.{list_all}
use Rattle.std.specs.Str.{IsAscii, IsUtf8}
use Rattle.std.proofs.lemmas.Bool.Decides.{nat_tests}
use Rattle.std.proofs.lemmas.Str.{IsUtf8-from_ascii}
use Rattle.std.proofs.lemmas.Bool.{and_parts}
use Rattle.lake_model.specs.Texts.{Text}
use Rattle.lake_model.specs.Tables.{is_name}

abbrev pub is_printable : ℕ → Bool
is_printable byte = nat_le 0x21 byte && nat_le byte 0x7E

pub printable_ascii : (byte : ℕ) → is_printable byte ≡ true → byte < 128
printable_ascii byte h = let e = (and_parts (nat_le 0x21 byte) (nat_le byte 0x7E) h).1 in grind (arith, nat_tests)

all_ascii : (bytes : List ℕ) → list_all is_printable bytes ≡ true → IsAscii bytes
all_ascii [] h i = omega arith
all_ascii (byte ∷ bytes) h zero = printable_ascii byte (and_parts (is_printable byte) (list_all is_printable bytes) h).0
all_ascii (byte ∷ bytes) h (suc i) = all_ascii bytes (and_parts (is_printable byte) (list_all is_printable bytes) h).1 i

pub name_is_text : (name : Text) → is_name name ≡ true → IsUtf8 name
name_is_text name h = IsUtf8-from_ascii name (all_ascii name (and_parts (nat_le 1 (length name) && nat_le (length name) 255) (list_all is_printable name) h).1)
