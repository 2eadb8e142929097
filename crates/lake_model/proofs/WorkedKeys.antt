-- Keys of compatibility forms, computed: each decomposition is that of UnicodeData.txt, each folding that of CaseFolding.txt.
use Rattle.std.proofs.Common.{◌≡◌, refl, [], ◌∷◌, Some, None}
use Rattle.std.specs.Prelude.{codes}
use Rattle.std.specs.Str.{trim_start, trim_end, chars}
use lib.Utf8.{encode}
use Rattle.caseless.proofs.Computing.{caseless}
use Rattle.lake_model.specs.declared.Keys.TheVariants.{Canonical, Compatibility}
use Rattle.lake_model.specs.Keys.{key}
use Rattle.lake_model.specs.Records.{most_columns}
use Rattle.lake_model.specs.Texts.{Text}

-- U+2460, circled digit one
abbrev circled_one : Text
circled_one = 0xE2 ∷ 0x91 ∷ 0xA0 ∷ []

circled_digit : key Compatibility circled_one ≡ Some (codes "1")
unfolding caseless trim_start trim_end chars encode
circled_digit = refl

circled_digit_alone : key Canonical circled_one ≡ Some circled_one
unfolding caseless trim_start trim_end chars encode
circled_digit_alone = refl

-- U+FF21, fullwidth Latin capital letter A, with spaces at its ends
wide_letter : key Compatibility (0x20 ∷ 0xEF ∷ 0xBC ∷ 0xA1 ∷ 0x20 ∷ []) ≡ Some (codes "a")
unfolding caseless trim_start trim_end chars encode
wide_letter = refl

-- U+3392, square MHz, whose letters appear only once it is decomposed: they are folded after that
square_megahertz : key Compatibility (0xE3 ∷ 0x8E ∷ 0x92 ∷ []) ≡ Some (codes "mhz")
unfolding caseless trim_start trim_end chars encode
square_megahertz = refl

-- a no-break space
missing : key Compatibility (0xC2 ∷ 0xA0 ∷ []) ≡ None
unfolding caseless trim_start trim_end chars encode
missing = refl

wider : most_columns Compatibility ≡ 4096
wider = refl
