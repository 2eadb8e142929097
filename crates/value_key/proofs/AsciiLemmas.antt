-- The key of an ASCII text, of either kind, is the text in small letters.
use Rattle.std.proofs.Common.{◌≡◌, ◌<◌, All, ap, ◌∙◌, ℕ, List, map, drop, encode_utf8_all}
use Rattle.std.specs.Prelude.{chars, IsAscii}
use Rattle.std.specs.Str.{IsTrim}
use Rattle.std.specs.Char.{to_ascii_lowercase}
use Rattle.std.proofs.lemmas.Str.{chars-IsAscii, IsAscii-take, IsAscii-drop}
use Rattle.std.proofs.lemmas.Str.Ascii.{encodes-IsAscii, IsAscii-map, lowercase_ascii}
use Rattle.caseless.proofs.CaselessLemmas.{canonical_key-ascii, compatibility_key-ascii, default_case_fold-ascii, All-chars}
use Rattle.caseless.specs.Caseless.{default_case_fold}
use Rattle.lake_model.specs.declared.Keys.{Keys}
use Rattle.lake_model.specs.declared.Keys.TheVariants.{Canonical, Compatibility}
use Rattle.lake_model.specs.Keys.{caseless_key, key_of_text}

caseless_key-ascii : (keys : Keys) (cs : List ℕ) → All (λ c. c < 128) cs → caseless_key keys cs ≡ default_case_fold cs
caseless_key-ascii Canonical cs all = canonical_key-ascii cs all
caseless_key-ascii Compatibility cs all = compatibility_key-ascii cs all

pub key_of_text-ascii : (keys : Keys) (bytes : List ℕ) → IsAscii bytes → key_of_text keys bytes ≡ map to_ascii_lowercase bytes
key_of_text-ascii keys bytes h =
    let all = All-chars bytes h in
    ap encode_utf8_all (caseless_key-ascii keys (chars bytes) all ∙ default_case_fold-ascii (chars bytes) all ∙ ap (map to_ascii_lowercase) (chars-IsAscii bytes h))
    ∙ encodes-IsAscii (map to_ascii_lowercase bytes) (IsAscii-map to_ascii_lowercase bytes lowercase_ascii h)

pub IsAscii-trim : (bytes rest : List ℕ) → IsAscii bytes → IsTrim bytes rest → IsAscii rest
IsAscii-trim bytes rest h t = rw t.2 (IsAscii-take (drop t.0 bytes) t.1 (IsAscii-drop bytes t.0 h))
