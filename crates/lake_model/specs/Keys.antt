-- The key of a value: two values are the same if both have the same key, or neither has one. Values are compared in one
-- of two ways (The Unicode Standard, section 3.13). Canonical caseless matching is D145: X matches Y if and only if
-- NFD(toCasefold(NFD(X))) = NFD(toCasefold(NFD(Y))). Compatibility caseless matching is D146: X matches Y if and only
-- if NFKD(toCasefold(NFKD(toCasefold(NFD(X))))) = NFKD(toCasefold(NFKD(toCasefold(NFD(Y))))). White space is the
-- property White_Space of the Unicode Character Database.
use Rattle.std.specs.Prelude.{ℕ, List, Option, Some, None, chars, encode_utf8_all, length, if◌then◌else◌, ◌==◌}
use Rattle.std.specs.Str.{trim}
use Rattle.caseless.specs.Caseless.{canonical_key, compatibility_key, IsCanonicalMatch, IsCompatibilityMatch}
use Rattle.lake_model.specs.declared.Keys.{Keys}
use Rattle.lake_model.specs.declared.Keys.TheVariants.{Canonical, Compatibility}
use Rattle.lake_model.specs.Texts.{Text}

-- the key of a list of code points
abbrev pub caseless_key : Keys → List ℕ → List ℕ
caseless_key Canonical characters = canonical_key characters
caseless_key Compatibility characters = compatibility_key characters

abbrev pub key_of_text : Keys → Text → Text
key_of_text keys text = encode_utf8_all (caseless_key keys (chars text))

-- the key of a value without the white space at its ends; a value of which nothing is left has none
abbrev pub key : Keys → Text → Option Text
key keys value = if length (trim value) == 0 then None else Some (key_of_text keys (trim value))

abbrev pub IsMatch : Keys → List ℕ → List ℕ → Type 0
IsMatch Canonical a b = IsCanonicalMatch a b
IsMatch Compatibility a b = IsCompatibilityMatch a b

-- the values match once the white space at their ends is removed
abbrev pub IsSameValue : Keys → Text → Text → Type 0
IsSameValue keys a b = IsMatch keys (chars (trim a)) (chars (trim b))
