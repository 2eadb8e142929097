-- Two values match exactly where they have one key, or none, of either kind.
use Rattle.std.proofs.Common.{◌≡◌, refl, ap, sym, ◌∙◌, ℕ, ◌<◌, List, [], ◌∷◌, length, arith, Bool, true, false, cond, Option, Some, None, length-append, ◌==◌, encode_utf8_all}
use Rattle.std.specs.Prelude.{chars, IsUtf8, ◌↔◌}
use Rattle.std.specs.List.{flat_map}
use Rattle.std.proofs.lemmas.Str.{encodes_same, encodes-chars, chars-nil}
use Rattle.std.proofs.lemmas.Bool.Decides.{nat_tests}
use Rattle.ucd_case.specs.CaseFolding.{full_fold, full_folding}
use Rattle.ucd_case.specs.CaseFolding as folding
use Rattle.ucd_normal.specs.Decomposition.{or_itself}
use Rattle.ucd_normal.specs.declared.forms.Form.TheVariants.{Nfd, Nfkd}
use Rattle.unicode_normalization.specs.Decompose.{decompose}
use Rattle.unicode_normalization.specs.Hangul.{is_syllable, decompose_hangul}
use Rattle.unicode_normalization.specs.Forms.{Form, nfd, nfkd, normalize, decomposed}
use Rattle.unicode_normalization.specs.Order.{canonical_order}
use Rattle.unicode_normalization.proofs.OrderLemmas.{length-canonical_order}
use Rattle.caseless.specs.Caseless.{default_case_fold}
use Rattle.lake_model.specs.declared.Keys.{Keys}
use Rattle.lake_model.specs.declared.Keys.TheVariants.{Canonical, Compatibility}
use Rattle.lake_model.specs.Keys.{IsMatch, caseless_key, key_of_text}

flat_map_some : {X A : Type 0} (f : X → List A) (xs : List X) → ((x : X) → 0 < length (f x)) → 0 < length xs → 0 < length (flat_map f xs)
flat_map_some f [] some h = h
flat_map_some f (x ∷ xs) some h = omega (arith, some x, length-append (f x) (flat_map f xs))

folded_some : (c : ℕ) (table : List ℕ) → 0 < length (folding.or_itself c table)
folded_some c [] = omega arith
folded_some c (x ∷ xs) = omega arith

full_fold_some : (c : ℕ) → 0 < length (full_fold c)
full_fold_some c = folded_some c (full_folding c)

decomposed_some : (c : ℕ) (table : List ℕ) → 0 < length (or_itself c table)
decomposed_some c [] = omega arith
decomposed_some c (x ∷ xs) = omega arith

two_or_three : (b : Bool) (l v t : ℕ) → 0 < length (cond b (l ∷ v ∷ []) (l ∷ v ∷ t ∷ []))
two_or_three true l v t = omega arith
two_or_three false l v t = omega arith

hangul_some : (c : ℕ) → 0 < length (decompose_hangul c)
unfolding decompose_hangul
hangul_some c = two_or_three _ _ _ _

either_some : (b : Bool) (xs ys : List ℕ) → 0 < length xs → 0 < length ys → 0 < length (cond b xs ys)
either_some true xs ys h k = h
either_some false xs ys h k = k

decompose_some : (form : Form) (c : ℕ) → 0 < length (decompose form c)
unfolding decompose
decompose_some form c = either_some (is_syllable c) (decompose_hangul c) _ (hangul_some c) (decomposed_some c _)

order_some : (form : Form) (cs : List ℕ) → 0 < length cs → 0 < length (decomposed form cs)
unfolding decomposed
order_some form cs h = omega (arith, length-canonical_order (flat_map (decompose form) cs), flat_map_some (decompose form) cs (decompose_some form) h)

nfd_some : (cs : List ℕ) → 0 < length cs → 0 < length (nfd cs)
unfolding normalize
nfd_some cs h = order_some Nfd cs h

nfkd_some : (cs : List ℕ) → 0 < length cs → 0 < length (nfkd cs)
unfolding normalize
nfkd_some cs h = order_some Nfkd cs h

fold_some : (cs : List ℕ) → 0 < length cs → 0 < length (default_case_fold cs)
unfolding default_case_fold
fold_some cs h = flat_map_some full_fold cs full_fold_some h

key_some : (keys : Keys) (cs : List ℕ) → 0 < length cs → 0 < length (caseless_key keys cs)
key_some Canonical cs h = nfd_some _ (fold_some _ (nfd_some cs h))
key_some Compatibility cs h = nfkd_some _ (fold_some _ (nfkd_some _ (fold_some _ (nfd_some cs h))))

chars_some : (bytes : List ℕ) → IsUtf8 bytes → 0 < length bytes → 0 < length (chars bytes)
chars_some bytes text h = by (chars bytes) (encodes-chars bytes text)
  where
    by : (cs : List ℕ) → encode_utf8_all cs ≡ bytes → 0 < length cs
    by [] e = absurd (omega (arith, ap length e))
    by (c ∷ cs) e = omega arith

-- what `key` gives, by the test
abbrev pub keyed : Keys → Bool → List ℕ → Option (List ℕ)
keyed keys b text = cond b None (Some (key_of_text keys text))

key_none : (keys : Keys) → caseless_key keys [] ≡ []
unfolding normalize decomposed canonical_order default_case_fold
key_none Canonical = refl
key_none Compatibility = refl

empty_is : (a : List ℕ) → (length a == 0) ≡ true → a ≡ []
empty_is [] e = refl
empty_is (x ∷ a) e = absurd (let f : length (x ∷ a) ≡ 0 = grind (arith, nat_tests) in omega arith)

some_is : (a : List ℕ) → (length a == 0) ≡ false → 0 < length a
some_is a e = grind (arith, nat_tests)

apart : (keys : Keys) (a b : List ℕ) → IsUtf8 b → (length a == 0) ≡ true → (length b == 0) ≡ false → caseless_key keys (chars a) ≡ caseless_key keys (chars b) → ⊥
apart keys a b tb p q e =
    let none : caseless_key keys (chars a) ≡ [] = ap (λ t. caseless_key keys (chars t)) (empty_is a p) ∙ ap (caseless_key keys) chars-nil ∙ key_none keys in
    omega (arith, key_some keys (chars b) (chars_some b tb (some_is b q)), ap length (sym e ∙ none))

same_text : (a b : List ℕ) → Some a ≡ Some b → a ≡ b
same_text a b e = cc

none_some : {G : Type 0} (a : List ℕ) → None ≡ Some a → G
none_some a e = absurd (let f : None ≡ Some a = e in cc)

-- the keys of two texts are equal, or both are missing, exactly where those of their characters are equal
key_decides : (keys : Keys) (a b : List ℕ) → IsUtf8 a → IsUtf8 b → (keyed keys (length a == 0) a ≡ keyed keys (length b == 0) b) ↔ (caseless_key keys (chars a) ≡ caseless_key keys (chars b))
key_decides keys a b ta tb = by (length a == 0) (length b == 0) refl refl
  where
    by : (p q : Bool) → (length a == 0) ≡ p → (length b == 0) ≡ q → (keyed keys p a ≡ keyed keys q b) ↔ (caseless_key keys (chars a) ≡ caseless_key keys (chars b))
    by true true p q = (λ _. ap (λ t. caseless_key keys (chars t)) (empty_is a p ∙ sym (empty_is b q)), λ _. refl)
    by true false p q = (λ e. none_some _ e, λ e. absurd (apart keys a b tb p q e))
    by false true p q = (λ e. none_some _ (sym e), λ e. absurd (apart keys b a ta q p (sym e)))
    by false false p q = (λ e. encodes_same _ _ (same_text _ _ e), λ e. ap (λ cs. Some (encode_utf8_all cs)) e)

-- and so exactly where the texts match
pub same_keys : (keys : Keys) (a b : List ℕ) → IsUtf8 a → IsUtf8 b → (keyed keys (length a == 0) a ≡ keyed keys (length b == 0) b) ↔ IsMatch keys (chars a) (chars b)
same_keys Canonical a b ta tb = key_decides Canonical a b ta tb
same_keys Compatibility a b ta tb = key_decides Compatibility a b ta tb
