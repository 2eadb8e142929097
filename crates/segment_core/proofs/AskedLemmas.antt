-- A walk over the tokens, by their hashes, that takes those whose keys are in a set.
use Rattle.std.proofs.Common.{◌≡◌, refl, ap, sym, ◌∙◌, subst, ℕ, suc, ◌+◌, ◌<◌, List, [], ◌∷◌, ◌++◌, Bool, true, false, ◌&&◌, ◌||◌, cond, map, length, get_or, take, Some, arith, append-nil}
use Rattle.std.specs.Prelude.{bytes_eq}
use Rattle.std.specs.List.{filter, enumerate_from, list_any, AllByRecursion, IsDistinct}
use Rattle.std.specs.List.Sorted.{IsPermutation}
use Rattle.std.proofs.lemmas.List.{get_or-map, length-map, map-append, take_more}
use Rattle.std.proofs.lemmas.List.Concat.{flat_map-append}
use Rattle.std.proofs.lemmas.List.Folds.{list_any_at}
use Rattle.std.proofs.lemmas.List.Sorted.{IsPermutation-map, list_any-IsPermutation}
use Rattle.std.proofs.lemmas.Map.Keys.{IsDistinct-IsPermutation}
use Rattle.std.proofs.lemmas.Map.Views.{any-filter_same}
use Rattle.std.proofs.lemmas.Slice.Eq.{bytes_eq-Decides}
use Rattle.list_laws.proofs.ListLemmas.{all_filter, filter_agree}
use Rattle.std.proofs.lemmas.List.Elements.{filter-append}
use Rattle.lake_model.specs.Texts.{Text}
use Rattle.lake_model.specs.Tables.{Table, has_key}
use Rattle.search_model.specs.Segment.{Token, segment, tokens_in}
use Rattle.search_model.specs.Arrays.{key_of, numbers_of, token_keys}
use Rattle.segment_core.specs.Among.{found_by}
use Rattle.hash_directory.specs.Buckets.{AreIn, FilterOf, may_have}
use Rattle.segment_core.specs.Hashes.{KeyedToken, hash_of, token_number, IsByHash, IsHashed}
use Rattle.segment_core.proofs.FoundLemmas.{each_key, looked_up, tokens_differ}
use Rattle.search_model.proofs.TokenLemmas.{flips, itself}

-- the keys of tokens in their order by hash, and those of them that are in a set
abbrev pub keys_by : List Token → List KeyedToken → List Text
keys_by tokens order = map (λ entry. key_of tokens entry.token) order

abbrev pub asked_keys : List Token → List Text → List KeyedToken → List Text
asked_keys tokens keys order = filter (has_key keys) (keys_by tokens order)

distinct_passed : (p : Text → Bool) (ks : List Text) → IsDistinct bytes_eq ks → IsDistinct bytes_eq (filter p ks)
unfolding IsDistinct
distinct_passed p [] d = tt
distinct_passed p (k ∷ ks) d = by (p k) (all_filter (λ y. bytes_eq k y ≡ false) p ks d.0) (distinct_passed p ks d.1)
  where
    by : (b : Bool) → AllByRecursion (λ y. bytes_eq k y ≡ false) (filter p ks) → IsDistinct bytes_eq (filter p ks) → IsDistinct bytes_eq (cond b (k ∷ filter p ks) (filter p ks))
    by true apart rest = (apart, rest)
    by false apart rest = rest

-- a set has no key whose hash is not in the filter of its hashes
pub not_asked : (filter : FilterOf) (keys : List Text) (key : Text) → AreIn filter (map hash_of keys) → may_have filter (hash_of key) ≡ false → has_key keys key ≡ false
not_asked filter [] key all denied = refl
not_asked filter (k ∷ keys) key all denied = by (bytes_eq key k) refl (not_asked filter keys key all.1 denied)
  where
    by : (b : Bool) → bytes_eq key k ≡ b → has_key keys key ≡ false → (b || has_key keys key) ≡ false
    by true e rest = absurd (let same : key ≡ k = (bytes_eq-Decides key k).0 e in let wrong : true ≡ false = sym all.0 ∙ ap (λ (x : Text). may_have filter (hash_of x)) (sym same) ∙ denied in cc)
    by false e rest = rest

module _ (tables : List Table) (keys : List Text) where
  abbrev tokens : List Token
  tokens = (segment tables).tokens

  -- one more token
  pub asked_more : (order : List KeyedToken) (i : ℕ) (d : KeyedToken) → i < length order
      → asked_keys tokens keys (take (i + 1) order) ≡ asked_keys tokens keys (take i order) ++ filter (has_key keys) (key_of tokens (get_or order i d).token ∷ [])
  asked_more order i d h =
      let key : KeyedToken → Text = λ entry. key_of tokens entry.token in
      ap (asked_keys tokens keys) (take_more order i d h)
      ∙ ap (filter (has_key keys)) (map-append key (take i order) (get_or order i d ∷ []))
      ∙ filter-append (has_key keys) (map key (take i order)) (key (get_or order i d) ∷ [])

  pub asked_in : (before after : List Text) (entry : KeyedToken) → IsHashed tables entry → has_key keys (key_of tokens entry.token) ≡ true → after ≡ before ++ filter (has_key keys) (key_of tokens entry.token ∷ [])
      → found_by tokens after ≡ found_by tokens before ++ entry.token ∷ []
  asked_in before after entry is has e =
      let of : Text → List ℕ = λ key. tokens_in tokens (key ∷ []) in
      let key = key_of tokens entry.token in
      ap (found_by tokens) (e ∙ ap (λ (b : Bool). before ++ cond b (key ∷ []) []) has)
      ∙ flat_map-append of before (key ∷ [])
      ∙ ap (λ (ns : List ℕ). found_by tokens before ++ ns) (append-nil (of key) ∙ looked_up tokens key (Some entry.token) (tokens_differ tables) (is.there, refl))

  pub asked_out : (before after : List Text) (entry : KeyedToken) → has_key keys (key_of tokens entry.token) ≡ false → after ≡ before ++ filter (has_key keys) (key_of tokens entry.token ∷ []) → found_by tokens after ≡ found_by tokens before
  asked_out before after entry has e =
      ap (found_by tokens) (e ∙ ap (λ (b : Bool). before ++ cond b (key_of tokens entry.token ∷ []) []) has ∙ append-nil before)

  -- ---- all tokens

  numbered : (n : ℕ) (rest : List Token) → ((i : ℕ) → i < length rest → key_of tokens (n + i) ≡ key_of rest i) → map (key_of tokens) (map (λ t. t.0) (enumerate_from n rest)) ≡ token_keys rest
  numbered n [] same = refl
  numbered n (t ∷ rest) same =
      let z : n ≡ n + 0 = omega arith in
      let first = ap (key_of tokens) z ∙ same 0 (omega arith) in
      let more = numbered (n + 1) rest (λ i h. (let s : n + 1 + i ≡ n + suc i = omega arith in ap (key_of tokens) s ∙ same (suc i) (omega (arith, h)))) in
      (λ j. first j ∷ more j)

  module _ (order : List KeyedToken) (is : IsByHash tables order) where
    same_keys : IsPermutation (token_keys tokens) (keys_by tokens order)
    same_keys =
        let named = numbered 0 tokens (λ i h. (let z : 0 + i ≡ i = omega arith in ap (key_of tokens) z)) in
        let two = IsPermutation-map (key_of tokens) (numbers_of tokens) (map token_number order) is.same in
        subst (λ (ks : List Text). IsPermutation ks (keys_by tokens order)) named (subst (IsPermutation (map (key_of tokens) (numbers_of tokens))) (twice order) two)
      where
        twice : (entries : List KeyedToken) → map (key_of tokens) (map token_number entries) ≡ keys_by tokens entries
        twice [] = refl
        twice (entry ∷ entries) = ap (λ (ks : List Text). key_of tokens entry.token ∷ ks) (twice entries)

    distinct_asked : IsDistinct bytes_eq (asked_keys tokens keys order)
    distinct_asked = distinct_passed (has_key keys) (keys_by tokens order) (IsDistinct-IsPermutation bytes_eq flips _ _ same_keys (tokens_differ tables))

    -- the set has the key of a token exactly if the walk took it
    asked_has : (key : Text) → list_any (bytes_eq key) (token_keys tokens) ≡ true → has_key (asked_keys tokens keys order) key ≡ has_key keys key
    asked_has key there =
        any-filter_same (bytes_eq key) (has_key keys) (has_key keys key) (λ k e. ap (has_key keys) (sym ((bytes_eq-Decides key k).0 e))) (keys_by tokens order)
        ∙ ap (λ (b : Bool). has_key keys key && b) (sym (list_any-IsPermutation (bytes_eq key) _ _ same_keys) ∙ there)
        ∙ whole (has_key keys key)
      where
        whole : (b : Bool) → (b && true) ≡ b
        whole true = refl
        whole false = refl

    pub asked_all : IsPermutation (tokens_in tokens keys) (found_by tokens (asked_keys tokens keys order))
    asked_all = subst (λ (ns : List ℕ). IsPermutation ns (found_by tokens (asked_keys tokens keys order))) (ap (map (λ t. t.0)) (filter_agree _ _ (enumerate_from 0 tokens) (agree 0 tokens (λ i d h. there i d h)))) (each_key tokens (asked_keys tokens keys order) distinct_asked)
      where
        there : (i : ℕ) (d : Token) → i < length tokens → list_any (bytes_eq (get_or tokens i d).key) (token_keys tokens) ≡ true
        there i d h =
            let key : Token → Text = λ t. t.key in
            list_any_at (bytes_eq (get_or tokens i d).key) (token_keys tokens) i [] (omega (arith, h, length-map tokens key))
            (ap (bytes_eq (get_or tokens i d).key) (get_or-map key tokens i d [] h) ∙ itself (get_or tokens i d).key)

        agree : (n : ℕ) (rest : List Token) → ((i : ℕ) (d : Token) → i < length rest → list_any (bytes_eq (get_or rest i d).key) (token_keys tokens) ≡ true)
            → AllByRecursion (λ t. has_key (asked_keys tokens keys order) t.1.key ≡ has_key keys t.1.key) (enumerate_from n rest)
        agree n [] h = tt
        agree n (t ∷ rest) h = (asked_has t.key (h 0 t (omega arith)), agree (n + 1) rest (λ i d l. h (suc i) d (omega (arith, l))))
