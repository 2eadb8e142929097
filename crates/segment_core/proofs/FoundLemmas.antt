-- The tokens whose keys are in a set, found key by key, and then sorted.
use Rattle.std.proofs.Common.{◌≡◌, refl, ap, sym, ◌∙◌, subst, ℕ, zero, suc, ◌+◌, ◌<◌, List, [], ◌∷◌, ◌++◌, Bool, true, false, ◌||◌, cond, map, length, get_or, take, nat_eq, Option, Some, None, Result, Ok, Err, arith, append-nil}
use Rattle.std.specs.Prelude.{bytes_eq, IfOk}
use Rattle.std.specs.Option.{option_to_list}
use Rattle.std.specs.Ordering.{is_lt, nat_cmp}
use Rattle.std.specs.List.{filter, flat_map, enumerate_from, list_any, AllByRecursion, IsDistinct}
use Rattle.std.specs.List.Sorted.{IsPermutation, IsSorted}
use Rattle.std.proofs.lemmas.Bool.Decides.{nat_tests}
use Rattle.std.proofs.lemmas.Cmp.{nat_cmp_total}
use Rattle.std.proofs.lemmas.List.{get_or-map, map-append, length-map, take_more}
use Rattle.std.proofs.lemmas.List.Concat.{flat_map-append}
use Rattle.std.proofs.lemmas.List.Elements.{All-from_recursion}
use Rattle.std.proofs.lemmas.List.Folds.{list_any_none}
use Rattle.std.proofs.lemmas.List.Sorted.{IsPermutation-refl, IsPermutation-sym, IsPermutation-trans, IsPermutation-cons, IsPermutation-middle, IsPermutation-append, IsPermutation-map, length_permutation, list_any-IsPermutation}
use Rattle.std.proofs.lemmas.Map.Keys.{IsDistinct-IsPermutation}
use Rattle.std.proofs.lemmas.Map.Lookups.{exact_unsigned}
use Rattle.std.proofs.lemmas.Slice.Eq.{bytes_eq-Decides}
use Rattle.std.proofs.Math.Bool.{or-false}
use Rattle.lake_model.specs.Texts.{Text}
use Rattle.lake_model.specs.Tables.{Table, has_key, distinct}
use Rattle.lake_model.proofs.SortingLemmas.{in_order-IsPermutation, in_order_moves, sorted_is}
use Rattle.search_model.specs.Segment.{Titled, Token, columns_of, segment, token_cmp, token_of, tokens_in, tokens_of}
use Rattle.search_model.specs.Arrays.{IsToken, key_of}
use Rattle.segment_core.specs.Among.{found_by, hit_keys}
use Rattle.segment_core.specs.declared.finding.Hit.{Hit}
use Rattle.search_model.proofs.FilterLemmas.{rising}
use Rattle.search_model.proofs.OverlapLemmas.{front, tokens_from, tokens_from-cons}
use Rattle.lake_model.proofs.DistinctLemmas.{distinct_differ}
use Rattle.search_model.proofs.TokenLemmas.{flips, itself, keys_back}
use Rattle.list_laws.specs.Distinct.{Rises}
use Rattle.list_laws.proofs.ListLemmas.{rises_same}
use Rattle.lake_model.specs.Layout.{is_among}

-- ---- one key at a time

-- what passes either of two tests, if nothing passes both
filter_either : {X : Type 0} (p q : X → Bool) (xs : List X) → ((x : X) → p x ≡ true → q x ≡ false) → IsPermutation (filter p xs ++ filter q xs) (filter (λ x. p x || q x) xs)
filter_either p q [] apart = IsPermutation-refl []
filter_either p q (x ∷ xs) apart = by (p x) (q x) (apart x) (filter_either p q xs apart)
  where
    by : (a b : Bool) → (a ≡ true → b ≡ false) → IsPermutation (filter p xs ++ filter q xs) (filter (λ x. p x || q x) xs)
        → IsPermutation (cond a (x ∷ filter p xs) (filter p xs) ++ cond b (x ∷ filter q xs) (filter q xs)) (cond (a || b) (x ∷ filter (λ x. p x || q x) xs) (filter (λ x. p x || q x) xs))
    by true true n h = absurd (let f : true ≡ false = n refl in cc)
    by true false n h = IsPermutation-cons x _ _ h
    by false true n h = IsPermutation-trans _ _ _ (IsPermutation-middle (filter p xs) x (filter q xs)) (IsPermutation-cons x _ _ h)
    by false false n h = h

filter_none : {X : Type 0} (xs : List X) → filter (λ x. false) xs ≡ []
filter_none [] = refl
filter_none (x ∷ xs) = filter_none xs

abbrev has : Text → ℕ × Token → Bool
has key t = bytes_eq t.1.key key

one_key : (tokens : List Token) (key : Text) → tokens_in tokens (key ∷ []) ≡ map (λ t. t.0) (filter (has key) (enumerate_from 0 tokens))
one_key tokens key = ap (λ (p : ℕ × Token → Bool). map (λ (t : ℕ × Token). t.0) (filter p (enumerate_from 0 tokens))) (λ i t. or-false (has key t) i)

apart_from : (key : Text) (keys : List Text) → AllByRecursion (λ y. bytes_eq key y ≡ false) keys → (x : Text) → bytes_eq x key ≡ true → has_key keys x ≡ false
apart_from key keys h x e =
    let same : key ≡ x = sym ((bytes_eq-Decides x key).0 e) in
    list_any_none (bytes_eq x) keys (subst (λ (k : Text). (i : ℕ) (d : Text) → i < length keys → bytes_eq k (get_or keys i d) ≡ false) same (All-from_recursion (λ y. bytes_eq key y ≡ false) keys h))

-- the tokens of a set, from those of each of its keys
pub each_key : (tokens : List Token) (keys : List Text) → IsDistinct bytes_eq keys → IsPermutation (tokens_in tokens keys) (flat_map (λ key. tokens_in tokens (key ∷ [])) keys)
unfolding IsDistinct
each_key tokens [] d = subst (λ (ns : List ℕ). IsPermutation ns []) (ap (map (λ (t : ℕ × Token). t.0)) (sym (filter_none (enumerate_from 0 tokens)))) (IsPermutation-refl [])
each_key tokens (key ∷ keys) d =
    let number : ℕ × Token → ℕ = λ t. t.0 in
    let all = enumerate_from 0 tokens in
    let either = IsPermutation-map number _ _ (filter_either (has key) (λ t. has_key keys t.1.key) all (λ t. apart_from key keys d.0 t.1.key)) in
    let split : map number (filter (has key) all ++ filter (λ t. has_key keys t.1.key) all) ≡ tokens_in tokens (key ∷ []) ++ tokens_in tokens keys =
    map-append number (filter (has key) all) _ ∙ ap (λ (ns : List ℕ). ns ++ tokens_in tokens keys) (sym (one_key tokens key)) in
    IsPermutation-trans _ _ _ (IsPermutation-sym _ _ (subst (λ (ns : List ℕ). IsPermutation ns (tokens_in tokens (key ∷ keys))) split either))
    (IsPermutation-append _ _ _ _ (IsPermutation-refl (tokens_in tokens (key ∷ []))) (each_key tokens keys d.1))

-- ---- the token of a key

none_from : (key : Text) (n : ℕ) (tokens : List Token) → list_any (λ t. bytes_eq t.key key) tokens ≡ false → tokens_from n tokens (key ∷ []) ≡ []
none_from key n [] h = refl
none_from key n (t ∷ tokens) h = tokens_from-cons n t tokens (key ∷ []) ∙ by (bytes_eq t.key key) h (none_from key (n + 1) tokens)
  where
    by : (b : Bool) → (b || list_any (λ t. bytes_eq t.key key) tokens) ≡ false → (list_any (λ t. bytes_eq t.key key) tokens ≡ false → tokens_from (n + 1) tokens (key ∷ []) ≡ []) → front (b || false) n (tokens_from (n + 1) tokens (key ∷ [])) ≡ []
    by true e rest = absurd (let f : true ≡ false = e in cc)
    by false e rest = rest e

others : (first key : Text) (tokens : List Token) → first ≡ key → AllByRecursion (λ y. bytes_eq first y ≡ false) (map (λ t. t.key) tokens) → list_any (λ t. bytes_eq t.key key) tokens ≡ false
others first key [] e h = refl
others first key (t ∷ tokens) e h =
    let here : bytes_eq t.key key ≡ false = ap (bytes_eq t.key) (sym e) ∙ flips t.key first ∙ h.0 in
    ap (λ b. b || list_any (λ t. bytes_eq t.key key) tokens) here ∙ others first key tokens e h.1

one_from : (key : Text) (n : ℕ) (tokens : List Token) (m : ℕ) → IsDistinct bytes_eq (map (λ t. t.key) tokens) → m < length tokens → key_of tokens m ≡ key → tokens_from n tokens (key ∷ []) ≡ (n + m) ∷ []
unfolding IsDistinct
one_from key n [] m d h e = absurd (omega arith)
one_from key n (t ∷ tokens) zero d h e =
    let test : (bytes_eq t.key key || false) ≡ true = ap (λ (k : Text). bytes_eq k key || false) e ∙ ap (λ b. b || false) (itself key) in
    let z : n ≡ n + 0 = omega arith in
    tokens_from-cons n t tokens (key ∷ [])
    ∙ ap (λ b. front b n (tokens_from (n + 1) tokens (key ∷ []))) test
    ∙ ap (λ (ns : List ℕ). n ∷ ns) (none_from key (n + 1) tokens (others t.key key tokens e d.0))
    ∙ ap (λ (k : ℕ). k ∷ []) z
one_from key n (t ∷ tokens) (suc m) d h e =
    let there : m < length (map (λ (t : Token). t.key) tokens) = omega (arith, length-map tokens (λ (t : Token). t.key)) in
    let apart : bytes_eq t.key (key_of tokens m) ≡ false = All-from_recursion (λ y. bytes_eq t.key y ≡ false) (map (λ t. t.key) tokens) d.0 m [] there in
    let test : (bytes_eq t.key key || false) ≡ false = ap (λ b. b || false) (ap (bytes_eq t.key) (sym e) ∙ apart) in
    let more : n + 1 + m ≡ n + suc m = omega arith in
    tokens_from-cons n t tokens (key ∷ [])
    ∙ ap (λ b. front b n (tokens_from (n + 1) tokens (key ∷ []))) test
    ∙ one_from key (n + 1) tokens m d.1 (omega arith) e
    ∙ ap (λ (k : ℕ). k ∷ []) more

-- the result of a look-up is the tokens of the set of that one key
pub looked_up : (tokens : List Token) (key : Text) (found : Option ℕ) → IsDistinct bytes_eq (map (λ t. t.key) tokens) → IsToken tokens key found → tokens_in tokens (key ∷ []) ≡ option_to_list found
looked_up tokens key None d h = none_from key 0 tokens h
looked_up tokens key (Some n) d h = let z : 0 + n ≡ n = omega arith in one_from key 0 tokens n d h.0 h.1 ∙ ap (λ (k : ℕ). k ∷ []) z

-- one more key looked up
pub one_more : (tokens : List Token) (keys : List Text) (i : ℕ) (found : Option ℕ) → i < length keys → IsDistinct bytes_eq (map (λ t. t.key) tokens) → IsToken tokens (get_or keys i []) found
    → flat_map (λ key. tokens_in tokens (key ∷ [])) (take (i + 1) keys) ≡ flat_map (λ key. tokens_in tokens (key ∷ [])) (take i keys) ++ option_to_list found
one_more tokens keys i found h d is =
    let of : Text → List ℕ = λ key. tokens_in tokens (key ∷ []) in
    ap (flat_map of) (take_more keys i [] h)
    ∙ flat_map-append of (take i keys) (get_or keys i [] ∷ [])
    ∙ ap (λ (ns : List ℕ). flat_map of (take i keys) ++ ns) (append-nil (of (get_or keys i [])) ∙ looked_up tokens (get_or keys i []) found d is)

-- a key's token is appended, or no token has the key
pub found_more : (tokens : List Token) (keys before : List Text) (i : ℕ) → i < length keys → found_by tokens before ≡ found_by tokens (take i keys) → found_by tokens (before ++ get_or keys i [] ∷ []) ≡ found_by tokens (take (i + 1) keys)
found_more tokens keys before i h e =
    let of : Text → List ℕ = λ key. tokens_in tokens (key ∷ []) in
    flat_map-append of before (get_or keys i [] ∷ [])
    ∙ ap (λ (ns : List ℕ). ns ++ flat_map of (get_or keys i [] ∷ [])) e
    ∙ sym (flat_map-append of (take i keys) (get_or keys i [] ∷ []))
    ∙ sym (ap (flat_map of) (take_more keys i [] h))

pub found_none : (tokens : List Token) (keys before : List Text) (i : ℕ) → i < length keys → IsDistinct bytes_eq (map (λ t. t.key) tokens) → IsToken tokens (get_or keys i []) None → found_by tokens before ≡ found_by tokens (take i keys) → found_by tokens before ≡ found_by tokens (take (i + 1) keys)
found_none tokens keys before i h d is e =
    e ∙ sym (append-nil (found_by tokens (take i keys))) ∙ sym (one_more tokens keys i None h d is)

-- one more hit, whose key is looked up
pub hit_more : (tokens : List Token) (keys : List Text) (hits : List Hit) (i : ℕ) (d : Hit) (found : Option ℕ) → i < length hits → IsDistinct bytes_eq (map (λ t. t.key) tokens) → IsToken tokens (get_or keys (get_or hits i d).index []) found
    → found_by tokens (take (i + 1) (hit_keys keys hits)) ≡ found_by tokens (take i (hit_keys keys hits)) ++ option_to_list found
hit_more tokens keys hits i d found h apart is =
    let key : Hit → Text = λ hit. get_or keys hit.index [] in
    let within : i < length (hit_keys keys hits) = omega (arith, length-map hits key) in
    one_more tokens (hit_keys keys hits) i found within apart (subst (λ (k : Text). IsToken tokens k found) (sym (get_or-map key hits i d [] h)) is)

-- ---- keys of which no token has one

pub none_found : (tokens : List Token) (keys : List Text) → IsDistinct bytes_eq (map (λ t. t.key) tokens) → ((i : ℕ) → i < length keys → IsToken tokens (get_or keys i []) None) → found_by tokens keys ≡ []
none_found tokens [] apart none = refl
none_found tokens (key ∷ keys) apart none =
    let first : tokens_in tokens (key ∷ []) ≡ [] = looked_up tokens key None apart (none 0 (omega arith)) in
    ap (λ (ns : List ℕ). ns ++ found_by tokens keys) first ∙ none_found tokens keys apart (λ i h. none (suc i) (omega (arith, h)))

empty : (ns : List ℕ) → IsPermutation ns [] → ns ≡ []
empty [] p = refl
empty (n ∷ ns) p = absurd (omega (arith, length_permutation (n ∷ ns) [] p))

pub none_in : (tokens : List Token) (keys : List Text) → IsDistinct bytes_eq keys → IsDistinct bytes_eq (map (λ t. t.key) tokens) → ((i : ℕ) → i < length keys → IsToken tokens (get_or keys i []) None) → tokens_in tokens keys ≡ []
none_in tokens keys distinct apart none = empty (tokens_in tokens keys) (subst (IsPermutation (tokens_in tokens keys)) (none_found tokens keys apart none) (each_key tokens keys distinct))

-- ---- the keys of the tokens are distinct

pub tokens_differ : (tables : List Table) → IsDistinct bytes_eq (map (λ t. t.key) (segment tables).tokens)
unfolding segment tokens_of
tokens_differ tables =
    let columns = columns_of tables in
    let keys = distinct (flat_map (λ (c : Titled). c.column.keys) columns) in
    let made = map (token_of columns) keys in
    let key : Token → Text = λ t. t.key in
    IsDistinct-IsPermutation bytes_eq flips _ _ (IsPermutation-map key _ _ (in_order_moves token_cmp made)) (subst (IsDistinct bytes_eq) (sym (keys_back columns keys)) (distinct_differ (flat_map (λ (c : Titled). c.column.keys) columns)))

-- ---- sorted

below : (xs : List ℕ) → Rises xs → (k d : ℕ) → k + 1 < length xs → get_or xs k d < get_or xs (k + 1) d
below [] r k d h = absurd (omega arith)
below (x ∷ []) r k d h = absurd (omega arith)
below (x ∷ y ∷ xs) r zero d h = r.0.0
below (x ∷ y ∷ xs) r (suc k) d h = let e : suc k + 1 ≡ suc (k + 1) = omega arith in subst (λ (n : ℕ). get_or (y ∷ xs) k d < get_or (x ∷ y ∷ xs) n d) (sym e) (below (y ∷ xs) r.1 k d (omega arith))

not_less : (a b : ℕ) → a < b → is_lt (nat_cmp b a) ≡ false
not_less a b h = grind (arith, nat_tests)

sorted_rising : (xs : List ℕ) → Rises xs → IsSorted nat_cmp xs
sorted_rising xs r k d low h = not_less _ _ (below xs r k d h)

-- the numbers of a rising list, sorted
pub sorted_rises : (ns found sorted : List ℕ) → Rises ns → IsPermutation ns found → IsPermutation found sorted → IsSorted nat_cmp sorted → sorted ≡ ns
sorted_rises ns found sorted rises p q up =
    sorted_is nat_cmp_total exact_unsigned sorted up
    ∙ in_order-IsPermutation nat_cmp_total exact_unsigned _ _ (IsPermutation-trans _ _ _ p q)
    ∙ sym (sorted_is nat_cmp_total exact_unsigned ns (sorted_rising ns rises))

-- the tokens of a set, sorted
pub sorted_tokens : (tokens : List Token) (keys : List Text) (found sorted : List ℕ) → IsPermutation (tokens_in tokens keys) found → IsPermutation found sorted → IsSorted nat_cmp sorted → sorted ≡ tokens_in tokens keys
sorted_tokens tokens keys found sorted p q up = sorted_rises (tokens_in tokens keys) found sorted (rising tokens keys) p q up

-- a rising list that has the same numbers
pub listed_rises : {X E : Type 0} (list : X → List ℕ) (result : Result X E) (ns found : List ℕ) → Rises ns → IsPermutation ns found → IfOk result (λ x. Rises (list x)) → IfOk result (λ x. (n : ℕ) → is_among (list x) n ≡ is_among found n) → IfOk result (λ x. list x ≡ ns)
listed_rises list (Ok x) ns found up p rises same = rises_same (list x) ns rises up (λ n. same n ∙ sym (list_any-IsPermutation (nat_eq n) ns found p))
listed_rises list (Err e) ns found up p rises same = tt
