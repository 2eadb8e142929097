-- The tokens, from any list that has each key once.
use Rattle.std.proofs.Common.{◌≡◌, refl, ap, sym, ◌∙◌, ℕ, suc, ◌+◌, ◌<◌, List, [], ◌∷◌, Bool, true, false, ◌||◌, map, length, get_or, arith}
use Rattle.std.specs.Prelude.{bytes_eq}
use Rattle.std.specs.Bool.{Decides}
use Rattle.std.specs.Cmp.{IsTotalOrder}
use Rattle.std.specs.Ordering.{is_lt}
use Rattle.std.specs.declared.cmp.Ordering.TheVariants.{Equal}
use Rattle.std.specs.List.{list_any, IsDistinct, AllByRecursion, flat_map, remove, count_by}
use Rattle.std.specs.List.Sorted.{IsPermutation, IsSortedBy}
use Rattle.std.proofs.lemmas.Cmp.{then_total, on_total, nat_cmp_total, nat_list_cmp_total}
use Rattle.std.proofs.lemmas.Map.Lookups.{exact_unsigned, exact_bytes}
use Rattle.std.proofs.lemmas.Map.Keys.{IsDistinct-IsPermutation}
use Rattle.std.proofs.lemmas.List.Sorted.{IsPermutation-refl, IsPermutation-sym, IsPermutation-trans, IsPermutation-cons, IsPermutation-remove, IsPermutation-map, list_any-IsPermutation}
use Rattle.std.proofs.lemmas.List.Sums.{sum_by-cons, sum_by-append}
use Rattle.std.proofs.lemmas.Slice.Eq.{bytes_eq-Decides}
use Rattle.search_model.specs.Segment.{Titled, Token, token_cmp, token_of, tokens_of}
use Rattle.lake_model.proofs.AnswerLemmas.{both_equal}
use Rattle.lake_model.proofs.DistinctLemmas.{distinct_differ, distinct_keeps}
use Rattle.lake_model.proofs.SortingLemmas.{in_order-IsPermutation, sorted_is}
use Rattle.lake_model.specs.Sorting.{in_order}
use Rattle.lake_model.specs.Texts.{Text}
use Rattle.lake_model.specs.Tables.{distinct, has_key}
use Rattle.list_laws.proofs.TestLemmas.{once}

pub token_cmp_total : IsTotalOrder token_cmp
token_cmp_total = then_total (on_total (λ (t : Token). t.frequency) nat_cmp_total) (on_total (λ (t : Token). t.key) nat_list_cmp_total)

pub token_cmp_exact : (a b : Token) → token_cmp a b ≡ Equal → a ≡ b
token_cmp_exact a b e =
    let p = both_equal _ _ e in
    let frequency : a.frequency ≡ b.frequency = exact_unsigned _ _ p.0 in
    let key : a.key ≡ b.key = exact_bytes _ _ p.1 in
    λ i. record { key = key i; frequency = frequency i }

same_test : (a b : Bool) (P Q : Type 0) → Decides a P → Decides b Q → (P → Q) → (Q → P) → a ≡ b
same_test true b P Q d e f g = sym (e.1 (f (d.0 refl)))
same_test false true P Q d e f g = d.1 (g (e.0 refl))
same_test false false P Q d e f g = refl

pub flips : (x y : Text) → bytes_eq x y ≡ bytes_eq y x
flips x y = same_test _ _ _ _ (bytes_eq-Decides x y) (bytes_eq-Decides y x) (λ e. sym e) (λ e. sym e)

pub itself : (x : Text) → bytes_eq x x ≡ true
itself x = (bytes_eq-Decides x x).1 refl

abbrev Found : Text → List Text → Type 0
Found x ys = (i : ℕ) × (i < length ys) × (x ≡ get_or ys i x)

find_here : (x y : Text) (ys : List Text) (b : Bool) → bytes_eq x y ≡ b → (b || list_any (bytes_eq x) ys) ≡ true → (list_any (bytes_eq x) ys ≡ true → Found x ys) → Found x (y ∷ ys)
find_here x y ys true e h rest = (0, omega arith, (bytes_eq-Decides x y).0 e)
find_here x y ys false e h rest = let r = rest h in (suc r.0, omega (arith, r.1), r.2)

find_at : (x : Text) (ys : List Text) → list_any (bytes_eq x) ys ≡ true → Found x ys
find_at x [] h = cc
find_at x (y ∷ ys) h = find_here x y ys (bytes_eq x y) refl h (find_at x ys)

lacked : (x q : Text) (xs : List Text) → AllByRecursion (λ y. bytes_eq x y ≡ false) xs → bytes_eq q x ≡ true → list_any (bytes_eq q) xs ≡ false
lacked x q [] h e = refl
lacked x q (y ∷ ys) h e =
    let same : q ≡ x = (bytes_eq-Decides q x).0 e in
    ap (λ (z : Text). bytes_eq z y || list_any (bytes_eq q) ys) same ∙ ap (λ b. b || list_any (bytes_eq q) ys) h.0 ∙ lacked x q ys h.1 e

-- two lists that have each key once, and the same keys
pub permutation : (xs ys : List Text) → IsDistinct bytes_eq xs → IsDistinct bytes_eq ys → ((q : Text) → list_any (bytes_eq q) xs ≡ list_any (bytes_eq q) ys) → IsPermutation xs ys
unfolding IsDistinct
permutation [] [] d e h = IsPermutation-refl []
permutation [] (y ∷ ys) d e h = absurd (let t : (bytes_eq y y || list_any (bytes_eq y) ys) ≡ true = ap (λ b. b || list_any (bytes_eq y) ys) (itself y) in let f : false ≡ true = h y ∙ t in cc)
permutation (x ∷ xs) ys d e h =
    let t : (bytes_eq x x || list_any (bytes_eq x) xs) ≡ true = ap (λ b. b || list_any (bytes_eq x) xs) (itself x) in
    let at = find_at x ys (sym (h x) ∙ t) in
    let rest = remove ys at.0 in
    let moved : IsPermutation ys (x ∷ rest) = IsPermutation-remove ys at.0 x at.1 at.2 in
    let apart : IsDistinct bytes_eq (x ∷ rest) = IsDistinct-IsPermutation bytes_eq flips ys (x ∷ rest) moved e in
    let members : (q : Text) → list_any (bytes_eq q) xs ≡ list_any (bytes_eq q) rest = λ q. by q (bytes_eq q x) (list_any (bytes_eq q) xs) (list_any (bytes_eq q) rest) (h q ∙ list_any-IsPermutation (bytes_eq q) ys (x ∷ rest) moved) (lacked x q xs d.0) (lacked x q rest apart.0) in
    IsPermutation-trans (x ∷ xs) (x ∷ rest) ys (IsPermutation-cons x xs rest (permutation xs rest d.1 apart.1 members)) (IsPermutation-sym ys (x ∷ rest) moved)
  where
    by : (q : Text) (b u v : Bool) → (b || u) ≡ (b || v) → (b ≡ true → u ≡ false) → (b ≡ true → v ≡ false) → u ≡ v
    by q true u v s f g = f refl ∙ sym (g refl)
    by q false u v s f g = s

-- the tokens of some columns, from their distinct keys in any order
pub tokens_from : (columns : List Titled) (keys : List Text) → IsDistinct bytes_eq keys → ((q : Text) → list_any (bytes_eq q) (flat_map (λ c. c.column.keys) columns) ≡ list_any (bytes_eq q) keys)
    → in_order token_cmp (map (token_of columns) keys) ≡ tokens_of columns
unfolding tokens_of
tokens_from columns keys d h =
    let all = flat_map (λ (c : Titled). c.column.keys) columns in
    in_order-IsPermutation token_cmp_total token_cmp_exact _ _ (IsPermutation-map (token_of columns) _ _ (permutation (distinct all) keys (distinct_differ all) d (λ q. distinct_keeps all q ∙ h q)))

-- from sorted keys: the result of `sort` and of a walk that skips equal neighbours
pub tokens_from_sorted : (columns : List Titled) (keys : List Text) → IsDistinct bytes_eq keys → ((q : Text) → list_any (bytes_eq q) (flat_map (λ c. c.column.keys) columns) ≡ list_any (bytes_eq q) keys)
    → (tokens : List Token) → IsSortedBy (λ a b. is_lt (token_cmp a b)) tokens → IsPermutation (map (token_of columns) keys) tokens → tokens ≡ tokens_of columns
tokens_from_sorted columns keys d h tokens up same =
    sorted_is token_cmp_total token_cmp_exact tokens up ∙ in_order-IsPermutation token_cmp_total token_cmp_exact _ _ same ∙ tokens_from columns keys d h

one_more : (b l : Bool) (n rest : ℕ) → n ≡ once b + rest → rest ≡ once l → (b ≡ true → l ≡ false) → n ≡ once (b || l)
one_more true l n rest e f g = let z : once l ≡ 0 = ap once (g refl) in omega arith
one_more false l n rest e f g = omega arith

-- a key occurs in a set at most once
count_one : (key : Text) (keys : List Text) → IsDistinct bytes_eq keys → count_by (bytes_eq key) keys ≡ once (list_any (bytes_eq key) keys)
unfolding IsDistinct
count_one key [] d = refl
count_one key (k ∷ keys) d =
    one_more (bytes_eq key k) (list_any (bytes_eq key) keys) _ (count_by (bytes_eq key) keys) (sum_by-cons (λ (y : Text). once (bytes_eq key y)) k keys) (count_one key keys d.1) (lacked k key keys d.0)

-- so as many columns hold a key as there are copies of it in all columns' sets
pub frequency_flat : (key : Text) (columns : List Titled) → AllByRecursion (λ c. IsDistinct bytes_eq c.column.keys) columns
    → count_by (bytes_eq key) (flat_map (λ c. c.column.keys) columns) ≡ count_by (λ c. has_key c.column.keys key) columns
frequency_flat key [] d = refl
frequency_flat key (c ∷ columns) d =
    let split = sum_by-append (λ (y : Text). once (bytes_eq key y)) c.column.keys (flat_map (λ (o : Titled). o.column.keys) columns) in
    let here = count_one key c.column.keys d.0 in
    let rest = frequency_flat key columns d.1 in
    let first = sum_by-cons (λ (o : Titled). once (has_key o.column.keys key)) c columns in
    omega (arith, split, here, rest, first)

-- a token is made with its key
pub keys_back : (columns : List Titled) (keys : List Text) → map (λ t. t.key) (map (token_of columns) keys) ≡ keys
keys_back columns [] = refl
keys_back columns (key ∷ keys) = ap (λ ks. key ∷ ks) (keys_back columns keys)
