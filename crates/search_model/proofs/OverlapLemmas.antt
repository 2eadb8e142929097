-- The overlap of two sets, counted over tokens.
use Rattle.std.proofs.Common.{◌≡◌, refl, ap, sym, ◌∙◌, ℕ, ◌+◌, ◌<◌, ◌≤◌, List, [], ◌∷◌, map, Bool, true, false, ◌&&◌, ◌||◌, length, arith, cond}
use Rattle.std.specs.Prelude.{bytes_eq}
use Rattle.std.specs.Cmp.Lexicographic.{bytes_decides}
use Rattle.std.specs.List.{filter, count_by, enumerate_from}
use Rattle.std.proofs.lemmas.List.Sums.{length-filter}
use Rattle.search_model.specs.Segment.{Token, tokens_in}
use Rattle.search_model.specs.Looks.{hits}
use Rattle.lake_model.specs.Texts.{Text}
use Rattle.lake_model.specs.Tables.{has_key, overlap}
use Rattle.lake_model.specs.Layout.{is_among}
use Rattle.list_laws.proofs.TestLemmas.{count-cons, once}
use Rattle.std.proofs.lemmas.Bool.{eq-eqb, ne_eqb}

count_same : {X : Type 0} (p q : X → Bool) → ((x : X) → p x ≡ q x) → (xs : List X) → count_by p xs ≡ count_by q xs
count_same p q h [] = refl
count_same p q h (x ∷ xs) = omega (arith, count-cons p x xs, count-cons q x xs, ap once (h x), count_same p q h xs)

abbrev pub Distinct : List Text → Type 0
Distinct [] = Unit {0}
Distinct (x ∷ xs) = (has_key xs x ≡ false) × Distinct xs

-- how often a text occurs in a list of distinct texts
count_once : (a : Text) (xs : List Text) → Distinct xs → count_by (λ x. bytes_eq x a) xs ≡ once (has_key xs a)
count_once a [] d = refl
count_once a (x ∷ xs) d = by (count_once a xs d.1) (bytes_eq x a) refl
  where
    by : count_by (λ y. bytes_eq y a) xs ≡ once (has_key xs a) → (b : Bool) → bytes_eq x a ≡ b → count_by (λ y. bytes_eq y a) (x ∷ xs) ≡ once (bytes_eq a x || has_key xs a)
    by ih true e =
        let same : x ≡ a = (bytes_decides x a).0 e in
        let back : bytes_eq a x ≡ true = (bytes_decides a x).1 (sym same) in
        let gone : has_key xs a ≡ false = ap (has_key xs) (sym same) ∙ d.0 in
        omega (arith, count-cons (λ y. bytes_eq y a) x xs, ap once e, ih, ap once gone, ap (λ b. once (b || has_key xs a)) back)
    by ih false e =
        let back : bytes_eq a x ≡ false = apart (bytes_eq a x) refl in
        omega (arith, count-cons (λ y. bytes_eq y a) x xs, ap once e, ih, ap (λ b. once (b || has_key xs a)) back)
      where
        apart : (b : Bool) → bytes_eq a x ≡ b → b ≡ false
        apart true f = let t : bytes_eq x a ≡ true = (bytes_decides x a).1 (sym ((bytes_decides a x).0 f)) in let g : true ≡ false = sym t ∙ e in cc
        apart false f = refl

count_none : (xs : List Text) → count_by (has_key []) xs ≡ 0
count_none [] = refl
count_none (x ∷ xs) = omega (arith, count-cons (has_key []) x xs, count_none xs)

count_or : (a : Text) (es xs : List Text) → has_key es a ≡ false → count_by (has_key (a ∷ es)) xs ≡ count_by (λ x. bytes_eq x a) xs + count_by (has_key es) xs
count_or a es [] h = refl
count_or a es (x ∷ xs) h = by (count_or a es xs h) (bytes_eq x a) refl
  where
    by : count_by (has_key (a ∷ es)) xs ≡ count_by (λ x. bytes_eq x a) xs + count_by (has_key es) xs → (b : Bool) → bytes_eq x a ≡ b
        → count_by (has_key (a ∷ es)) (x ∷ xs) ≡ count_by (λ x. bytes_eq x a) (x ∷ xs) + count_by (has_key es) (x ∷ xs)
    by ih true e =
        let gone : has_key es x ≡ false = ap (has_key es) ((bytes_decides x a).0 e) ∙ h in
        omega (arith, count-cons (has_key (a ∷ es)) x xs, count-cons (λ x. bytes_eq x a) x xs, count-cons (has_key es) x xs, ap (λ b. once (b || has_key es x)) e, ap once e, ap once gone, ih)
    by ih false e = omega (arith, count-cons (has_key (a ∷ es)) x xs, count-cons (λ x. bytes_eq x a) x xs, count-cons (has_key es) x xs, ap (λ b. once (b || has_key es x)) e, ap once e, ih)

-- as many members of one list are in the other as of the other in the one
shared_both_ways : (es bs : List Text) → Distinct es → Distinct bs → count_by (has_key bs) es ≡ count_by (has_key es) bs
shared_both_ways [] bs da db = sym (count_none bs)
shared_both_ways (a ∷ es) bs da db = omega (arith, count-cons (has_key bs) a es, count_or a es bs da.0, count_once a bs db, shared_both_ways es bs da.1 db)

has_filter : (p : Text → Bool) (t : Text) (xs : List Text) → has_key (filter p xs) t ≡ (has_key xs t && p t)
has_filter p t [] = refl
has_filter p t (x ∷ xs) = by (has_filter p t xs) (p x) (bytes_eq t x) refl refl
  where
    and_false : (b : Bool) → (b && false) ≡ false
    and_false true = refl
    and_false false = refl

    by : has_key (filter p xs) t ≡ (has_key xs t && p t) → (b c : Bool) → p x ≡ b → bytes_eq t x ≡ c → has_key (cond (p x) (x ∷ filter p xs) (filter p xs)) t ≡ ((bytes_eq t x || has_key xs t) && p t)
    by ih true true e f = let pt : p t ≡ true = ap p ((bytes_decides t x).0 f) ∙ e in ap (λ b. has_key (cond b (x ∷ filter p xs) (filter p xs)) t) e ∙ ap (λ b. b || has_key (filter p xs) t) f ∙ sym (ap (λ b. (b || has_key xs t) && p t) f ∙ pt)
    by ih true false e f = ap (λ b. has_key (cond b (x ∷ filter p xs) (filter p xs)) t) e ∙ ap (λ b. b || has_key (filter p xs) t) f ∙ ih ∙ sym (ap (λ b. (b || has_key xs t) && p t) f)
    by ih false true e f = let pt : p t ≡ false = ap p ((bytes_decides t x).0 f) ∙ e in ap (λ b. has_key (cond b (x ∷ filter p xs) (filter p xs)) t) e ∙ ih ∙ ap (λ b. has_key xs t && b) pt ∙ and_false (has_key xs t) ∙ sym (ap (λ b. (bytes_eq t x || has_key xs t) && b) pt ∙ and_false (bytes_eq t x || has_key xs t))
    by ih false false e f = ap (λ b. has_key (cond b (x ∷ filter p xs) (filter p xs)) t) e ∙ ih ∙ sym (ap (λ b. (b || has_key xs t) && p t) f)

distinct_filter : (p : Text → Bool) (xs : List Text) → Distinct xs → Distinct (filter p xs)
distinct_filter p [] d = tt
distinct_filter p (x ∷ xs) d = by (distinct_filter p xs d.1) (p x)
  where
    by : Distinct (filter p xs) → (b : Bool) → Distinct (cond b (x ∷ filter p xs) (filter p xs))
    by ih true = (has_filter p x xs ∙ ap (λ b. b && p x) d.0, ih)
    by ih false = ih

count_all : (p : Text → Bool) (q : Text → Bool) → ((x : Text) → p x ≡ true → q x ≡ true) → (xs : List Text) → count_by q (filter p xs) ≡ count_by p xs
count_all p q w [] = refl
count_all p q w (x ∷ xs) = by (count_all p q w xs) (p x) refl
  where
    by : count_by q (filter p xs) ≡ count_by p xs → (b : Bool) → p x ≡ b → count_by q (cond (p x) (x ∷ filter p xs) (filter p xs)) ≡ count_by p (x ∷ xs)
    by ih true e = ap (λ b. count_by q (cond b (x ∷ filter p xs) (filter p xs))) e ∙ count-cons q x (filter p xs) ∙ (let s : once (q x) + count_by q (filter p xs) ≡ count_by p (x ∷ xs) = omega (arith, count-cons p x xs, ap once e, ap once (w x e), ih) in s)
    by ih false e = ap (λ b. count_by q (cond b (x ∷ filter p xs) (filter p xs))) e ∙ (let s : count_by q (filter p xs) ≡ count_by p (x ∷ xs) = omega (arith, count-cons p x xs, ap once e, ih) in s)

-- the overlap, counted over a list of distinct keys that has all keys of the set
pub overlap_over : (query keys all : List Text) → Distinct query → Distinct all → ((x : Text) → has_key keys x ≡ true → has_key all x ≡ true) → overlap query keys ≡ count_by (λ t. has_key query t && has_key keys t) all
overlap_over query keys all dq da w =
    sym (count_all (has_key keys) (has_key all) w query)
    ∙ shared_both_ways (filter (has_key keys) query) all (distinct_filter (has_key keys) query dq) da
    ∙ count_same (has_key (filter (has_key keys) query)) (λ t. has_key query t && has_key keys t) (λ t. has_filter (has_key keys) t query) all

-- ---- the same over tokens

abbrev pub tokens_from : ℕ → List Token → List Text → List ℕ
tokens_from n tokens keys = map (λ t. t.0) (filter (λ t. has_key keys t.1.key) (enumerate_from n tokens))

abbrev pub front : Bool → ℕ → List ℕ → List ℕ
front b n later = cond b (n ∷ later) later

pub tokens_from-cons : (n : ℕ) (token : Token) (tokens : List Token) (keys : List Text) → tokens_from n (token ∷ tokens) keys ≡ front (has_key keys token.key) n (tokens_from (n + 1) tokens keys)
tokens_from-cons n token tokens keys = by (has_key keys token.key)
  where
    by : (b : Bool) → map (λ (t : ℕ × Token). t.0) (cond b ((n, token) ∷ filter (λ t. has_key keys t.1.key) (enumerate_from (n + 1) tokens)) (filter (λ t. has_key keys t.1.key) (enumerate_from (n + 1) tokens))) ≡ front b n (tokens_from (n + 1) tokens keys)
    by true = refl
    by false = refl

not_before : (j n : ℕ) (tokens : List Token) (keys : List Text) → j < n → is_among (tokens_from n tokens keys) j ≡ false
not_before j n [] keys h = refl
not_before j n (token ∷ tokens) keys h = ap (λ set. is_among set j) (tokens_from-cons n token tokens keys) ∙ by (has_key keys token.key) (not_before j (n + 1) tokens keys (omega arith))
  where
    by : (b : Bool) → is_among (tokens_from (n + 1) tokens keys) j ≡ false → is_among (front b n (tokens_from (n + 1) tokens keys)) j ≡ false
    by true later = ap (λ b. b || is_among (tokens_from (n + 1) tokens keys) j) (ne_eqb j n (λ e. omega arith)) ∙ later
    by false later = later

count_front : (p : ℕ → Bool) (b : Bool) (n : ℕ) (later : List ℕ) → count_by p (front b n later) ≡ once (b && p n) + count_by p later
count_front p true n later = count-cons p n later
count_front p false n later = let z : count_by p later ≡ 0 + count_by p later = omega arith in z

-- two tests that agree from m on
count_above : (p q : ℕ → Bool) (m : ℕ) (tokens : List Token) (keys : List Text) → ((j : ℕ) → m ≤ j → p j ≡ q j) → count_by p (tokens_from m tokens keys) ≡ count_by q (tokens_from m tokens keys)
count_above p q m [] keys h = refl
count_above p q m (token ∷ tokens) keys h =
    let b = has_key keys token.key in
    let later = tokens_from (m + 1) tokens keys in
    let least : m ≤ m = omega arith in
    let ih : count_by p later ≡ count_by q later = count_above p q (m + 1) tokens keys (λ j l. h j (omega arith)) in
    ap (count_by p) (tokens_from-cons m token tokens keys) ∙ count_front p b m later ∙ (λ i. once (b && h m least i) + ih i) ∙ sym (count_front q b m later) ∙ sym (ap (count_by q) (tokens_from-cons m token tokens keys))

hits_from : (n : ℕ) (tokens : List Token) (query keys : List Text) → count_by (is_among (tokens_from n tokens keys)) (tokens_from n tokens query) ≡ count_by (λ t. has_key query t && has_key keys t) (map (λ t. t.key) tokens)
hits_from n [] query keys = refl
hits_from n (token ∷ tokens) query keys =
    let k = has_key keys token.key in
    let q = has_key query token.key in
    let set = tokens_from (n + 1) tokens keys in
    let asked = tokens_from (n + 1) tokens query in
    let here : is_among (front k n set) n ≡ k = at k (not_before n (n + 1) tokens keys (omega arith)) in
    let later : count_by (is_among (front k n set)) asked ≡ count_by (is_among set) asked = count_above (is_among (front k n set)) (is_among set) (n + 1) tokens query (λ j l. beyond k j (omega arith)) in
    (λ i. count_by (is_among (tokens_from-cons n token tokens keys i)) (tokens_from-cons n token tokens query i))
    ∙ count_front (is_among (front k n set)) q n asked
    ∙ (λ i. once (q && here i) + later i)
    ∙ (let s : once (q && k) + count_by (is_among set) asked ≡ count_by (λ t. has_key query t && has_key keys t) (map (λ t. t.key) (token ∷ tokens)) = omega (arith, hits_from (n + 1) tokens query keys, count-cons (λ t. has_key query t && has_key keys t) token.key (map (λ (t : Token). t.key) tokens)) in s)
  where
    at : (b : Bool) → is_among (tokens_from (n + 1) tokens keys) n ≡ false → is_among (front b n (tokens_from (n + 1) tokens keys)) n ≡ b
    at true h = ap (λ b. b || is_among (tokens_from (n + 1) tokens keys) n) (eq-eqb n n refl)
    at false h = h

    beyond : (b : Bool) (j : ℕ) → n < j → is_among (front b n (tokens_from (n + 1) tokens keys)) j ≡ is_among (tokens_from (n + 1) tokens keys) j
    beyond true j h = ap (λ b. b || is_among (tokens_from (n + 1) tokens keys) j) (ne_eqb j n (λ e. omega arith))
    beyond false j h = refl

-- a column shares as many keys with the query as there are lists of the query's tokens that hold it
pub overlap_is_hits : (tokens : List Token) (query keys : List Text) → Distinct query → Distinct (map (λ t. t.key) tokens) → ((x : Text) → has_key keys x ≡ true → has_key (map (λ t. t.key) tokens) x ≡ true)
    → overlap query keys ≡ length (hits (tokens_in tokens keys) (tokens_in tokens query))
overlap_is_hits tokens query keys dq dt w =
    overlap_over query keys (map (λ t. t.key) tokens) dq dt w ∙ sym (length-filter (is_among (tokens_in tokens keys)) (tokens_in tokens query) ∙ hits_from 0 tokens query keys)
