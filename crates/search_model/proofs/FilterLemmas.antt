-- The bound of a column that was seen is a bound on its overlap.
use Rattle.std.proofs.Common.{◌≡◌, refl, ap, sym, ◌∙◌, subst, ℕ, ◌+◌, ◌-◌, ◌<◌, ◌≤◌, List, [], ◌∷◌, ◌++◌, map, Bool, true, false, ◌||◌, length, arith, cond, eqb as nat_eq, get_or, take, drop, length-append}
use Rattle.std.specs.List.{filter, AllByRecursion}
use Rattle.std.proofs.lemmas.List.{take-append-drop, length-drop}
use Rattle.std.proofs.lemmas.List.Elements.{All-from_recursion}
use Rattle.std.proofs.lemmas.Bool.Decides.{nat_tests}
use Rattle.search_model.specs.Segment.{Token, tokens_in, Titled}
use Rattle.search_model.specs.Looks.{hits, seen_by}
use Rattle.search_model.proofs.BoundLemmas.{Distinct, position_filter, prefix_filter}
use Rattle.search_model.proofs.OverlapLemmas as texts
use Rattle.search_model.proofs.OverlapLemmas.{tokens_from, tokens_from-cons, front, overlap_is_hits}
use Rattle.lake_model.specs.Texts.{Text}
use Rattle.lake_model.specs.Tables.{has_key, overlap}
use Rattle.lake_model.specs.Layout.{is_among}
use Rattle.list_laws.specs.Distinct.{Rises}
use Rattle.list_laws.proofs.ListLemmas.{all_right, rises_right}
use Rattle.std.proofs.lemmas.Bool.{eq-eqb}

pub lower : (m n : ℕ) (xs : List ℕ) → m ≤ n → AllByRecursion (λ y. n ≤ y) xs → AllByRecursion (λ y. m ≤ y) xs
lower m n [] h a = tt
lower m n (x ∷ xs) h a = ((let f = a.0 in omega arith), lower m n xs h a.1)

strict : (n : ℕ) (xs : List ℕ) → AllByRecursion (λ y. n + 1 ≤ y) xs → AllByRecursion (λ y. n < y) xs
strict n [] a = tt
strict n (x ∷ xs) a = ((let f = a.0 in omega arith), strict n xs a.1)

rising_from : (n : ℕ) (tokens : List Token) (keys : List Text) → AllByRecursion (λ y. n ≤ y) (tokens_from n tokens keys) × Rises (tokens_from n tokens keys)
rising_from n [] keys = (tt, tt)
rising_from n (token ∷ tokens) keys =
    subst (λ (xs : List ℕ). AllByRecursion (λ y. n ≤ y) xs × Rises xs) (sym (tokens_from-cons n token tokens keys)) (by (rising_from (n + 1) tokens keys) (has_key keys token.key))
  where
    later : List ℕ
    later = tokens_from (n + 1) tokens keys

    by : AllByRecursion (λ y. n + 1 ≤ y) (tokens_from (n + 1) tokens keys) × Rises (tokens_from (n + 1) tokens keys) → (b : Bool)
        → AllByRecursion (λ y. n ≤ y) (front b n (tokens_from (n + 1) tokens keys)) × Rises (front b n (tokens_from (n + 1) tokens keys))
    by h true = ((omega arith, lower n (n + 1) _ (omega arith) h.0), (strict n _ h.0, h.1))
    by h false = (lower n (n + 1) _ (omega arith) h.0, h.1)

pub rising : (tokens : List Token) (keys : List Text) → Rises (tokens_in tokens keys)
rising tokens keys = (rising_from 0 tokens keys).1

-- what is in the first part is below all of the second
pub after_all : (xs ys : List ℕ) (l : ℕ) → Rises (xs ++ ys) → is_among xs l ≡ true → AllByRecursion (λ t. l < t) ys
after_all [] ys l h e = absurd (let f : false ≡ true = e in cc)
after_all (x ∷ xs) ys l h e = elim (nat_eq l x) as (λ b. nat_eq l x ≡ b → (b || is_among xs l) ≡ true → AllByRecursion (λ t. l < t) ys) [
  | true ↦ λ t k. let at : x ≡ l = grind (arith, nat_tests) in subst (λ (m : ℕ). AllByRecursion (λ t. m < t) ys) at (all_right (λ t. x < t) xs ys h.0)
  | false ↦ λ f k. after_all xs ys l h.1 k
] refl e

not_above : (x : ℕ) (xs : List ℕ) → AllByRecursion (λ y. x < y) xs → is_among xs x ≡ false
not_above x [] h = refl
not_above x (y ∷ ys) h = let lt = h.0 in let e : nat_eq x y ≡ false = grind (arith, nat_tests) in ap (λ b. b || is_among ys x) e ∙ not_above x ys h.1

pub distinct_rising : (xs : List ℕ) → Rises xs → Distinct xs
distinct_rising [] h = tt
distinct_rising (x ∷ xs) h = (not_above x xs h.0, distinct_rising xs h.1)

or_true : (a b : Bool) → b ≡ true → (a || b) ≡ true
or_true true b e = refl
or_true false b e = e

abbrev pub IsHit : (ℕ → Bool) → List ℕ → ℕ → Type 0
IsHit p xs y = (p y ≡ true) × (is_among xs y ≡ true)

further : (p : ℕ → Bool) (x : ℕ) (xs ys : List ℕ) → AllByRecursion (IsHit p xs) ys → AllByRecursion (IsHit p (x ∷ xs)) ys
further p x xs [] h = tt
further p x xs (y ∷ ys) h = ((h.0.0, or_true (nat_eq y x) (is_among xs y) h.0.1), further p x xs ys h.1)

pub all_hits : (p : ℕ → Bool) (xs : List ℕ) → AllByRecursion (IsHit p xs) (filter p xs)
all_hits p [] = tt
all_hits p (x ∷ xs) = by (further p x xs (filter p xs) (all_hits p xs)) (p x) refl
  where
    by : AllByRecursion (IsHit p (x ∷ xs)) (filter p xs) → (b : Bool) → p x ≡ b → AllByRecursion (IsHit p (x ∷ xs)) (cond b (x ∷ filter p xs) (filter p xs))
    by h true e = ((e, ap (λ b. b || is_among xs x) (eq-eqb x x refl)), h)
    by h false e = h

pub hits-append : (set xs ys : List ℕ) → hits set (xs ++ ys) ≡ hits set xs ++ hits set ys
hits-append set [] ys = refl
hits-append set (x ∷ xs) ys = ap (λ us. cond (is_among set x) (x ∷ us) us) (hits-append set xs ys) ∙ by (is_among set x)
  where
    by : (b : Bool) → cond b (x ∷ (hits set xs ++ hits set ys)) (hits set xs ++ hits set ys) ≡ cond b (x ∷ hits set xs) (hits set xs) ++ hits set ys
    by true = refl
    by false = refl

-- The overlap of a column that is in one of the first i lists is at most its bound.
pub overlap_bounded : (tokens : List Token) (query : List Text) (c : Titled) (column i : ℕ) → texts.Distinct query → texts.Distinct (map (λ t. t.key) tokens)
    → ((x : Text) → has_key c.column.keys x ≡ true → has_key (map (λ t. t.key) tokens) x ≡ true)
    → 1 ≤ length (hits (tokens_in tokens c.column.keys) (take i (tokens_in tokens query)))
    → overlap query c.column.keys ≤ (seen_by c (tokens_in tokens c.column.keys) (length (tokens_in tokens query) - i) column (hits (tokens_in tokens c.column.keys) (take i (tokens_in tokens query)))).bound.overlap
overlap_bounded tokens query c column i dq dt w some =
    let set = tokens_in tokens c.column.keys in
    let qs = tokens_in tokens query in
    let found = hits set (take i qs) in
    let l = get_or found (length found - 1) 0 in
    let hit : IsHit (is_among set) (take i qs) l = All-from_recursion (IsHit (is_among set) (take i qs)) found (all_hits (is_among set) (take i qs)) (length found - 1) 0 (omega arith) in
    let parts : take i qs ++ drop i qs ≡ qs = take-append-drop i qs in
    let up : Rises (take i qs ++ drop i qs) = subst Rises (sym parts) (rising tokens query) in
    let behind = position_filter set (drop i qs) l hit.0 (distinct_rising (drop i qs) (rises_right (take i qs) (drop i qs) up)) (after_all (take i qs) (drop i qs) l up hit.1) in
    let whole : length (hits set qs) ≡ length found + length (hits set (drop i qs)) = ap (λ xs. length (hits set xs)) (sym parts) ∙ ap length (hits-append set (take i qs) (drop i qs)) ∙ length-append found (hits set (drop i qs)) in
    omega (arith, overlap_is_hits tokens query c.column.keys dq dt w, whole, behind, prefix_filter set (drop i qs), length-drop i qs)

-- The overlap of a column that is in none of the first i lists is at most the number of lists left.
pub overlap_unseen : (tokens : List Token) (query keys : List Text) (i : ℕ) → texts.Distinct query → texts.Distinct (map (λ t. t.key) tokens) → ((x : Text) → has_key keys x ≡ true → has_key (map (λ t. t.key) tokens) x ≡ true)
    → length (hits (tokens_in tokens keys) (take i (tokens_in tokens query))) ≡ 0 → overlap query keys ≤ length (tokens_in tokens query) - i
overlap_unseen tokens query keys i dq dt w none =
    let set = tokens_in tokens keys in
    let qs = tokens_in tokens query in
    let parts : take i qs ++ drop i qs ≡ qs = take-append-drop i qs in
    let whole : length (hits set qs) ≡ length (hits set (take i qs)) + length (hits set (drop i qs)) = ap (λ xs. length (hits set xs)) (sym parts) ∙ ap length (hits-append set (take i qs) (drop i qs)) ∙ length-append (hits set (take i qs)) (hits set (drop i qs)) in
    omega (arith, overlap_is_hits tokens query keys dq dt w, whole, prefix_filter set (drop i qs), length-drop i qs)
