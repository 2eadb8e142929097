-- Bounds only fall, and the k-th best only comes earlier.
use Rattle.std.proofs.Common.{◌≡◌, refl, ap, sym, ◌∙◌, subst, ℕ, zero, suc, ◌+◌, ◌-◌, ◌<◌, ◌≤◌, List, [], ◌∷◌, ◌++◌, Bool, true, false, length, arith, cond, take, drop, get_or, min, eqb as nat_eq, ltb as nat_lt, length-append, append-nil}
use Rattle.std.specs.List.{AllByRecursion, count_by}
use Rattle.std.proofs.lemmas.List.{take_more, take-append-drop}
use Rattle.std.proofs.lemmas.Bool.Decides.{nat_tests}
use Rattle.lake_model.specs.Layout.{is_among}
use Rattle.search_model.specs.Segment.{Titled, rank}
use Rattle.search_model.specs.Looks.{hits, seen_by}
use Rattle.search_model.proofs.BoundLemmas.{three_parts, among_counts}
use Rattle.search_model.proofs.FilterLemmas.{hits-append, after_all, all_hits, IsHit}
use Rattle.std.proofs.lemmas.List.Elements.{All-from_recursion}
use Rattle.list_laws.proofs.TestLemmas.{count-cons, once}
use Rattle.list_laws.specs.Distinct.{Rises}

-- ---- one more list

-- the hits with one more list
pub hits_more : (set qs : List ℕ) (i : ℕ) (d : ℕ) → i < length qs → hits set (take (i + 1) qs) ≡ hits set (take i qs) ++ cond (is_among set (get_or qs i d)) (get_or qs i d ∷ []) []
hits_more set qs i d h = ap (hits set) (take_more qs i d h) ∙ hits-append set (take i qs) (get_or qs i d ∷ [])

-- a token below another one of the set has a lower rank in it
rank_below : (set : List ℕ) (l t : ℕ) → l < t → is_among set l ≡ true → rank set l + 1 ≤ rank set t
rank_below set l t h e =
    let more : rank set l + count_by (nat_eq l) set ≤ rank set t = both set in
    omega (arith, more, among_counts l set e)
  where
    here : (s : ℕ) → once (nat_lt s l) + once (nat_eq l s) ≤ once (nat_lt s t)
    here s = grind (arith, nat_tests)

    both : (s : List ℕ) → rank s l + count_by (nat_eq l) s ≤ rank s t
    both [] = omega arith
    both (s ∷ ss) = omega (arith, count-cons (λ o. nat_lt o l) s ss, count-cons (nat_eq l) s ss, count-cons (λ o. nat_lt o t) s ss, here s, both ss)

pub rank_within : (set : List ℕ) (t : ℕ) → is_among set t ≡ true → rank set t + 1 ≤ length set
rank_within set t e = omega (arith, three_parts t set, among_counts t set e)

-- the last hit comes before the next token
last_below : (set qs : List ℕ) (i d : ℕ) → Rises qs → i < length qs → 0 < length (hits set (take i qs)) → get_or (hits set (take i qs)) (length (hits set (take i qs)) - 1) 0 < get_or qs i d
last_below set qs i d up h some =
    let found = hits set (take i qs) in
    let l = get_or found (length found - 1) 0 in
    let hit : IsHit (is_among set) (take i qs) l = All-from_recursion (IsHit (is_among set) (take i qs)) found (all_hits (is_among set) (take i qs)) (length found - 1) 0 (omega arith) in
    let parts : take i qs ++ drop i qs ≡ qs = take-append-drop i qs in
    let above : AllByRecursion (λ t. l < t) (drop i qs) = after_all (take i qs) (drop i qs) l (subst Rises (sym parts) up) hit.1 in
    first (drop i qs) l above (drop-cons qs i d h)
  where
    drop-cons : (qs : List ℕ) (i d : ℕ) → i < length qs → (rest : List ℕ) × (drop i qs ≡ get_or qs i d ∷ rest)
    drop-cons [] i d h = absurd (omega arith)
    drop-cons (q ∷ qs) zero d h = (qs, refl)
    drop-cons (q ∷ qs) (suc i) d h = drop-cons qs i d (omega arith)

    first : (ts : List ℕ) (l : ℕ) → AllByRecursion (λ t. l < t) ts → (rest : List ℕ) × (ts ≡ get_or qs i d ∷ rest) → l < get_or qs i d
    first ts l a e = (subst (λ (us : List ℕ). AllByRecursion (λ t. l < t) us) e.1 a).0

pub last_hit : (set qs : List ℕ) (i d : ℕ) → Rises qs → i < length qs → 0 < length (hits set (take i qs)) → is_among set (get_or (hits set (take i qs)) (length (hits set (take i qs)) - 1) 0) ≡ true
last_hit set qs i d up h some =
    let found = hits set (take i qs) in
    let hit : IsHit (is_among set) (take i qs) (get_or found (length found - 1) 0) = All-from_recursion (IsHit (is_among set) (take i qs)) found (all_hits (is_among set) (take i qs)) (length found - 1) 0 (omega arith) in
    hit.0

-- the number of the bound, given the hits
abbrev pub bound_of : List ℕ → ℕ → List ℕ → ℕ
bound_of set left found = length found + min left (length set - 1 - rank set (get_or found (length found - 1) 0))

pub get_or_end : (xs : List ℕ) (x : ℕ) → get_or (xs ++ x ∷ []) (length (xs ++ x ∷ []) - 1) 0 ≡ x
get_or_end [] x = refl
get_or_end (y ∷ xs) x =
    let z : length (xs ++ x ∷ []) ≡ length xs + 1 = length-append xs (x ∷ []) in
    let e : length ((y ∷ xs) ++ x ∷ []) - 1 ≡ suc (length (xs ++ x ∷ []) - 1) = omega (arith, z) in
    ap (λ (n : ℕ). get_or (y ∷ (xs ++ x ∷ [])) n 0) e ∙ get_or_end xs x

-- With one more list, no bound of a column that was seen rises.
pub bound_falls : (set qs : List ℕ) (i : ℕ) → Rises qs → i < length qs → 0 < length (hits set (take i qs))
    → bound_of set (length qs - (i + 1)) (hits set (take (i + 1) qs)) ≤ bound_of set (length qs - i) (hits set (take i qs))
bound_falls set qs i up h some = by (is_among set (get_or qs i 0)) refl
  where
    by : (b : Bool) → is_among set (get_or qs i 0) ≡ b → bound_of set (length qs - (i + 1)) (hits set (take (i + 1) qs)) ≤ bound_of set (length qs - i) (hits set (take i qs))
    by true e =
        let found = hits set (take i qs) in
        let t = get_or qs i 0 in
        let more : hits set (take (i + 1) qs) ≡ found ++ t ∷ [] = hits_more set qs i 0 h ∙ ap (λ b. found ++ cond b (t ∷ []) []) e in
        let n : length (found ++ t ∷ []) ≡ length found + 1 = length-append found (t ∷ []) in
        let end : get_or (found ++ t ∷ []) (length (found ++ t ∷ []) - 1) 0 ≡ t = get_or_end found t in
        let l = get_or found (length found - 1) 0 in
        let below = rank_below set l t (last_below set qs i 0 up h some) (last_hit set qs i 0 up h some) in
        let within = rank_within set t e in
        let same : bound_of set (length qs - (i + 1)) (hits set (take (i + 1) qs)) ≡ length (found ++ t ∷ []) + min (length qs - (i + 1)) (length set - 1 - rank set t) =
        ap (bound_of set (length qs - (i + 1))) more ∙ ap (λ (m : ℕ). length (found ++ t ∷ []) + min (length qs - (i + 1)) (length set - 1 - rank set m)) end in
        omega (arith, same, n, below, within)
    by false e =
        let found = hits set (take i qs) in
        let more : hits set (take (i + 1) qs) ≡ found = hits_more set qs i 0 h ∙ ap (λ b. found ++ cond b (get_or qs i 0 ∷ []) []) e ∙ append-nil found in
        let same : bound_of set (length qs - (i + 1)) (hits set (take (i + 1) qs)) ≡ bound_of set (length qs - (i + 1)) found = ap (bound_of set (length qs - (i + 1))) more in
        omega (arith, same)

-- and this number is the bound of the definition
pub bound_is : (c : Titled) (set : List ℕ) (left column : ℕ) (found : List ℕ) → (seen_by c set left column found).bound.overlap ≡ bound_of set left found
bound_is c set left column found = refl
