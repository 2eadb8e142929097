-- No column shares more tokens with the query than its bound says.
use Rattle.std.proofs.Common.{◌≡◌, refl, ap, sym, ◌∙◌, ℕ, ◌+◌, ◌-◌, ◌<◌, ◌≤◌, List, [], ◌∷◌, Bool, true, false, ◌||◌, length, arith, eqb as nat_eq, ltb as nat_lt}
use Rattle.std.specs.List.{count_by, AllByRecursion}
use Rattle.std.proofs.lemmas.List.Sums.{length-filter, count_by-le-length}
use Rattle.std.proofs.lemmas.Bool.Decides.{nat_tests}
use Rattle.search_model.specs.Segment.{rank}
use Rattle.search_model.specs.Looks.{hits}
use Rattle.lake_model.specs.Layout.{is_among}
use Rattle.list_laws.proofs.TestLemmas.{count-cons, once}

abbrev pub Distinct : List ℕ → Type 0
Distinct [] = Unit {0}
Distinct (x ∷ xs) = (is_among xs x ≡ false) × Distinct xs

-- what is in a list is counted at least once there
pub among_counts : (d : ℕ) (set : List ℕ) → is_among set d ≡ true → 1 ≤ count_by (nat_eq d) set
among_counts d [] h = absurd (let f : false ≡ true = h in cc)
among_counts d (s ∷ set) h = elim (nat_eq d s) as (λ b. nat_eq d s ≡ b → (b || is_among set d) ≡ true → 1 ≤ count_by (nat_eq d) (s ∷ set)) [
  | true ↦ λ e k. omega (arith, count-cons (nat_eq d) s set, ap once e)
  | false ↦ λ e k. omega (arith, count-cons (nat_eq d) s set, among_counts d set k)
] refl h

-- a list without d, and with it
count_apart : (d : ℕ) (ds set : List ℕ) → is_among ds d ≡ false → count_by (is_among (d ∷ ds)) set ≡ count_by (nat_eq d) set + count_by (is_among ds) set
count_apart d ds [] h = refl
count_apart d ds (s ∷ set) h =
    let here : once (nat_eq s d || is_among ds s) ≡ once (nat_eq d s) + once (is_among ds s) = by (nat_eq d s) refl in
    omega (arith, count-cons (is_among (d ∷ ds)) s set, count-cons (nat_eq d) s set, count-cons (is_among ds) s set, count_apart d ds set h, here)
  where
    by : (b : Bool) → nat_eq d s ≡ b → once (nat_eq s d || is_among ds s) ≡ once (nat_eq d s) + once (is_among ds s)
    by true e =
        let at : d ≡ s = grind (arith, nat_tests) in
        let back : nat_eq s d ≡ true = grind (arith, nat_tests) in
        let not_in : is_among ds s ≡ false = ap (is_among ds) (sym at) ∙ h in
        ap (λ b. once (b || is_among ds s)) back ∙ sym (ap (λ b. once b + once (is_among ds s)) e ∙ ap (λ b. 1 + once b) not_in)
    by false e =
        let back : nat_eq s d ≡ false = grind (arith, nat_tests) in
        ap (λ b. once (b || is_among ds s)) back ∙ sym (ap (λ b. once b + once (is_among ds s)) e ∙ (let z : 0 + once (is_among ds s) ≡ once (is_among ds s) = omega arith in z))

-- of a list of distinct tokens, no more are in the set than members of the set are in the list
pub hits_le_count : (ds set : List ℕ) → Distinct ds → count_by (is_among set) ds ≤ count_by (is_among ds) set
hits_le_count [] set h = omega arith
hits_le_count (d ∷ ds) set h = by (hits_le_count ds set h.1) (is_among set d) refl
  where
    by : count_by (is_among set) ds ≤ count_by (is_among ds) set → (b : Bool) → is_among set d ≡ b → count_by (is_among set) (d ∷ ds) ≤ count_by (is_among (d ∷ ds)) set
    by less true e = omega (arith, count-cons (is_among set) d ds, ap once e, count_apart d ds set h.0, among_counts d set e)
    by less false e = omega (arith, count-cons (is_among set) d ds, ap once e, count_apart d ds set h.0)

-- a weaker test counts as many or more
pub count_weaker : (p q : ℕ → Bool) → ((x : ℕ) → p x ≡ true → q x ≡ true) → (xs : List ℕ) → count_by p xs ≤ count_by q xs
count_weaker p q w [] = omega arith
count_weaker p q w (x ∷ xs) = by (count_weaker p q w xs) (p x) refl
  where
    by : count_by p xs ≤ count_by q xs → (b : Bool) → p x ≡ b → count_by p (x ∷ xs) ≤ count_by q (x ∷ xs)
    by less true e = omega (arith, count-cons p x xs, count-cons q x xs, ap once e, ap once (w x e))
    by less false e = omega (arith, count-cons p x xs, count-cons q x xs, ap once e)

-- below, at and above a token
pub three_parts : (l : ℕ) (set : List ℕ) → rank set l + count_by (nat_eq l) set + count_by (nat_lt l) set ≡ length set
three_parts l [] = refl
three_parts l (s ∷ set) =
    let here : once (nat_lt s l) + once (nat_eq l s) + once (nat_lt l s) ≡ 1 = grind (arith, nat_tests) in
    omega (arith, count-cons (λ t. nat_lt t l) s set, count-cons (nat_eq l) s set, count-cons (nat_lt l) s set, three_parts l set, here)

among_above : (l : ℕ) (ds : List ℕ) → AllByRecursion (λ t. l < t) ds → (s : ℕ) → is_among ds s ≡ true → nat_lt l s ≡ true
among_above l [] h s e = absurd (let f : false ≡ true = e in cc)
among_above l (d ∷ ds) h s e = elim (nat_eq s d) as (λ b. nat_eq s d ≡ b → (b || is_among ds s) ≡ true → nat_lt l s ≡ true) [
  | true ↦ λ t k. let lt = h.0 in let at : s ≡ d = grind (arith, nat_tests) in let less : l < s = omega arith in grind (arith, nat_tests)
  | false ↦ λ f k. among_above l ds h.1 s k
] refl e

-- the tokens above it all come after it
pub rank_front : (l : ℕ) (set : List ℕ) → AllByRecursion (λ y. l < y) set → rank set l ≡ 0
rank_front l [] h = refl
rank_front l (s ∷ set) h = let lt = h.0 in let e : nat_lt s l ≡ false = grind (arith, nat_tests) in omega (arith, count-cons (λ o. nat_lt o l) s set, ap once e, rank_front l set h.1)

-- the position filter: after the last shared token, a set has no more tokens than those that follow it
pub position_filter : (set left : List ℕ) (l : ℕ) → is_among set l ≡ true → Distinct left → AllByRecursion (λ t. l < t) left → length (hits set left) ≤ length set - 1 - rank set l
position_filter set left l in_set distinct above =
    omega (arith, length-filter (is_among set) left, hits_le_count left set distinct, count_weaker (is_among left) (nat_lt l) (among_above l left above) set, three_parts l set, among_counts l set in_set)

-- the prefix filter: there are no more than the lists that are left
pub prefix_filter : (set left : List ℕ) → length (hits set left) ≤ length left
prefix_filter set left = omega (arith, length-filter (is_among set) left, count_by-le-length (is_among set) left)
