-- One more list raises the tallies of the columns that are in it.
use Rattle.std.proofs.Common.{◌≡◌, refl, ap, sym, ◌∙◌, subst, inl, inr, ℕ, zero, suc, ◌+◌, ◌-◌, ◌<◌, ◌≤◌, List, [], ◌∷◌, ◌++◌, Bool, true, false, length, map, arith, cond, take, drop, set, get_or, min, length-append, append-nil, eqb as nat_eq}
use Rattle.std.specs.Prelude.{fold}
use Rattle.std.specs.List.{AllByRecursion, enumerate_from, filter, list_any}
use Rattle.std.proofs.lemmas.Bool.{cases_eq, cases_lt}
use Rattle.std.proofs.lemmas.Bool.Decides.{nat_tests}
use Rattle.std.proofs.lemmas.List.{get_or-set_same, get_or-set_other, get_or_past, take_more, take-append-drop}
use Rattle.std.proofs.lemmas.List.Elements.{All-from_recursion, filter-append}
use Rattle.std.proofs.lemmas.List.Sums.{fold_push}
use Rattle.lake_model.specs.Layout.{is_among}
use Rattle.search_model.proofs.BoundLemmas.{prefix_filter}
use Rattle.search_model.specs.declared.Posting.{Posting}
use Rattle.search_model.specs.Looks.{hits}
use Rattle.search_model.specs.Segment.{posting, postings_of, rank}
use Rattle.search_state.proofs.FallLemmas.{hits_more, get_or_end}
use Rattle.part_columns.specs.declared.tally.Tally.{Tally}
use Rattle.part_columns.specs.Tallies.{AreTallies, counted, most_of, no_tally, of_column, raised, tally_at, tally_of, tally_with}

abbrev one_of : Bool → Posting → List Posting
one_of b p = cond b (p ∷ []) []

module _ (token column : ℕ) where
  abbrev from : ℕ → List (List ℕ) → List Posting
  from n sets = map (λ s. posting token s.0 s.1) (filter (λ s. list_any (nat_eq token) s.1) (enumerate_from n sets))

  abbrev picked : List Posting → List Posting
  picked list = filter (of_column column) list

  front : (n : ℕ) (set : List ℕ) (sets : List (List ℕ)) (b : Bool)
      → picked (map (λ (s : ℕ × List ℕ). posting token s.0 s.1) (cond b ((n, set) ∷ filter (λ s. list_any (nat_eq token) s.1) (enumerate_from (n + 1) sets)) (filter (λ s. list_any (nat_eq token) s.1) (enumerate_from (n + 1) sets))))
      ≡ cond b (cond (nat_eq n column) (posting token n set ∷ picked (from (n + 1) sets)) (picked (from (n + 1) sets))) (picked (from (n + 1) sets))
  front n set sets true = refl
  front n set sets false = refl

  none_before : (n : ℕ) (sets : List (List ℕ)) → column < n → picked (from n sets) ≡ []
  none_before n [] h = refl
  none_before n (set ∷ sets) h =
      let e : nat_eq n column ≡ false = grind (arith, nat_tests) in
      front n set sets (list_any (nat_eq token) set) ∙ by (list_any (nat_eq token) set) e (none_before (n + 1) sets (omega arith))
    where
      by : (b : Bool) → nat_eq n column ≡ false → picked (from (n + 1) sets) ≡ [] → cond b (cond (nat_eq n column) (posting token n set ∷ picked (from (n + 1) sets)) (picked (from (n + 1) sets))) (picked (from (n + 1) sets)) ≡ []
      by true e r = ap (λ t. cond t (posting token n set ∷ picked (from (n + 1) sets)) (picked (from (n + 1) sets))) e ∙ r
      by false e r = r

  picked_from : (n : ℕ) (sets : List (List ℕ)) → n ≤ column → picked (from n sets) ≡ one_of (is_among (get_or sets (column - n) []) token) (posting token column (get_or sets (column - n) []))
  picked_from n [] h = refl
  picked_from n (set ∷ sets) h = elim (nat_eq n column) as (λ t. nat_eq n column ≡ t → picked (from n (set ∷ sets)) ≡ one_of (is_among (get_or (set ∷ sets) (column - n) []) token) (posting token column (get_or (set ∷ sets) (column - n) []))) [
    | true ↦ λ e.
        let at : n ≡ column = grind (arith, nat_tests) in
        let z : column - n ≡ 0 = omega arith in
        front n set sets (list_any (nat_eq token) set) ∙ here (list_any (nat_eq token) set) at e (none_before (n + 1) sets (omega arith))
        ∙ sym (ap (λ (i : ℕ). one_of (is_among (get_or (set ∷ sets) i []) token) (posting token column (get_or (set ∷ sets) i []))) z)
    | false ↦ λ e.
        let l : n < column = grind (arith, nat_tests) in
        let z : column - n ≡ suc (column - (n + 1)) = omega arith in
        front n set sets (list_any (nat_eq token) set) ∙ later (list_any (nat_eq token) set) e ∙ picked_from (n + 1) sets (omega arith)
        ∙ sym (ap (λ (i : ℕ). one_of (is_among (get_or (set ∷ sets) i []) token) (posting token column (get_or (set ∷ sets) i []))) z)
  ] refl
    where
      here : (b : Bool) → n ≡ column → nat_eq n column ≡ true → picked (from (n + 1) sets) ≡ []
          → cond b (cond (nat_eq n column) (posting token n set ∷ picked (from (n + 1) sets)) (picked (from (n + 1) sets))) (picked (from (n + 1) sets)) ≡ one_of b (posting token column set)
      here true at e r = ap (λ t. cond t (posting token n set ∷ picked (from (n + 1) sets)) (picked (from (n + 1) sets))) e ∙ (λ i. posting token (at i) set ∷ r i)
      here false at e r = r

      later : (b : Bool) → nat_eq n column ≡ false → cond b (cond (nat_eq n column) (posting token n set ∷ picked (from (n + 1) sets)) (picked (from (n + 1) sets))) (picked (from (n + 1) sets)) ≡ picked (from (n + 1) sets)
      later true e = ap (λ t. cond t (posting token n set ∷ picked (from (n + 1) sets)) (picked (from (n + 1) sets))) e
      later false e = refl

-- the postings of a column in the list of a token: one if it has the token, and else none
pub picked_is : (sets : List (List ℕ)) (token column : ℕ) → filter (of_column column) (postings_of sets token) ≡ one_of (is_among (get_or sets column []) token) (posting token column (get_or sets column []))
picked_is sets token column = let z : column - 0 ≡ column = omega arith in picked_from token column 0 sets (omega arith) ∙ ap (λ (i : ℕ). one_of (is_among (get_or sets i []) token) (posting token column (get_or sets i []))) z

-- one more hit
hit_more : (set found : List ℕ) (token column : ℕ) → tally_of set (found ++ token ∷ []) ≡ raised (tally_of set found) (posting token column set)
hit_more set [] token column = refl
hit_more set (t ∷ ts) token column =
    let n : length ((t ∷ ts) ++ token ∷ []) ≡ length (t ∷ ts) + 1 = length-append (t ∷ ts) (token ∷ []) in
    (λ i. tally_with (n i) (length set - 1 - rank set (get_or_end (t ∷ ts) token i)))

-- After one more list, each tally is that of the lists read.
pub tallies_more : (sets : List (List ℕ)) (tokens : List ℕ) (i d : ℕ) (tallies news : List Tally) (list : List Posting) → i < length tokens → AreTallies sets (take i tokens) tallies → list ≡ postings_of sets (get_or tokens i d)
    → ((x : ℕ) → get_or news x no_tally ≡ counted x list (get_or tallies x no_tally)) → AreTallies sets (take (i + 1) tokens) news
tallies_more sets tokens i d tallies news list h are is new x =
    let set = get_or sets x [] in
    let token = get_or tokens i d in
    let found = hits set (take i tokens) in
    new x ∙ (λ j. counted x (is j) (are x j)) ∙ by (is_among set token) (picked_is sets token x) ∙ sym (ap (tally_of set) (hits_more set tokens i d h))
  where
    by : (b : Bool) → filter (of_column x) (postings_of sets (get_or tokens i d)) ≡ one_of b (posting (get_or tokens i d) x (get_or sets x []))
        → counted x (postings_of sets (get_or tokens i d)) (tally_of (get_or sets x []) (hits (get_or sets x []) (take i tokens)))
        ≡ tally_of (get_or sets x []) (hits (get_or sets x []) (take i tokens) ++ cond b (get_or tokens i d ∷ []) [])
    by true e = ap (λ (ps : List Posting). fold_over ps) e ∙ sym (hit_more (get_or sets x []) (hits (get_or sets x []) (take i tokens)) (get_or tokens i d) x)
      where
        fold_over : List Posting → Tally
        fold_over ps = fold raised (tally_of (get_or sets x []) (hits (get_or sets x []) (take i tokens))) ps
    by false e = ap (λ (ps : List Posting). fold_over ps) e ∙ ap (tally_of (get_or sets x [])) (sym (append-nil (hits (get_or sets x []) (take i tokens))))
      where
        fold_over : List Posting → Tally
        fold_over ps = fold raised (tally_of (get_or sets x []) (hits (get_or sets x []) (take i tokens))) ps

-- ---- one more posting

counted_push : (x : ℕ) (ps : List Posting) (p : Posting) (tally : Tally) (b : Bool) → of_column x p ≡ b → counted x (ps ++ p ∷ []) tally ≡ cond b (raised (counted x ps tally) p) (counted x ps tally)
counted_push x ps p tally b e = ap (fold raised tally) (filter-append (of_column x) ps (p ∷ []) ∙ ap (λ b. filter (of_column x) ps ++ one_of b p) e) ∙ by b
  where
    by : (b : Bool) → fold raised tally (filter (of_column x) ps ++ one_of b p) ≡ cond b (raised (counted x ps tally) p) (counted x ps tally)
    by true = fold_push raised tally (filter (of_column x) ps) p
    by false = ap (fold raised tally) (append-nil (filter (of_column x) ps))

pub fold_count : (ps : List Posting) (tally : Tally) → (fold raised tally ps).count ≡ tally.count + length ps
fold_count [] tally = omega arith
fold_count (p ∷ ps) tally = omega (arith, fold_count ps (raised tally p))

itself : (n : ℕ) → nat_eq n n ≡ true
itself n = grind (arith, nat_tests)

-- the count of a posting's column is below what all postings of the list make of it
pub count_fits : (list : List Posting) (j : ℕ) (d p : Posting) (tally : Tally) (bound : ℕ) → j < length list → p ≡ get_or list j d → tally.count + length (filter (of_column p.column) list) < bound → (counted p.column (take j list) tally).count + 1 < bound
count_fits list j d p tally bound h is few =
    let x = p.column in
    let front : take (j + 1) list ≡ take j list ++ p ∷ [] = take_more list j d h ∙ ap (λ q. take j list ++ q ∷ []) (sym is) in
    let more : filter (of_column x) (take (j + 1) list) ≡ filter (of_column x) (take j list) ++ p ∷ [] = ap (filter (of_column x)) front ∙ filter-append (of_column x) (take j list) (p ∷ []) ∙ ap (λ b. filter (of_column x) (take j list) ++ one_of b p) (itself x) in
    let whole : filter (of_column x) list ≡ filter (of_column x) (take (j + 1) list) ++ filter (of_column x) (drop (j + 1) list) = ap (filter (of_column x)) (sym (take-append-drop (j + 1) list)) ∙ filter-append (of_column x) (take (j + 1) list) (drop (j + 1) list) in
    omega (arith, few, fold_count (filter (of_column x) (take j list)) tally, ap length more, length-append (filter (of_column x) (take j list)) (p ∷ []), ap length whole, length-append (filter (of_column x) (take (j + 1) list)) (filter (of_column x) (drop (j + 1) list)))

pub counted_more : (tallies olds : List Tally) (list : List Posting) (j : ℕ) (d p : Posting) → j < length list → p ≡ get_or list j d → p.column < length tallies
    → ((x : ℕ) → get_or tallies x no_tally ≡ counted x (take j list) (get_or olds x no_tally))
    → (x : ℕ) → get_or (set tallies p.column (raised (get_or tallies p.column no_tally) p)) x no_tally ≡ counted x (take (j + 1) list) (get_or olds x no_tally)
counted_more tallies olds list j d p h is within so_far x = by (nat_eq p.column x) refl
  where
    front : take (j + 1) list ≡ take j list ++ p ∷ []
    front = take_more list j d h ∙ ap (λ q. take j list ++ q ∷ []) (sym is)

    by : (b : Bool) → nat_eq p.column x ≡ b → get_or (set tallies p.column (raised (get_or tallies p.column no_tally) p)) x no_tally ≡ counted x (take (j + 1) list) (get_or olds x no_tally)
    by true e =
        let at : p.column ≡ x = grind (arith, nat_tests) in
        ap (λ (n : ℕ). get_or (set tallies p.column (raised (get_or tallies p.column no_tally) p)) n no_tally) (sym at)
        ∙ get_or-set_same tallies p.column (raised (get_or tallies p.column no_tally) p) no_tally within
        ∙ ap (λ (n : ℕ). raised (get_or tallies n no_tally) p) at ∙ ap (λ (t : Tally). raised t p) (so_far x)
        ∙ sym (ap (λ (ps : List Posting). counted x ps (get_or olds x no_tally)) front ∙ counted_push x (take j list) p (get_or olds x no_tally) true e)
    by false e =
        let apart : x ≡ p.column → ⊥ = λ k. (let t : nat_eq p.column x ≡ true = ap (λ (n : ℕ). nat_eq p.column n) k ∙ itself p.column in let f : true ≡ false = sym t ∙ e in cc) in
        get_or-set_other tallies p.column x (raised (get_or tallies p.column no_tally) p) no_tally apart ∙ so_far x
        ∙ sym (ap (λ (ps : List Posting). counted x ps (get_or olds x no_tally)) front ∙ counted_push x (take j list) p (get_or olds x no_tally) false e)

-- ---- what the tallies of a part say

pub tally_count : (set found : List ℕ) → (tally_of set found).count ≡ length found
tally_count set [] = refl
tally_count set (t ∷ ts) = refl

-- the bound, given its hits
pub bound_same : (set found : List ℕ) (left : ℕ) → 0 < length found → most_of left (tally_of set found) ≡ length found + min left (length set - 1 - rank set (get_or found (length found - 1) 0))
bound_same set [] left h = absurd (omega arith)
bound_same set (t ∷ ts) left h = refl

-- no tally counts more than the number of lists read
pub tallies_small : (sets : List (List ℕ)) (tokens : List ℕ) (read : ℕ) (tallies : List Tally) → AreTallies sets (take read tokens) tallies → (x : ℕ) → (get_or tallies x no_tally).count ≤ read
tallies_small sets tokens read tallies are x =
    let set = get_or sets x [] in
    let c = ap (λ (t : Tally). t.count) (are x) ∙ tally_count set (hits set (take read tokens)) in
    omega (arith, c, prefix_filter set (take read tokens), length-take-le read tokens)
  where
    length-take-le : (n : ℕ) (xs : List ℕ) → length (take n xs) ≤ n
    length-take-le zero xs = omega arith
    length-take-le (suc n) [] = omega arith
    length-take-le (suc n) (x ∷ xs) = (let l = length-take-le n xs in omega (arith, l))

no_hits : (tokens : List ℕ) → length (hits [] tokens) ≡ 0
no_hits [] = refl
no_hits (t ∷ ts) = no_hits ts

-- a column that is counted has a set
pub counted_in : (sets : List (List ℕ)) (tokens : List ℕ) (tallies : List Tally) → AreTallies sets tokens tallies → (x : ℕ) → 0 < (tally_at tallies x).count → x < length sets
counted_in sets tokens tallies are x some = elim (cases_lt x (length sets)) [
  | inl b ↦ b
  | inr b ↦ absurd (let n = ap (λ (t : Tally). t.count) (are x) ∙ tally_count (get_or sets x []) (hits (get_or sets x []) tokens) ∙ ap (λ (set : List ℕ). length (hits set tokens)) (get_or_past sets x [] b) ∙ no_hits tokens in omega (arith, n, some))
]

-- a column is at most once in a list, and is one of the part's
pub picked_few : (sets : List (List ℕ)) (token column : ℕ) → length (filter (of_column column) (postings_of sets token)) ≤ 1
picked_few sets token column = subst (λ (ps : List Posting). length ps ≤ 1) (sym (picked_is sets token column)) (by (is_among (get_or sets column []) token))
  where
    by : (b : Bool) → length (cond b (posting token column (get_or sets column []) ∷ []) []) ≤ 1
    by true = omega arith
    by false = omega arith

within_from : (token n bound : ℕ) (sets : List (List ℕ)) → n + length sets ≤ bound → AllByRecursion (λ p. p.column < bound) (map (λ s. posting token s.0 s.1) (filter (λ s. list_any (nat_eq token) s.1) (enumerate_from n sets)))
within_from token n bound [] h = tt
within_from token n bound (s ∷ sets) h = by (list_any (nat_eq token) s) (within_from token (n + 1) bound sets (omega arith))
  where
    by : (b : Bool) → AllByRecursion (λ p. p.column < bound) (map (λ (s : ℕ × List ℕ). posting token s.0 s.1) (filter (λ s. list_any (nat_eq token) s.1) (enumerate_from (n + 1) sets)))
        → AllByRecursion (λ p. p.column < bound) (map (λ (s : ℕ × List ℕ). posting token s.0 s.1) (cond b ((n, s) ∷ filter (λ s. list_any (nat_eq token) s.1) (enumerate_from (n + 1) sets)) (filter (λ s. list_any (nat_eq token) s.1) (enumerate_from (n + 1) sets))))
    by true later = (omega arith, later)
    by false later = later

pub columns_within : (sets : List (List ℕ)) (token bound : ℕ) (list : List Posting) → length sets ≤ bound → list ≡ postings_of sets token → (k : ℕ) (d : Posting) → k < length list → (get_or list k d).column < bound
columns_within sets token bound list h e k d l =
    subst (λ (ps : List Posting). (get_or ps k d).column < bound) (sym e) (All-from_recursion (λ (p : Posting). p.column < bound) (postings_of sets token) (within_from token 0 bound sets (omega arith)) k d (let n = ap (λ (ps : List Posting). length ps) e in omega (arith, n, l)))

-- one more tally, whose count is at most a given number
pub most_set : (tallies : List Tally) (x : ℕ) (tally : Tally) (most now : ℕ) → ((y : ℕ) → (tally_at tallies y).count ≤ most) → x < length tallies → tally.count ≤ now → most ≤ now
    → (y : ℕ) → (tally_at (set tallies x tally) y).count ≤ now
most_set tallies x tally most now h within here up y = elim (cases_eq y x) [
  | inl e ↦ omega (arith, here, ap (λ (z : ℕ). (tally_at (set tallies x tally) z).count) e, ap (λ (t : Tally). t.count) (get_or-set_same tallies x tally no_tally within))
  | inr ne ↦ omega (arith, h y, up, ap (λ (t : Tally). t.count) (get_or-set_other tallies x y tally no_tally ne))
]
