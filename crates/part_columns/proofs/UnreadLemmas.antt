-- Behind the last of its tokens in the lists that were read, a set has none of the tokens of these lists. So there its
-- tokens may as well be looked for among all tokens of a query.
use Rattle.std.proofs.Common.{◌≡◌, refl, ap, sym, ◌∙◌, subst, ℕ, suc, ◌+◌, ◌-◌, ◌<◌, ◌≤◌, List, [], ◌∷◌, Bool, true, false, ◌||◌, cond, length, arith, take, drop, get_or, Bor, Option, Some, None, eqb as nat_eq}
use Rattle.std.specs.Prelude.{IfSome}
use Rattle.std.specs.List.{AllByRecursion, count_by}
use Rattle.std.proofs.Math.Bool.{or-true}
use Rattle.std.proofs.lemmas.Bool.Decides.{nat_tests}
use Rattle.std.proofs.lemmas.List.{take-append-drop}
use Rattle.std.proofs.lemmas.List.Elements.{All-from_recursion}
use Rattle.std.proofs.lemmas.List.Folds.{list_any-append}
use Rattle.lake_model.specs.Layout.{is_among}
use Rattle.list_laws.specs.Distinct.{Rises}
use Rattle.list_laws.proofs.ListLemmas.{rises_filter, rises_left, split_bool, not_both}
use Rattle.list_laws.proofs.TestLemmas.{count-cons, once}
use Rattle.search_model.specs.Looks.{hits}
use Rattle.search_model.proofs.FilterLemmas.{after_all, IsHit}
use Rattle.part_columns.specs.declared.tally.Tally.{Tally}
use Rattle.part_columns.specs.Tallies.{position_in, tally_of}
use Rattle.token_set.specs.Bits.{has, IsSetOf}
use Rattle.part_columns.proofs.ProbeLemmas.{front_has, last_hit, later_above, last_of, position_is}
use Rattle.part_columns.proofs.TouchedLemmas.{all_among}

-- none of these numbers is greater than the last
not_behind_last : (xs : List ℕ) (t : ℕ) → Rises xs → is_among xs t ≡ true → t ≤ get_or xs (length xs - 1) 0
not_behind_last [] t up e = not_both (t ≤ 0) false e refl
not_behind_last (x ∷ []) t up e = by (nat_eq t x) refl e
  where
    by : (b : Bool) → nat_eq t x ≡ b → (b || false) ≡ true → t ≤ x
    by true f h = grind (arith, nat_tests)
    by false f h = not_both (t ≤ x) false h refl
not_behind_last (x ∷ y ∷ ys) t up e =
    let behind : suc (length ys) ≡ length (x ∷ y ∷ ys) - 1 = omega arith in
    let there : length (y ∷ ys) - 1 ≡ length ys = omega arith in
    subst (λ (n : ℕ). t ≤ get_or (x ∷ y ∷ ys) n 0) behind (by (λ h. subst (λ (n : ℕ). t ≤ get_or (y ∷ ys) n 0) there (not_behind_last (y ∷ ys) t up.1 h)) (nat_eq t x) refl e)
  where
    last : x < get_or (y ∷ ys) (length ys) 0
    last = All-from_recursion (λ z. x < z) (y ∷ ys) up.0 (length ys) 0 (omega arith)

    by : (is_among (y ∷ ys) t ≡ true → t ≤ get_or (y ∷ ys) (length ys) 0) → (b : Bool) → nat_eq t x ≡ b → (b || is_among (y ∷ ys) t) ≡ true → t ≤ get_or (y ∷ ys) (length ys) 0
    by later true f h = let at : t ≡ x = grind (arith, nat_tests) in omega (arith, at, last)
    by later false f h = later h

-- a token of the set that was asked for is a hit
is_hit : (set qs : List ℕ) (t : ℕ) → is_among set t ≡ true → is_among qs t ≡ true → is_among (hits set qs) t ≡ true
is_hit set [] t there e = e
is_hit set (q ∷ qs) t there e = by (is_hit set qs t there) (nat_eq t q) refl e
  where
    behind : (b : Bool) → is_among (hits set qs) t ≡ true → is_among (cond b (q ∷ hits set qs) (hits set qs)) t ≡ true
    behind true h = ap (λ (c : Bool). nat_eq t q || c) h ∙ or-true (nat_eq t q)
    behind false h = h

    by : (is_among qs t ≡ true → is_among (hits set qs) t ≡ true) → (b : Bool) → nat_eq t q ≡ b → (b || is_among qs t) ≡ true → is_among (cond (is_among set q) (q ∷ hits set qs) (hits set qs)) t ≡ true
    by later true f h =
        let at : t ≡ q = grind (arith, nat_tests) in
        let own : is_among set q ≡ true = subst (λ (n : ℕ). is_among set n ≡ true) at there in
        ap (λ (b : Bool). is_among (cond b (q ∷ hits set qs) (hits set qs)) t) own ∙ ap (λ (b : Bool). b || is_among (hits set qs) t) f
    by later false f h = behind (is_among set q) (later h)

agree : (p q : ℕ → Bool) (ts : List ℕ) → AllByRecursion (λ t. p t ≡ q t) ts → count_by p ts ≡ count_by q ts
agree p q [] h = refl
agree p q (t ∷ ts) h = omega (arith, count-cons p t ts, count-cons q t ts, ap once h.0, agree p q ts h.1)

-- a set of the tokens counts as many as the tokens themselves
pub set_counts : (set : Option (Bor (List ℕ))) (tokens tail : List ℕ) (count : ℕ) → IfSome set (λ s. IsSetOf s.now tokens) → count_by (is_among tokens) tail ≡ count → IfSome set (λ s. count_by (has s.now) tail ≡ count)
set_counts None tokens tail count is e = tt
set_counts (Some s) tokens tail count is e = (λ j. count_by (λ t. is t j) tail) ∙ e

module _ (set qs : List ℕ) (i : ℕ) (tally : Tally) (over : Rises set) (up : Rises qs) (some : 0 < tally.count) (is : tally ≡ tally_of set (hits set (take i qs))) where
  abbrev found : List ℕ
  found = hits set (take i qs)

  abbrev last : ℕ
  last = get_or found (length found - 1) 0

  abbrev n : ℕ
  n = position_in set tally + 1

  hit : IsHit (is_among set) (take i qs) last
  hit = last_hit set qs i (last_of set found tally some is).2

  greater : AllByRecursion (λ t. last < t) (drop n set)
  greater =
      let front : is_among (take n set) last ≡ true = subst (λ (m : ℕ). is_among (take (m + 1) set) last ≡ true) (sym (position_is set qs i tally some is)) (front_has set last over hit.0) in
      after_all (take n set) (drop n set) last (subst Rises (sym (take-append-drop n set)) over) front

  found_rises : Rises found
  found_rises = rises_filter (is_among set) (take i qs) (rises_left (take i qs) (drop i qs) (subst Rises (sym (take-append-drop i qs)) up))

  -- a token behind the last hit is in none of the lists read
  none_read : (t : ℕ) → is_among (drop n set) t ≡ true → last < t → is_among (take i qs) t ≡ false
  none_read t there high = split_bool (is_among (take i qs) t ≡ false) (is_among (take i qs) t)
      (λ e.
      let own : is_among set t ≡ true = ap (λ (xs : List ℕ). is_among xs t) (sym (take-append-drop n set)) ∙ list_any-append (nat_eq t) (take n set) (drop n set) ∙ ap (λ (b : Bool). is_among (take n set) t || b) there ∙ or-true (is_among (take n set) t) in
      absurd (omega (arith, high, not_behind_last found t found_rises (is_hit set (take i qs) t own e))))
      (λ e. e)

  same_there : (t : ℕ) → is_among (drop n set) t ≡ true → is_among qs t ≡ is_among (drop i qs) t
  same_there t there =
      let high : last < t = later_above last t (drop n set) greater there in
      ap (λ (xs : List ℕ). is_among xs t) (sym (take-append-drop i qs)) ∙ list_any-append (nat_eq t) (take i qs) (drop i qs) ∙ ap (λ (b : Bool). b || is_among (drop i qs) t) (none_read t there high)

  -- the tokens behind the last hit that are among all of the query's are among those of the lists that were not read
  pub unread_counts : count_by (is_among qs) (drop n set) ≡ count_by (is_among (drop i qs)) (drop n set)
  unread_counts = agree (is_among qs) (is_among (drop i qs)) (drop n set) (all_among (λ t. is_among qs t ≡ is_among (drop i qs) t) (drop n set) same_there)
