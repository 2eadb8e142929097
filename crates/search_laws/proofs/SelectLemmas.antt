-- What leaves the first k as they are, and how the first k change.
use Rattle.std.proofs.Common.{◌≡◌, refl, ap, sym, ◌∙◌, subst, ℕ, zero, suc, ◌+◌, ◌-◌, ◌<◌, ◌≤◌, List, [], ◌∷◌, ◌++◌, map, Bool, true, false, not, arith, cond, take, append_assoc, Some, None}
use Rattle.std.specs.List.{filter, AllByRecursion, count_by, slice_get}
use Rattle.std.specs.BinaryHeap.{lt_by_cmp}
use Rattle.std.specs.List.Sorted.{IsPermutation, IsSortedBy}
use Rattle.std.specs.Cmp.{IsTotalOrder, IsStrictWeakOrder}
use Rattle.std.specs.Ordering.{is_lt}
use Rattle.std.specs.declared.cmp.Ordering.TheVariants.{Equal}
use Rattle.std.specs.declared.cmp.Ordering.{Ordering}
use Rattle.std.proofs.lemmas.List.{map-append}
use Rattle.std.proofs.lemmas.List.Sums.{sum_by-append}
use Rattle.std.proofs.lemmas.List.Sorted.{IsPermutation-refl, IsPermutation-sym, IsPermutation-trans, IsPermutation-cons, IsPermutation-map, IsPermutation-middle, IsPermutation-append_left, IsPermutation-append_right, IsPermutation-append_comm}
use Rattle.lake_model.specs.Sorting.{in_order, put_in_order}
use Rattle.lake_model.proofs.AnswerLemmas.{row_cmp_exact, row_cmp_total}
use Rattle.lake_model.proofs.SortingLemmas.{in_order-IsPermutation, sorted_is, by_test}
use Rattle.lake_model.specs.Answer.{Row, row_cmp}
use Rattle.lake_model.proofs.SortingLemmas.{less_order, ordered_in_order, Ordered, stays, only_equal}
use Rattle.search_laws.specs.Select.{best, no_later, IsBehind}
use Rattle.list_laws.proofs.TestLemmas.{count-cons, once}

count-append : {X : Type 0} (p : X → Bool) (xs ys : List X) → count_by p (xs ++ ys) ≡ count_by p xs + count_by p ys
count-append p xs ys = sum_by-append (λ y. once (p y)) xs ys

take_take : {X : Type 0} (k : ℕ) (ys : List X) → take k (take (suc k) ys) ≡ take k ys
take_take zero ys = refl
take_take (suc k) [] = refl
take_take (suc k) (y ∷ ys) = ap (λ us. y ∷ us) (take_take k ys)

take_twice : {X : Type 0} (k : ℕ) (y : X) (ys : List X) → take k (y ∷ take k ys) ≡ take k (y ∷ ys)
take_twice zero y ys = refl
take_twice (suc k) y ys = ap (λ us. y ∷ us) (take_take k ys)

module _ {X : Type 0} {R : X → X → Ordering} (total : IsTotalOrder R) (exact : (x y : X) → R x y ≡ Equal → x ≡ y) where
  abbrev less : X → X → Bool
  less x y = is_lt (R x y)

  abbrev o : IsStrictWeakOrder less
  o = less_order total

  abbrev Up : List X → Type 0
  Up xs = Ordered less o xs

  count_put : (p : X → Bool) (x : X) (ys : List X) → count_by p (put_in_order R x ys) ≡ once (p x) + count_by p ys
  unfolding put_in_order
  count_put p x [] = count-cons p x []
  count_put p x (y ∷ ys) = elim (less y x) as (λ b. count_by p (cond b (y ∷ put_in_order R x ys) (x ∷ y ∷ ys)) ≡ once (p x) + count_by p (y ∷ ys)) [
    | true ↦ omega (arith, count-cons p y (put_in_order R x ys), count-cons p y ys, count_put p x ys)
    | false ↦ count-cons p x (y ∷ ys)
  ]

  pub count_in_order : (p : X → Bool) (xs : List X) → count_by p (in_order R xs) ≡ count_by p xs
  unfolding in_order
  count_in_order p [] = refl
  count_in_order p (x ∷ xs) = omega (arith, count_put p x (in_order R xs), count-cons p x xs, count_in_order p xs)

  -- x comes before y, and w does not
  before_both : (x y w : X) → less x y ≡ true → less w y ≡ false → less x w ≡ true
  before_both x y w l h = by_test (less x w) (λ e. e) (λ e. absurd (let c : less x y ≡ false = o.chain x w y e h in let f : true ≡ false = sym l ∙ c in cc))

  none_no_later : (x y : X) (ws : List X) → less x y ≡ true → AllByRecursion (λ w. less w y ≡ false) ws → count_by (no_later R x) ws ≡ 0
  none_no_later x y [] l h = refl
  none_no_later x y (w ∷ ws) l h = omega (arith, count-cons (no_later R x) w ws, ap (λ b. once (not b)) (before_both x y w l h.0), none_no_later x y ws l h.1)

  no_sooner : (x y : X) (ws : List X) → less y x ≡ false → AllByRecursion (λ w. less w y ≡ false) ws → AllByRecursion (λ w. less w x ≡ false) ws
  no_sooner x y [] n h = tt
  no_sooner x y (w ∷ ws) n h = (o.chain w y x h.0 n, no_sooner x y ws n h.1)

  -- an element with k elements no later than itself does not change the first k
  take_put_behind : (k : ℕ) (x : X) (ys : List X) → Up ys → k ≤ count_by (no_later R x) ys → take k (put_in_order R x ys) ≡ take k ys
  unfolding put_in_order
  take_put_behind zero x ys up h = refl
  take_put_behind (suc k) x [] up h = absurd (omega arith)
  take_put_behind (suc k) x (y ∷ ys) up h =
      let few : once (no_later R x y) ≤ 1 = at_most (no_later R x y) in
      let rest = λ (g : k ≤ count_by (no_later R x) ys). take_put_behind k x ys up.1 g in
      by_test (less y x)
      (λ l. ap (λ b. take (suc k) (cond b (y ∷ put_in_order R x ys) (x ∷ y ∷ ys))) l ∙ ap (λ us. y ∷ us) (rest (omega (arith, count-cons (no_later R x) y ys, few))))
      (λ n. ap (λ b. take (suc k) (cond b (y ∷ put_in_order R x ys) (x ∷ y ∷ ys))) n ∙ by_test (less x y)
      (λ l. absurd (omega (arith, count-cons (no_later R x) y ys, ap (λ b. once (not b)) l, none_no_later x y ys l up.0)))
      (λ m.
      let same : y ≡ x = only_equal total exact y x n m in
      let alone : put_in_order R x ys ≡ x ∷ ys = stays total x ys (no_sooner x y ys n up.0) in
      let ih : take k (x ∷ ys) ≡ take k ys = ap (take k) (sym alone) ∙ rest (omega (arith, count-cons (no_later R x) y ys, few)) in
      ap (λ z. x ∷ take k (z ∷ ys)) same ∙ ap (λ us. x ∷ us) ih ∙ ap (λ z. z ∷ take k ys) (sym same)))
    where
      at_most : (b : Bool) → once b ≤ 1
      at_most true = omega arith
      at_most false = omega arith

  pub best_behind : (k : ℕ) (x : X) (xs : List X) → IsBehind R k xs x → best R k (x ∷ xs) ≡ best R k xs
  unfolding in_order
  best_behind k x xs h = take_put_behind k x (in_order R xs) (ordered_in_order total xs) (omega (arith, count_in_order (no_later R x) xs))

  pub best_IsPermutation : (k : ℕ) (xs ys : List X) → IsPermutation xs ys → best R k ys ≡ best R k xs
  best_IsPermutation k xs ys p = ap (take k) (in_order-IsPermutation total exact xs ys p)

  -- several elements, each with k elements no later than itself, do not change the first k
  all_behind : (k : ℕ) (zs ys : List X) → AllByRecursion (λ z. IsBehind R k ys z) zs → best R k (zs ++ ys) ≡ best R k ys
  all_behind k [] ys h = refl
  all_behind k (z ∷ zs) ys h = best_behind k z (zs ++ ys) (let f = h.0 in omega (arith, count-append (no_later R z) zs ys)) ∙ all_behind k zs ys h.1

  -- one more element, given only the first k
  take_put : (k : ℕ) (x : X) (ys : List X) → take k (put_in_order R x (take k ys)) ≡ take k (put_in_order R x ys)
  unfolding put_in_order
  take_put zero x ys = refl
  take_put (suc k) x [] = refl
  take_put (suc k) x (y ∷ ys) = elim (less y x) as (λ b. take (suc k) (cond b (y ∷ put_in_order R x (take k ys)) (x ∷ y ∷ take k ys)) ≡ take (suc k) (cond b (y ∷ put_in_order R x ys) (x ∷ y ∷ ys))) [
    | true ↦ ap (λ us. y ∷ us) (take_put k x ys)
    | false ↦ ap (λ us. x ∷ us) (take_twice k y ys)
  ]

  -- one step of a heap
  pub best_more : (k : ℕ) (x : X) (xs : List X) → best R k (x ∷ xs) ≡ take k (put_in_order R x (best R k xs))
  unfolding in_order
  best_more k x xs = sym (take_put k x (in_order R xs))

  same_front : (k : ℕ) (xs ys zs : List X) → best R k xs ≡ best R k ys → best R k (zs ++ xs) ≡ best R k (zs ++ ys)
  same_front k xs ys [] e = e
  same_front k xs ys (z ∷ zs) e = best_more k z (zs ++ xs) ∙ ap (λ us. take k (put_in_order R z us)) (same_front k xs ys zs e) ∙ sym (best_more k z (zs ++ ys))

  -- the first k of a longer list depend only on the first k
  pub best_append : (k : ℕ) (xs ys zs : List X) → best R k xs ≡ best R k ys → best R k (xs ++ zs) ≡ best R k (ys ++ zs)
  best_append k xs ys zs e =
      sym (best_IsPermutation k (xs ++ zs) (zs ++ xs) (IsPermutation-append_comm xs zs)) ∙ same_front k xs ys zs e ∙ best_IsPermutation k (ys ++ zs) (zs ++ ys) (IsPermutation-append_comm ys zs)

  at_place : (P : X → Type 0) (ys : List X) (j : ℕ) (w : X) → AllByRecursion P ys → slice_get ys j ≡ Some w → P w
  at_place P [] j w h e = absurd (let f : None ≡ Some w = e in cc)
  at_place P (y ∷ ys) zero w h e = let f : y ≡ w = cc in subst P f h.0
  at_place P (y ∷ ys) (suc j) w h e = at_place P ys j w h.1 e

  counted : (j : ℕ) (x w : X) (ys : List X) → Up ys → slice_get ys j ≡ Some w → less x w ≡ false → j + 1 ≤ count_by (no_later R x) ys
  counted j x w [] up e l = absurd (let f : None ≡ Some w = e in cc)
  counted zero x w (y ∷ ys) up e l = let f : w ≡ y = cc in omega (arith, count-cons (no_later R x) y ys, ap (λ b. once (not b)) (ap (less x) (sym f) ∙ l))
  counted (suc j) x w (y ∷ ys) up e l =
      let first : less x y ≡ false = o.chain x w y l (at_place (λ v. less v y ≡ false) ys j w up.0 e) in
      omega (arith, count-cons (no_later R x) y ys, ap (λ b. once (not b)) first, counted j x w ys up.1 e l)

  -- an element that does not come before the k-th has k elements no later than itself
  pub behind_worst : (k : ℕ) (xs : List X) (x w : X) → 0 < k → slice_get (in_order R xs) (k - 1) ≡ Some w → less x w ≡ false → IsBehind R k xs x
  behind_worst k xs x w some e l = omega (arith, counted (k - 1) x w (in_order R xs) (ordered_in_order total xs) e l, count_in_order (no_later R x) xs)

  module _ {C : Type 0} (f : C → X) (p : C → Bool) where
    abbrev out : List C → List C
    out cs = filter (λ c. not (p c)) cs

    parted : (cs : List C) → IsPermutation cs (out cs ++ filter p cs)
    parted [] = IsPermutation-refl []
    parted (c ∷ cs) = by (parted cs) (p c)
      where
        by : IsPermutation cs (out cs ++ filter p cs) → (b : Bool) → IsPermutation (c ∷ cs) (cond (not b) (c ∷ out cs) (out cs) ++ cond b (c ∷ filter p cs) (filter p cs))
        by h true = IsPermutation-trans (c ∷ cs) (c ∷ (out cs ++ filter p cs)) (out cs ++ c ∷ filter p cs) (IsPermutation-cons c cs (out cs ++ filter p cs) h) (IsPermutation-sym (out cs ++ c ∷ filter p cs) (c ∷ (out cs ++ filter p cs)) (IsPermutation-middle (out cs) c (filter p cs)))
        by h false = IsPermutation-cons c cs (out cs ++ filter p cs) h

    out_behind : (k : ℕ) (ys : List X) (cs : List C) → AllByRecursion (λ c. p c ≡ false → IsBehind R k ys (f c)) cs → AllByRecursion (λ z. IsBehind R k ys z) (map f (out cs))
    out_behind k ys [] h = tt
    out_behind k ys (c ∷ cs) h = by (out_behind k ys cs h.1) (p c) refl
      where
        by : AllByRecursion (λ z. IsBehind R k ys z) (map f (out cs)) → (b : Bool) → p c ≡ b → AllByRecursion (λ z. IsBehind R k ys z) (map f (cond (not b) (c ∷ out cs) (out cs)))
        by r true e = r
        by r false e = (h.0 e, r)

    -- leaving out elements with k others no later than themselves leaves the first k
    pub best_filter : (k : ℕ) (before : List X) (cs : List C) → AllByRecursion (λ c. p c ≡ false → IsBehind R k (before ++ map f (filter p cs)) (f c)) cs
        → best R k (before ++ map f cs) ≡ best R k (before ++ map f (filter p cs))
    best_filter k before cs h =
        let outs = map f (out cs) in
        let ins = map f (filter p cs) in
        let one : IsPermutation (map f cs) (outs ++ ins) = subst (λ (us : List X). IsPermutation (map f cs) us) (map-append f (out cs) (filter p cs)) (IsPermutation-map f cs (out cs ++ filter p cs) (parted cs)) in
        let two : IsPermutation (before ++ map f cs) (before ++ (outs ++ ins)) = IsPermutation-append_right before (map f cs) (outs ++ ins) one in
        let three : IsPermutation ((before ++ outs) ++ ins) ((outs ++ before) ++ ins) = IsPermutation-append_left ins (before ++ outs) (outs ++ before) (IsPermutation-append_comm before outs) in
        sym (best_IsPermutation k (before ++ map f cs) (before ++ (outs ++ ins)) two)
        ∙ ap (best R k) (sym (append_assoc before outs ins))
        ∙ sym (best_IsPermutation k ((before ++ outs) ++ ins) ((outs ++ before) ++ ins) three)
        ∙ ap (best R k) (append_assoc outs before ins)
        ∙ all_behind k outs (before ++ ins) (out_behind k (before ++ ins) cs h)

-- rows that are sorted are in the order of an answer
pub sorted_rows : (items rows : List Row) → IsPermutation items rows → IsSortedBy (lt_by_cmp row_cmp) rows → rows ≡ in_order row_cmp items
sorted_rows items rows p up = sorted_is row_cmp_total row_cmp_exact rows up ∙ in_order-IsPermutation row_cmp_total row_cmp_exact items rows p
