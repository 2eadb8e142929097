-- Distinct keys in increasing order: their indices compare as the keys do.
use Rattle.std.proofs.Common.{◌≡◌, refl, ap, sym, ◌∙◌, ℕ, zero, suc, ◌<◌, List, [], ◌∷◌, length, get_or, true, false, inl, inr, arith}
use Rattle.std.specs.Prelude.{bytes_eq}
use Rattle.std.specs.List.{IsDistinct}
use Rattle.std.specs.List.Sorted.{IsPermutation}
use Rattle.std.specs.Cmp.{nat_cmp_is}
use Rattle.std.specs.Cmp.Lexicographic.{slice_cmp}
use Rattle.std.specs.Ordering.{is_lt, nat_cmp, ordering_reverse}
use Rattle.std.specs.declared.cmp.Ordering.{Ordering}
use Rattle.std.specs.declared.cmp.Ordering.TheVariants.{Less, Equal, Greater}
use Rattle.std.proofs.lemmas.Bool.{cases_lt}
use Rattle.std.proofs.lemmas.Cmp.{nat_list_cmp_total}
use Rattle.std.proofs.lemmas.List.Elements.{All-from_recursion}
use Rattle.std.proofs.lemmas.Map.Keys.{IsDistinct-IsPermutation, IsDistinct-tail}
use Rattle.std.proofs.lemmas.Map.Lookups.{exact_bytes}
use Rattle.std.proofs.lemmas.Slice.Eq.{bytes_eq-Decides}
use Rattle.lake_model.specs.Texts.{Text}
use Rattle.token_order.proofs.SortLemmas.{TextsRise, less}
use Rattle.search_model.proofs.TokenLemmas.{flips}

-- distinct keys are still distinct in another order
pub differ_moved : (xs ys : List Text) → IsPermutation xs ys → IsDistinct bytes_eq xs → IsDistinct bytes_eq ys
differ_moved xs ys moved d = IsDistinct-IsPermutation bytes_eq flips xs ys moved d

-- two of them, by their indices
apart_at : (xs : List Text) → IsDistinct bytes_eq xs → (i j : ℕ) → i < j → j < length xs → bytes_eq (get_or xs i []) (get_or xs j []) ≡ false
unfolding IsDistinct
apart_at [] d i j l b = absurd (omega arith)
apart_at (x ∷ xs) d i zero l b = absurd (omega arith)
apart_at (x ∷ xs) d zero (suc j) l b = All-from_recursion (λ y. bytes_eq x y ≡ false) xs d.0 j [] (omega arith)
apart_at (x ∷ xs) d (suc i) (suc j) l b = apart_at xs d.1 i j (omega arith) (omega arith)

no_more : (x y : Text) → bytes_eq x y ≡ false → x ≡ y → ⊥
no_more x y n e = let f : bytes_eq x y ≡ true = (bytes_eq-Decides x y).1 e in let g : true ≡ false = sym f ∙ n in cc

-- equal keys have the same index
pub same_place : (xs : List Text) → IsDistinct bytes_eq xs → (i j : ℕ) → i < length xs → j < length xs → get_or xs i [] ≡ get_or xs j [] → i ≡ j
same_place xs d i j b c e = elim (cases_lt i j) [
  | inl l ↦ absurd (no_more (get_or xs i []) (get_or xs j []) (apart_at xs d i j l c) e)
  | inr g ↦ elim (cases_lt j i) [
    | inl l ↦ absurd (no_more (get_or xs j []) (get_or xs i []) (apart_at xs d j i l b) (sym e))
    | inr h ↦ omega (arith, g, h)
  ]
]

less_than : (x y : Text) → less y x ≡ false → bytes_eq x y ≡ false → slice_cmp nat_cmp x y ≡ Less
less_than x y up n = by (slice_cmp nat_cmp x y) refl
  where
    by : (r : Ordering) → slice_cmp nat_cmp x y ≡ r → slice_cmp nat_cmp x y ≡ Less
    by Less e = e
    by Equal e = absurd (no_more x y n (exact_bytes x y e))
    by Greater e = absurd (let f : less y x ≡ true = ap is_lt (nat_list_cmp_total.antisymm y x) ∙ ap (λ r. is_lt (ordering_reverse r)) e in let g : true ≡ false = sym f ∙ up in cc)

before : (xs : List Text) → TextsRise xs → IsDistinct bytes_eq xs → (i j : ℕ) → i < j → j < length xs → slice_cmp nat_cmp (get_or xs i []) (get_or xs j []) ≡ Less
before [] r d i j l b = absurd (omega arith)
before (x ∷ xs) r d i zero l b = absurd (omega arith)
before (x ∷ xs) r d zero (suc j) l b = less_than x (get_or xs j []) (All-from_recursion (λ y. less y x ≡ false) xs r.0 j [] (omega arith)) (apart_at (x ∷ xs) d 0 (suc j) l b)
before (x ∷ xs) r d (suc i) (suc j) l b = before xs r.1 (IsDistinct-tail bytes_eq x xs d) i j (omega arith) (omega arith)

pub level_itself : (r : Ordering) → r ≡ ordering_reverse r → r ≡ Equal
level_itself Less e = cc
level_itself Equal e = refl
level_itself Greater e = cc

-- distinct increasing keys compare as their indices
pub places_compare : (xs : List Text) → TextsRise xs → IsDistinct bytes_eq xs → (i j : ℕ) → i < length xs → j < length xs → slice_cmp nat_cmp (get_or xs i []) (get_or xs j []) ≡ nat_cmp i j
places_compare xs r d i j b c = elim (cases_lt i j) [
  | inl l ↦ before xs r d i j l c ∙ nat_cmp_is i j Less l
  | inr g ↦ elim (cases_lt j i) [
    | inl l ↦ nat_list_cmp_total.antisymm (get_or xs i []) (get_or xs j []) ∙ ap ordering_reverse (before xs r d j i l b) ∙ nat_cmp_is i j Greater l
    | inr h ↦
        let e : j ≡ i = omega (arith, g, h) in
        let x = get_or xs i [] in
        ap (λ (n : ℕ). slice_cmp nat_cmp x (get_or xs n [])) e ∙ level_itself (slice_cmp nat_cmp x x) (nat_list_cmp_total.antisymm x x) ∙ nat_cmp_is i j Equal (sym e)
  ]
]
