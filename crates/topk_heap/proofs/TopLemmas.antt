-- How the first k rows change in a heap.
use Rattle.std.proofs.Common.{◌≡◌, refl, ap, sym, ◌∙◌, subst, ℕ, zero, suc, ◌<◌, ◌≤◌, List, [], ◌∷◌, Bool, true, false, not, length, arith, take, cond, get_or, ◌-◌, Some}
use Rattle.std.specs.List.{AllByRecursion, count_by, slice_get}
use Rattle.std.specs.List.Sorted.{IsPermutation}
use Rattle.std.specs.Ordering.{is_lt}
use Rattle.std.specs.BinaryHeap.{IsUpperBound}
use Rattle.std.proofs.lemmas.List.Sums.{sum_by-cons}
use Rattle.std.proofs.lemmas.List.Sorted.{IsPermutation-trans, IsPermutation-cons, IsPermutation-sym, IsPermutation-middle, length_permutation, All-permutation}
use Rattle.std.proofs.lemmas.List.Elements.{All-from_recursion}
use Rattle.std.proofs.lemmas.Option.{slice_get-get_or}
use Rattle.lake_model.proofs.SortingLemmas.{in_order_moves}
use Rattle.lake_model.specs.Sorting.{in_order, put_in_order}
use Rattle.lake_model.specs.Answer.{Row, row_cmp}
use Rattle.lake_model.proofs.SortingLemmas.{in_order-IsPermutation, length-in_order, all_in_order, length-put_in_order}
use Rattle.lake_model.proofs.SortingLemmas.{less_order, irreflexive, Ordered, ordered_in_order, only_equal}
use Rattle.lake_model.proofs.AnswerLemmas.{row_cmp_total, row_cmp_exact}
use Rattle.search_laws.specs.Select.{best, no_later, IsBehind}
use Rattle.search_laws.proofs.SelectLemmas.{best_behind, best_IsPermutation, best_more}

abbrev pub is_lt_row : Row → Row → Bool
is_lt_row a b = is_lt (row_cmp a b)

pub in_order_empty : in_order row_cmp [] ≡ []
unfolding in_order
in_order_empty = refl

pub pushed : (row : Row) (olds news : List Row) → IsPermutation (row ∷ olds) news → in_order row_cmp news ≡ put_in_order row_cmp row (in_order row_cmp olds)
unfolding in_order
pushed row olds news p = in_order-IsPermutation row_cmp_total row_cmp_exact (row ∷ olds) news p

pub take_all : (rows : List Row) (n : ℕ) → length rows ≤ n → take n rows ≡ rows
take_all [] zero h = refl
take_all [] (suc n) h = refl
take_all (row ∷ rows) zero h = absurd (omega arith)
take_all (row ∷ rows) (suc n) h = ap (λ us. row ∷ us) (take_all rows n (omega arith))

abbrev once : Bool → ℕ
once b = cond b 1 0

-- if a row does not come before an upper bound of some rows, all of these come no later than it
all_no_later : (row w : Row) (items : List Row) → IsUpperBound row_cmp w items → is_lt (row_cmp row w) ≡ false → count_by (no_later row_cmp row) items ≡ length items
all_no_later row w [] h l = refl
all_no_later row w (y ∷ ys) h l =
    let c : is_lt (row_cmp row y) ≡ false = (less_order row_cmp_total).chain row w y l h.0 in
    omega (arith, sum_by-cons (λ y. once (no_later row_cmp row y)) y ys, ap (λ b. once (not b)) c, all_no_later row w ys h.1 l)

pub left_out : (row w : Row) (items : List Row) → IsUpperBound row_cmp w items → is_lt (row_cmp row w) ≡ false → take (length items) (put_in_order row_cmp row (in_order row_cmp items)) ≡ in_order row_cmp items
unfolding in_order
left_out row w items h l =
    let behind : IsBehind row_cmp (length items) items row = omega (arith, all_no_later row w items h l) in
    best_behind row_cmp_total row_cmp_exact (length items) row items behind ∙ take_all (in_order row_cmp items) (length items) (omega (arith, length-in_order row_cmp_total items))

pub replaced : (row w : Row) (olds rest news : List Row) → IsPermutation olds (w ∷ rest) → IsPermutation (row ∷ rest) news → IsUpperBound row_cmp w rest → is_lt (row_cmp row w) ≡ true
    → in_order row_cmp news ≡ take (length olds) (put_in_order row_cmp row (in_order row_cmp olds))
unfolding in_order
replaced row w olds rest news p q h l =
    let n : length olds ≡ suc (length rest) = sym (length_permutation olds (w ∷ rest) p) in
    let back : is_lt (row_cmp w row) ≡ false = (less_order row_cmp_total).one_way row w l in
    let behind : IsBehind row_cmp (length olds) (row ∷ rest) w = omega (arith, n, all_no_later w w (row ∷ rest) (back, h) (irreflexive is_lt_row (less_order row_cmp_total) w)) in
    let swapped : IsPermutation (row ∷ olds) (w ∷ row ∷ rest) = IsPermutation-trans (row ∷ olds) (row ∷ w ∷ rest) (w ∷ row ∷ rest) (IsPermutation-cons row olds (w ∷ rest) p) (IsPermutation-middle (row ∷ []) w rest) in
    in_order-IsPermutation row_cmp_total row_cmp_exact (row ∷ rest) news q
    ∙ sym (take_all (in_order row_cmp (row ∷ rest)) (length olds) (omega (arith, n, length-in_order row_cmp_total (row ∷ rest))))
    ∙ sym (best_behind row_cmp_total row_cmp_exact (length olds) w (row ∷ rest) behind)
    ∙ best_IsPermutation row_cmp_total row_cmp_exact (length olds) (row ∷ olds) (w ∷ row ∷ rest) swapped

-- ---- the last of the first k

module _ (d : Row) where
  abbrev last : List Row → Row
  last rows = get_or rows (length rows - 1) d

  last-cons : (x y : Row) (ys : List Row) → last (x ∷ y ∷ ys) ≡ last (y ∷ ys)
  last-cons x y ys = let e : length (x ∷ y ∷ ys) - 1 ≡ suc (length (y ∷ ys) - 1) = omega arith in ap (λ (n : ℕ). get_or (x ∷ y ∷ ys) n d) e

  last_above : (rows : List Row) → Ordered is_lt_row (less_order row_cmp_total) rows → AllByRecursion (λ y. is_lt (row_cmp (last rows) y) ≡ false) rows
  last_above [] up = tt
  last_above (x ∷ []) up = (irreflexive is_lt_row (less_order row_cmp_total) x, tt)
  last_above (x ∷ y ∷ ys) up =
      let at : is_lt (row_cmp (last (y ∷ ys)) x) ≡ false = All-from_recursion (λ z. is_lt (row_cmp z x) ≡ false) (y ∷ ys) up.0 (length (y ∷ ys) - 1) d (omega arith) in
      subst (λ (z : Row). AllByRecursion (λ y. is_lt (row_cmp z y) ≡ false) (x ∷ y ∷ ys)) (sym (last-cons x y ys)) (at, last_above (y ∷ ys) up.1)

-- an upper bound among the rows is the last of them in order
pub last_top : (items : List Row) (w : Row) (i : ℕ) → i < length items → w ≡ get_or items i w → IsUpperBound row_cmp w items → slice_get (in_order row_cmp items) (length items - 1) ≡ Some w
last_top items w i h at up =
    let rows = in_order row_cmp items in
    let n = length-in_order row_cmp_total items in
    let z = get_or rows (length rows - 1) w in
    let no_more : is_lt (row_cmp w z) ≡ false = All-from_recursion (λ y. is_lt (row_cmp w y) ≡ false) rows (all_in_order row_cmp_total (λ y. is_lt (row_cmp w y) ≡ false) items up) (length rows - 1) w (omega (arith, n)) in
    let above = last_above w rows (ordered_in_order row_cmp_total items) in
    let back = All-permutation (λ y. is_lt (row_cmp z y) ≡ false) rows items (IsPermutation-sym items rows (in_order_moves row_cmp items)) (All-from_recursion (λ y. is_lt (row_cmp z y) ≡ false) rows above) in
    let no_less : is_lt (row_cmp z w) ≡ false = subst (λ (y : Row). is_lt (row_cmp z y) ≡ false) (sym at) (back i w h) in
    let same : z ≡ w = only_equal row_cmp_total row_cmp_exact z w no_less no_more in
    let e : length items - 1 ≡ length rows - 1 = omega (arith, n) in
    ap (slice_get rows) e ∙ slice_get-get_or rows (length rows - 1) w (omega (arith, n)) ∙ ap Some same

-- rows in order, no more than k, are the first k of themselves
pub first_of_kept : (k : ℕ) (items : List Row) → length items ≤ k → in_order row_cmp items ≡ best row_cmp k (in_order row_cmp items)
first_of_kept k items few =
    let rows = in_order row_cmp items in
    sym (take_all rows k (omega (arith, few, length-in_order row_cmp_total items)))
    ∙ ap (take k) (sym (in_order-IsPermutation row_cmp_total row_cmp_exact items rows (in_order_moves row_cmp items)))

-- if the k-th row is an upper bound of all, a row that does not come before it is left out
pub none_after : (k : ℕ) (w : Row) (items : List Row) → k ≡ length items → IsUpperBound row_cmp w items → slice_get (in_order row_cmp items) (k - 1) ≡ Some w → (worst row : Row) → slice_get (in_order row_cmp items) (k - 1) ≡ Some worst → is_lt (row_cmp row worst) ≡ false
    → take k (put_in_order row_cmp row (in_order row_cmp items)) ≡ in_order row_cmp items
none_after k w items n up last worst row at l =
    let same : worst ≡ w = some_same worst w (sym at ∙ last) in
    ap (λ (m : ℕ). take m (put_in_order row_cmp row (in_order row_cmp items))) n ∙ left_out row w items up (subst (λ (z : Row). is_lt (row_cmp row z) ≡ false) same l)
  where
    some_same : (a b : Row) → Some a ≡ Some b → a ≡ b
    some_same a b e = cc

pub same_first : (items : List Row) (d e : Row) → 0 < length items → get_or items 0 d ≡ get_or items 0 e
same_first [] d e h = absurd (omega arith)
same_first (x ∷ items) d e h = refl

pub length_put : (row : Row) (rows : List Row) → length (put_in_order row_cmp row rows) ≡ suc (length rows)
length_put row rows = length-put_in_order row_cmp_total row rows

-- the first k with one more row
pub first_more : (k : ℕ) (row : Row) (olds news offered : List Row) → news ≡ take k (put_in_order row_cmp row olds) → olds ≡ best row_cmp k offered → news ≡ best row_cmp k (row ∷ offered)
first_more k row olds news offered rows same = rows ∙ ap (λ us. take k (put_in_order row_cmp row us)) same ∙ sym (best_more row_cmp_total row_cmp_exact k row offered)
