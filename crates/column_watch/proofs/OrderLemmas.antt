-- Rows in the order of an answer, from which some are removed and to which others are added.
use Rattle.std.proofs.Common.{◌≡◌, refl, ap, sym, ◌∙◌, subst, ℕ, zero, suc, ◌+◌, ◌<◌, ◌≤◌, List, [], ◌∷◌, ◌++◌, Bool, true, false, length, get_or, arith, cond, take, append_assoc, insert, not, Option, Some, None}
use Rattle.std.specs.Prelude.{bytes_eq}
use Rattle.std.specs.List.{AllByRecursion, AllWithin, filter}
use Rattle.std.specs.List.Sorted.{IsPartitionedBy}
use Rattle.std.specs.Ordering.{is_eq, is_lt, ordering_reverse}
use Rattle.std.specs.declared.cmp.Ordering.{Ordering}
use Rattle.std.specs.declared.cmp.Ordering.TheVariants.{Less, Equal, Greater}
use Rattle.std.proofs.lemmas.List.{get_or_default}
use Rattle.std.proofs.lemmas.List.Elements.{All-from_recursion}
use Rattle.std.proofs.lemmas.List.Sorted.{IsPermutation-append_comm, IsPermutation-append_left}
use Rattle.list_laws.proofs.ListLemmas.{all_filter}
use Rattle.lake_model.specs.Answer.{Row, row_cmp}
use Rattle.lake_model.specs.Sorting.{in_order, put_in_order}
use Rattle.lake_model.proofs.AnswerLemmas.{row_cmp_total, row_cmp_exact}
use Rattle.lake_model.proofs.SortingLemmas.{Ordered, by_test, in_order-IsPermutation, in_order_moves, less_order, ordered_in_order, stays}
use Rattle.lake_model.specs.Texts.{Text}
use Rattle.column_watch.specs.Held.{rows_left}

abbrev before : Row → Row → Bool
before y x = is_lt (row_cmp y x)

abbrev AreOrdered : List Row → Type 0
AreOrdered rows = Ordered before (less_order row_cmp_total) rows

-- ---- sorting does not depend on what was sorted before

pub in_order_again : (xs ys : List Row) → in_order row_cmp (in_order row_cmp xs ++ ys) ≡ in_order row_cmp (xs ++ ys)
in_order_again xs ys = in_order-IsPermutation row_cmp_total row_cmp_exact (xs ++ ys) (in_order row_cmp xs ++ ys) (IsPermutation-append_left ys xs (in_order row_cmp xs) (in_order_moves row_cmp xs))

in_order_twice : (xs : List Row) → in_order row_cmp (in_order row_cmp xs) ≡ in_order row_cmp xs
in_order_twice xs = in_order-IsPermutation row_cmp_total row_cmp_exact xs (in_order row_cmp xs) (in_order_moves row_cmp xs)

pub stays_in_order : (xs ys : List Row) → ys ≡ in_order row_cmp xs → ys ≡ in_order row_cmp ys
stays_in_order xs ys e = e ∙ sym (in_order_twice xs) ∙ ap (in_order row_cmp) (sym e)

-- one of the coming rows is inserted
pub moved : (row : Row) (rows coming left after : List Row) → coming ≡ left ++ row ∷ [] → after ≡ in_order row_cmp (row ∷ rows) → in_order row_cmp (after ++ left) ≡ in_order row_cmp (rows ++ coming)
moved row rows coming left after e f =
    ap (λ us. in_order row_cmp (us ++ left)) f ∙ in_order_again (row ∷ rows) left
    ∙ sym (in_order-IsPermutation row_cmp_total row_cmp_exact (row ∷ (rows ++ left)) ((rows ++ left) ++ row ∷ []) (IsPermutation-append_comm (row ∷ []) (rows ++ left)))
    ∙ ap (in_order row_cmp) (append_assoc rows left (row ∷ [])) ∙ ap (λ us. in_order row_cmp (rows ++ us)) (sym e)

pub put_is : (row : Row) (rows : List Row) → rows ≡ in_order row_cmp rows → put_in_order row_cmp row rows ≡ in_order row_cmp (row ∷ rows)
unfolding in_order
put_is row rows e = ap (put_in_order row_cmp row) e

pub none_in_order : (rows : List Row) → rows ≡ [] → rows ≡ in_order row_cmp rows
unfolding in_order
none_in_order rows e = e ∙ ap (in_order row_cmp) (sym e)

-- ---- where a row goes

-- the rows that come before x come first
split_by : (x y w : Row) → before w y ≡ false → before w x ≡ true → before y x ≡ true
split_by x y w h l = by_test (before y x) (λ e. e) (λ e. absurd (let c : before w x ≡ false = (less_order row_cmp_total).chain w y x h e in let f : true ≡ false = sym l ∙ c in cc))

partitioned : (x : Row) (ys : List Row) → AreOrdered ys → IsPartitionedBy (λ y. before y x) ys
partitioned x [] up i j d h b l = absurd (omega arith)
partitioned x (y ∷ ys) up zero zero d h b l = l
partitioned x (y ∷ ys) up zero (suc j) d h b l = split_by x y (get_or ys j d) (All-from_recursion (λ w. before w y ≡ false) ys up.0 j d (omega arith)) l
partitioned x (y ∷ ys) up (suc i) zero d h b l = absurd (omega arith)
partitioned x (y ∷ ys) up (suc i) (suc j) d h b l = partitioned x ys up.1 i j d (omega arith) (omega arith) l

pub parted : (x : Row) (ys : List Row) → ys ≡ in_order row_cmp ys → IsPartitionedBy (λ y. before y x) ys
parted x ys e = partitioned x ys (subst AreOrdered (sym e) (ordered_in_order row_cmp_total ys))

pub put_at : (x : Row) (ys : List Row) (i : ℕ) → i ≤ length ys → AllWithin (λ y. before y x ≡ true) ys 0 i → AllWithin (λ y. before y x ≡ false) ys i (length ys) → insert ys i x ≡ put_in_order row_cmp x ys
unfolding put_in_order
put_at x [] zero h a b = refl
put_at x [] (suc i) h a b = absurd (omega arith)
put_at x (y ∷ ys) zero h a b = sym (ap (λ t. cond t (y ∷ put_in_order row_cmp x ys) (x ∷ y ∷ ys)) (b 0 y (omega arith) (omega arith)))
put_at x (y ∷ ys) (suc i) h a b =
    let first : before y x ≡ true = a 0 y (omega arith) (omega arith) in
    ap (λ us. y ∷ us) (put_at x ys i (omega arith) (λ k d l u. a (suc k) d (omega arith) (omega arith)) (λ k d l u. b (suc k) d (omega arith) (omega arith)))
    ∙ sym (ap (λ t. cond t (y ∷ put_in_order row_cmp x ys) (x ∷ y ∷ ys)) first)

-- ---- rows without some of them

no_sooner : (x y : Row) (ws : List Row) → before y x ≡ false → AllByRecursion (λ w. before w y ≡ false) ws → AllByRecursion (λ w. before w x ≡ false) ws
no_sooner x y [] n h = tt
no_sooner x y (w ∷ ws) n h = ((less_order row_cmp_total).chain w y x h.0 n, no_sooner x y ws n h.1)

put_passed : (p : Row → Bool) (x : Row) (ys : List Row) → AreOrdered ys → p x ≡ true → filter p (put_in_order row_cmp x ys) ≡ put_in_order row_cmp x (filter p ys)
unfolding put_in_order
put_passed p x [] up t = ap (λ b. cond b (x ∷ []) []) t
put_passed p x (y ∷ ys) up t = elim (before y x) as (λ b. before y x ≡ b → filter p (cond b (y ∷ put_in_order row_cmp x ys) (x ∷ y ∷ ys)) ≡ put_in_order row_cmp x (filter p (y ∷ ys))) [
  | true ↦ λ l. ap (λ us. cond (p y) (y ∷ us) us) (put_passed p x ys up.1 t)
      ∙ (elim (p y) as (λ b. cond b (y ∷ put_in_order row_cmp x (filter p ys)) (put_in_order row_cmp x (filter p ys)) ≡ put_in_order row_cmp x (cond b (y ∷ filter p ys) (filter p ys))) [
        | true ↦ sym (ap (λ b. cond b (y ∷ put_in_order row_cmp x (filter p ys)) (x ∷ y ∷ filter p ys)) l)
        | false ↦ refl
      ])
  | false ↦ λ n. ap (λ b. cond b (x ∷ filter p (y ∷ ys)) (filter p (y ∷ ys))) t ∙ sym (stays row_cmp_total x (filter p (y ∷ ys)) (all_filter (λ w. before w x ≡ false) p (y ∷ ys) (n, no_sooner x y ys n up.0)))
] refl

put_refused : (p : Row → Bool) (x : Row) (ys : List Row) → p x ≡ false → filter p (put_in_order row_cmp x ys) ≡ filter p ys
unfolding put_in_order
put_refused p x [] f = ap (λ b. cond b (x ∷ []) []) f
put_refused p x (y ∷ ys) f = elim (before y x) as (λ b. filter p (cond b (y ∷ put_in_order row_cmp x ys) (x ∷ y ∷ ys)) ≡ filter p (y ∷ ys)) [
  | true ↦ ap (λ us. cond (p y) (y ∷ us) us) (put_refused p x ys f)
  | false ↦ ap (λ b. cond b (x ∷ filter p (y ∷ ys)) (filter p (y ∷ ys))) f
]

-- some of the rows, filtered, keep the order that they have among all
pub filter_in_order : (p : Row → Bool) (xs : List Row) → filter p (in_order row_cmp xs) ≡ in_order row_cmp (filter p xs)
unfolding in_order
filter_in_order p [] = refl
filter_in_order p (x ∷ xs) = by_test (p x)
    (λ t. put_passed p x (in_order row_cmp xs) (ordered_in_order row_cmp_total xs) t ∙ ap (put_in_order row_cmp x) (filter_in_order p xs) ∙ sym (ap (λ b. in_order row_cmp (cond b (x ∷ filter p xs) (filter p xs))) t))
    (λ f. put_refused p x (in_order row_cmp xs) f ∙ filter_in_order p xs ∙ sym (ap (λ b. in_order row_cmp (cond b (x ∷ filter p xs) (filter p xs))) f))

pub left_in_order : (p : Row → Bool) (xs : List Row) → xs ≡ in_order row_cmp xs → filter p xs ≡ in_order row_cmp (filter p xs)
left_in_order p xs e = ap (filter p) e ∙ filter_in_order p xs

-- rows are put in order after some of them, or none, were removed
pub left_again : (gone : Option Text) (xs ys : List Row) → in_order row_cmp (rows_left gone (in_order row_cmp xs) ++ ys) ≡ in_order row_cmp (rows_left gone xs ++ ys)
left_again None xs ys = in_order_again xs ys
left_again (Some name) xs ys =
    let p : Row → Bool = λ (row : Row). not (bytes_eq row.table name) in
    ap (λ us. in_order row_cmp (us ++ ys)) (filter_in_order p xs) ∙ in_order_again (filter p xs) ys

-- ---- rows compared one by one

same_suc : (xs ys : List Row) (i : ℕ) (d e : Row) → i < length xs → i < length ys → take i xs ≡ take i ys → row_cmp (get_or xs i d) (get_or ys i e) ≡ Equal → take (suc i) xs ≡ take (suc i) ys
same_suc [] ys i d e h k same eq = absurd (omega arith)
same_suc (x ∷ xs) [] i d e h k same eq = absurd (omega arith)
same_suc (x ∷ xs) (y ∷ ys) zero d e h k same eq = ap (λ (z : Row). z ∷ []) (row_cmp_exact x y eq)
same_suc (x ∷ xs) (y ∷ ys) (suc i) d e h k same eq =
    let first : x ≡ y = cc in
    let rest : take i xs ≡ take i ys = cc in
    λ j. first j ∷ same_suc xs ys i d e (omega arith) (omega arith) rest eq j

pub same_more : (xs ys : List Row) (i : ℕ) (d e : Row) → i < length xs → i < length ys → take i xs ≡ take i ys → row_cmp (get_or xs i d) (get_or ys i e) ≡ Equal → take (i + 1) xs ≡ take (i + 1) ys
same_more xs ys i d e h k same eq = let n : suc i ≡ i + 1 = omega arith in subst (λ (m : ℕ). take m xs ≡ take m ys) n (same_suc xs ys i d e h k same eq)

equal_order : (o : Ordering) → is_eq o ≡ true → o ≡ Equal
equal_order Less e = let never : false ≡ true = e in cc
equal_order Equal e = refl
equal_order Greater e = let never : false ≡ true = e in cc

-- rows that agree up to an index, and at that index
pub alike : (x y : Row) (xs ys : List Row) (i : ℕ) → i < length xs → i < length ys → x ≡ get_or xs i x → y ≡ get_or ys i y → is_eq (row_cmp x y) ≡ true → take i xs ≡ take i ys → take (i + 1) xs ≡ take (i + 1) ys
alike x y xs ys i h k e f same before_it = same_more xs ys i x y h k before_it ((λ j. row_cmp (sym e j) (sym f j)) ∙ equal_order (row_cmp x y) same)

self_equal : (o : Ordering) → o ≡ ordering_reverse o → is_eq o ≡ true
self_equal Less e = cc
self_equal Equal e = refl
self_equal Greater e = cc

pub different : (x y : Row) (xs ys : List Row) (i : ℕ) → i < length xs → i < length ys → x ≡ get_or xs i x → y ≡ get_or ys i y → is_eq (row_cmp x y) ≡ false → xs ≡ ys → ⊥
different x y xs ys i h k e f other same =
    let equal : x ≡ y = e ∙ get_or_default xs i x y h ∙ ap (λ us. get_or us i y) same ∙ sym f in
    let tied : is_eq (row_cmp y y) ≡ true = self_equal (row_cmp y y) (row_cmp_total.antisymm y y) in
    let never : true ≡ false = sym tied ∙ ap (λ (z : Row). is_eq (row_cmp z y)) (sym equal) ∙ other in
    cc
