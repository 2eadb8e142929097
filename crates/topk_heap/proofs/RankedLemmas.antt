-- Rows that are held as numbers: the numbers compare as the rows do.
use Rattle.std.proofs.Common.{◌≡◌, refl, ◌∙◌, ap, sym, subst, inl, inr, true, false, ℕ, ◌+◌, ◌-◌, ◌*◌, ◌/◌, ◌%◌, ◌^◌, ◌<◌, ◌≤◌, List, [], ◌∷◌, length, drop, get_or, take, None, Some, arith, ltb as nat_lt, leb as nat_le}
use Rattle.std.specs.List.{slice_get}
use Rattle.std.specs.List.Sorted.{IsPermutation}
use Rattle.std.proofs.lemmas.Bool.Decides.{nat_tests}
use Rattle.std.proofs.lemmas.List.{drop_all, drop_more, get_or-map, length-drop, length-map}
use Rattle.std.proofs.lemmas.List.Elements.{All-from_recursion, recursion_from_All}
use Rattle.std.proofs.lemmas.List.Sorted.{All-permutation, IsPermutation-map}
use Rattle.std.proofs.lemmas.Option.{slice_get-get_or, slice_get_past}
use Rattle.std.specs.BinaryHeap.{IsUpperBound}
use Rattle.std.specs.Cmp.{nat_cmp_is}
use Rattle.std.specs.Cmp.Lexicographic.{slice_cmp}
use Rattle.std.specs.Ordering.{is_lt, nat_cmp, ordering_then}
use Rattle.std.specs.declared.cmp.Ordering.{Ordering}
use Rattle.std.specs.declared.cmp.Ordering.TheVariants.{Less}
use Rattle.std.proofs.lemmas.Bool.{cases_lt}
use Rattle.std.proofs.Math.Nat.{div-mul-le_self}
use Rattle.std.proofs.lemmas.Nat.{div-add-mod', le-div}
use Rattle.lake_model.specs.Answer.{Row, row_cmp}
use Rattle.lake_model.proofs.AnswerLemmas.{row_cmp_exact, row_cmp_total}
use Rattle.lake_model.specs.Sorting.{in_order, put_in_order}
use Rattle.lake_model.proofs.SortingLemmas.{in_order-IsPermutation, irreflexive, length-in_order, less_order}
use Rattle.search_laws.specs.Select.{best}
use Rattle.search_model.specs.Arrays.{titled_at}
use Rattle.search_model.specs.Looks.{row_with}
use Rattle.search_model.specs.Ranks.{AreRising}
use Rattle.search_model.specs.Segment.{Titled}
use Rattle.topk_heap.specs.Ranked.{overlap_in, rank_in, row_in, rows_in, AreEntries, IsEntry}
use Rattle.topk_heap.proofs.TopLemmas.{first_of_kept, in_order_empty, is_lt_row, last_top, left_out, length_put, none_after, pushed, replaced, take_all}

-- the greater overlap comes first
more_first : (a b : Row) → b.overlap < a.overlap → is_lt (row_cmp a b) ≡ true
more_first a b l =
    ap (λ (o : Ordering). is_lt (ordering_then o (ordering_then (slice_cmp nat_cmp a.table b.table) (ordering_then (slice_cmp nat_cmp a.column b.column) (nat_cmp a.place b.place))))) (sym (nat_cmp_is b.overlap a.overlap Less l))

-- two numbers of the same quotient compare as their remainders
rest_less : (w a b : ℕ) → a < b → a / w ≡ b / w → a % w < b % w
rest_less w a b l same = let q : a / w * w ≡ b / w * w = ap (λ (q : ℕ). q * w) same in omega (arith, q, l, div-add-mod' a w, div-add-mod' b w)

quotient_up : (w a b : ℕ) → 0 < w → a ≤ b → a / w ≤ b / w
quotient_up w a b some h = le-div (a / w) b w some (omega (arith, div-mul-le_self a w, h))

no_more : (w y : ℕ) → is_lt (nat_cmp w y) ≡ false → y ≤ w
no_more w y e = elim (cases_lt w y) [
  | inl l ↦ absurd (let f : true ≡ false = ap is_lt (nat_cmp_is w y Less l) ∙ e in cc)
  | inr g ↦ g
]

module _ (titled : List Titled) (rising : AreRising titled) where
  -- the lower entry comes first
  pub first_entry : (a b : ℕ) → IsEntry (length titled) a → IsEntry (length titled) b → a < b → is_lt (row_cmp (row_in titled a) (row_in titled b)) ≡ true
  first_entry a b p q l = elim (cases_lt (a / 2 ^ 32) (b / 2 ^ 32)) [
    | inl m ↦ more_first (row_in titled a) (row_in titled b) (let high = q.1 in omega (arith, m, high))
    | inr g ↦ (let same : a / 2 ^ 32 ≡ b / 2 ^ 32 = omega (arith, g, quotient_up (2 ^ 32) a b (omega arith) (omega (arith, l))) in
        (λ i. is_lt (row_cmp (row_in titled a) (row_with (2 ^ 32 - 1 - sym same i) (titled_at titled (rank_in b)))))
        ∙ rising (rank_in a) (rank_in b) (overlap_in a) (rest_less (2 ^ 32) a b l same) q.0)
  ]

  -- a greater one, or itself, does not
  pub late_entry : (w y : ℕ) → IsEntry (length titled) w → IsEntry (length titled) y → y ≤ w → is_lt (row_cmp (row_in titled w) (row_in titled y)) ≡ false
  late_entry w y p q h = elim (cases_lt y w) [
    | inl l ↦ (less_order row_cmp_total).one_way (row_in titled y) (row_in titled w) (first_entry y w q p l)
    | inr g ↦ (let same : y ≡ w = omega (arith, g, h) in ap (λ (n : ℕ). is_lt (row_cmp (row_in titled w) (row_in titled n))) same ∙ irreflexive is_lt_row (less_order row_cmp_total) (row_in titled w))
  ]

  pub upper_entry : (w : ℕ) (entries : List ℕ) → IsEntry (length titled) w → AreEntries (length titled) entries → IsUpperBound nat_cmp w entries → IsUpperBound row_cmp (row_in titled w) (rows_in titled entries)
  upper_entry w [] p are up = tt
  upper_entry w (y ∷ entries) p are up = (late_entry w y p are.0 (no_more w y up.0), upper_entry w entries p are.1 up.1)

  -- so the test of two entries is that of their rows
  pub lower_first : (a b : ℕ) → IsEntry (length titled) a → IsEntry (length titled) b → nat_lt a b ≡ is_lt (row_cmp (row_in titled a) (row_in titled b))
  lower_first a b p q = elim (cases_lt a b) [
    | inl l ↦ (let is : nat_lt a b ≡ true = grind (arith, nat_tests) in is ∙ sym (first_entry a b p q l))
    | inr g ↦ (let is : nat_lt a b ≡ false = grind (arith, nat_tests) in is ∙ sym (late_entry a b p q g))
  ]

-- ---- the entries of a heap

entry_here : (n i d : ℕ) (entries : List ℕ) → AreEntries n entries → i < length entries → IsEntry n (get_or entries i d)
entry_here n i d entries are b = All-from_recursion (IsEntry n) entries are i d b

pub entries_permuted : (n : ℕ) (olds news : List ℕ) → IsPermutation olds news → AreEntries n olds → AreEntries n news
entries_permuted n olds news moved are = recursion_from_All (IsEntry n) news (All-permutation (IsEntry n) olds news moved (All-from_recursion (IsEntry n) olds are))

pub entries_moved : (n entry : ℕ) (olds news : List ℕ) → IsPermutation (entry ∷ olds) news → IsEntry n entry → AreEntries n olds → AreEntries n news
entries_moved n entry olds news moved is are = entries_permuted n (entry ∷ olds) news moved (is, are)

pub entries_swapped : (n entry w : ℕ) (olds rest news : List ℕ) → IsPermutation olds (w ∷ rest) → IsPermutation (entry ∷ rest) news → IsEntry n entry → AreEntries n olds → AreEntries n news
entries_swapped n entry w olds rest news out moved is are =
    let both : AreEntries n (w ∷ rest) = entries_permuted n olds (w ∷ rest) out are in
    entries_moved n entry rest news moved is both.1

module _ (titled : List Titled) where
  abbrev pub in_rows : List ℕ → List Row
  in_rows entries = in_order row_cmp (rows_in titled entries)

  count_rows : (entries : List ℕ) → length (in_rows entries) ≡ length entries
  count_rows entries = length-in_order row_cmp_total (rows_in titled entries) ∙ length-map entries (row_in titled)

  pub rows_full : (k : ℕ) (entries : List ℕ) → nat_le k (length entries) ≡ nat_le k (length (in_rows entries))
  rows_full k entries = ap (nat_le k) (sym (count_rows entries))

  pub rows_pushed : (entry k : ℕ) (olds news : List ℕ) → IsPermutation (entry ∷ olds) news → length olds < k → in_rows news ≡ take k (put_in_order row_cmp (row_in titled entry) (in_rows olds))
  rows_pushed entry k olds news moved few =
      pushed (row_in titled entry) (rows_in titled olds) (rows_in titled news) (IsPermutation-map (row_in titled) (entry ∷ olds) news moved)
      ∙ sym (take_all (put_in_order row_cmp (row_in titled entry) (in_rows olds)) k (omega (arith, few, length_put (row_in titled entry) (in_rows olds), count_rows olds)))

  pub none_kth : (k : ℕ) (entries : List ℕ) → length entries < k → slice_get (in_rows entries) (k - 1) ≡ None
  none_kth k entries few = slice_get_past (in_rows entries) (k - 1) (omega (arith, few, count_rows entries))

  pub kept_first : (k : ℕ) (entries : List ℕ) → length entries ≤ k → in_rows entries ≡ best row_cmp k (in_rows entries)
  kept_first k entries few = first_of_kept k (rows_in titled entries) (omega (arith, few, length-map entries (row_in titled)))

  module _ (rising : AreRising titled) where
    pub rows_left : (entry w : ℕ) (entries : List ℕ) → IsEntry (length titled) entry → IsEntry (length titled) w → AreEntries (length titled) entries → IsUpperBound nat_cmp w entries → w ≤ entry
        → take (length entries) (put_in_order row_cmp (row_in titled entry) (in_rows entries)) ≡ in_rows entries
    rows_left entry w entries is of are up late =
        ap (λ (n : ℕ). take n (put_in_order row_cmp (row_in titled entry) (in_rows entries))) (sym (length-map entries (row_in titled)))
        ∙ left_out (row_in titled entry) (row_in titled w) (rows_in titled entries) (upper_entry titled rising w entries of are up) (late_entry titled rising entry w is of late)

    pub rows_swapped : (entry w : ℕ) (olds rest news : List ℕ) → IsPermutation olds (w ∷ rest) → IsPermutation (entry ∷ rest) news → IsUpperBound nat_cmp w rest → IsEntry (length titled) entry → AreEntries (length titled) olds → entry < w
        → in_rows news ≡ take (length olds) (put_in_order row_cmp (row_in titled entry) (in_rows olds))
    rows_swapped entry w olds rest news out moved up is are first =
        let both : AreEntries (length titled) (w ∷ rest) = entries_permuted (length titled) olds (w ∷ rest) out are in
        replaced (row_in titled entry) (row_in titled w) (rows_in titled olds) (rows_in titled rest) (rows_in titled news) (IsPermutation-map (row_in titled) olds (w ∷ rest) out) (IsPermutation-map (row_in titled) (entry ∷ rest) news moved)
        (upper_entry titled rising w rest both.0 both.1 up) (first_entry titled rising entry w is both.0 first)
        ∙ ap (λ (n : ℕ). take n (put_in_order row_cmp (row_in titled entry) (in_rows olds))) (length-map olds (row_in titled))

    pub kth : (k w : ℕ) (entries : List ℕ) → 0 < k → length entries ≡ k → slice_get entries 0 ≡ Some w → AreEntries (length titled) entries → IsUpperBound nat_cmp w entries → slice_get (in_rows entries) (k - 1) ≡ Some (row_in titled w)
    kth k w entries some long at are up =
        let some_here : 0 < length entries = omega (arith, some, long) in
        let is : get_or entries 0 w ≡ w = some_same (sym (slice_get-get_or entries 0 w some_here) ∙ at) in
        let of : IsEntry (length titled) w = subst (IsEntry (length titled)) is (entry_here (length titled) 0 w entries are some_here) in
        let here : row_in titled w ≡ get_or (rows_in titled entries) 0 (row_in titled w) = sym (get_or-map (row_in titled) entries 0 w (row_in titled w) some_here ∙ ap (row_in titled) is) in
        let e : k - 1 ≡ length (rows_in titled entries) - 1 = omega (arith, long, length-map entries (row_in titled)) in
        ap (slice_get (in_rows entries)) e ∙ last_top (rows_in titled entries) (row_in titled w) 0 (omega (arith, some_here, length-map entries (row_in titled))) here (upper_entry titled rising w entries of are up)
      where
        some_same : {a b : ℕ} → Some a ≡ Some b → a ≡ b
        some_same e = cc

    pub of_kth : (k w : ℕ) (entries : List ℕ) → 0 < k → length entries ≡ k → slice_get entries 0 ≡ Some w → AreEntries (length titled) entries → IsEntry (length titled) w
    of_kth k w entries some long at are =
        let some_here : 0 < length entries = omega (arith, some, long) in
        let is : get_or entries 0 w ≡ w = some_same (sym (slice_get-get_or entries 0 w some_here) ∙ at) in
        subst (IsEntry (length titled)) is (entry_here (length titled) 0 w entries are some_here)
      where
        some_same : {a b : ℕ} → Some a ≡ Some b → a ≡ b
        some_same e = cc

    pub kth_left : (k w : ℕ) (entries : List ℕ) → 0 < k → length entries ≡ k → slice_get entries 0 ≡ Some w → AreEntries (length titled) entries → IsUpperBound nat_cmp w entries
        → (worst row : Row) → slice_get (in_rows entries) (k - 1) ≡ Some worst → is_lt (row_cmp row worst) ≡ false → take k (put_in_order row_cmp row (in_rows entries)) ≡ in_rows entries
    kth_left k w entries some long at are up =
        none_after k (row_in titled w) (rows_in titled entries) (sym long ∙ sym (length-map entries (row_in titled))) (upper_entry titled rising w entries (of_kth k w entries some long at are) are up) (kth k w entries some long at are up)

-- entries of no columns
pub none_of_none : (entries : List ℕ) → AreEntries 0 entries → entries ≡ []
none_of_none [] are = refl
none_of_none (x ∷ entries) are = absurd (let low = are.0.0 in omega (arith, low))

pub rows_moved : (titled : List Titled) (olds news : List ℕ) → IsPermutation olds news → in_rows titled news ≡ in_rows titled olds
rows_moved titled olds news moved = in_order-IsPermutation row_cmp_total row_cmp_exact (rows_in titled olds) (rows_in titled news) (IsPermutation-map (row_in titled) olds news moved)

-- ---- offered one after another, the last first

pub rows_behind : (titled : List Titled) (entries : List ℕ) (left k : ℕ) → left < length entries → length entries ≤ k
    → in_rows titled (drop left entries) ≡ take k (put_in_order row_cmp (row_in titled (get_or entries left 0)) (in_rows titled (drop (left + 1) entries)))
unfolding in_order
rows_behind titled entries left k here few =
    let rest = drop (left + 1) entries in
    let entry = get_or entries left 0 in
    ap (in_rows titled) (drop_more entries left 0 here)
    ∙ sym (take_all (put_in_order row_cmp (row_in titled entry) (in_rows titled rest)) k (omega (arith, few, here, length_put (row_in titled entry) (in_rows titled rest), count_rows titled rest, length-drop (left + 1) entries)))

pub rows_end : (titled : List Titled) (entries : List ℕ) → in_rows titled (drop (length entries) entries) ≡ []
rows_end titled entries = ap (in_rows titled) (drop_all (length entries) entries (omega arith)) ∙ in_order_empty
