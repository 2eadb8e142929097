-- Columns that are appended to others, and their order.
use Rattle.std.proofs.Common.{◌≡◌, refl, ap, sym, ◌∙◌, subst, ℕ, ◌+◌, ◌<◌, List, [], ◌++◌, map, false, length, get_or, arith, append_assoc}
use Rattle.std.specs.Cmp.{IsTotalOrder}
use Rattle.std.specs.List.{All, AllAdjacentBelow, range_with_len}
use Rattle.std.specs.List.Sorted.{IsPermutation, IsSorted}
use Rattle.std.specs.Cmp.Lexicographic.{slice_cmp}
use Rattle.std.specs.declared.cmp.Ordering.{Ordering}
use Rattle.std.specs.declared.cmp.Ordering.TheVariants.{Less, Equal, Greater}
use Rattle.std.specs.Ordering.{is_eq, is_lt, nat_cmp, ordering_reverse, ordering_then}
use Rattle.std.proofs.lemmas.Cmp.{nat_cmp_total, nat_list_cmp_total, on_total, then_total}
use Rattle.std.proofs.lemmas.List.{ext_get_or, get_or-map, length-map, map-append}
use Rattle.std.proofs.lemmas.List.FromFn.{get_or-range_with_len, length-range_with_len}
use Rattle.std.proofs.lemmas.List.Sorted.{All-permutation, IsPermutation-map, length_permutation}
use Rattle.lake_model.specs.Answer.{Row, row_cmp}
use Rattle.lake_model.proofs.AnswerLemmas.{row_cmp_total}
use Rattle.search_model.specs.Arrays.{no_titled, titled_at}
use Rattle.search_model.specs.Looks.{row_with}
use Rattle.search_model.specs.Ranks.{number_cmp, ranked, title_cmp, AreRising}
use Rattle.search_model.specs.Segment.{Titled}
use Rattle.search_model.proofs.RankLemmas.{first_late, rising_from_next, title_cmp_total}
use Rattle.title_order.specs.Titles.{by_title, rows_of, AreMoreTitles, AreNumbered, IsTitle, RowsDiffer}
use Rattle.title_order.specs.declared.title.Title.{Title}
use Rattle.token_order.specs.Counted.{AreNumbers}

-- ---- more columns

abbrev row_of : Title → Row
row_of t = t.row

abbrev pub number_of : Title → ℕ
number_of t = t.number

pub more_more : (old new newer : List Title) (columns others : List Titled) → AreMoreTitles old new columns → AreMoreTitles new newer others → AreMoreTitles old newer (columns ++ others)
more_more old new newer columns others first second =
    record {
      rows =
          second.rows
          ∙ ap (λ (rs : List Row). rs ++ rows_of others) first.rows
          ∙ append_assoc (map row_of old) (rows_of columns) (rows_of others)
          ∙ ap (λ (rs : List Row). map row_of old ++ rs) (sym (map-append (row_with 0) columns others));
      numbered = λ h. second.numbered (first.numbered h);
      few = λ h. second.few (first.few h);
    }

-- ---- all columns

pub by_title_total : IsTotalOrder by_title
by_title_total = then_total (on_total (λ (t : Title). t.row.table) nat_list_cmp_total) (then_total (on_total row_of row_cmp_total) (on_total number_of nat_cmp_total))

-- to put the first comparison first once again changes nothing
said_twice : (r s t : Ordering) → ordering_then r (ordering_then (ordering_then r s) t) ≡ ordering_then (ordering_then r s) t
said_twice Less s t = refl
said_twice Equal s t = refl
said_twice Greater s t = refl

left_first : (r : Ordering) → is_lt r ≡ false → is_eq (ordering_reverse r) ≡ false → ordering_reverse r ≡ Less
left_first Less e f = cc
left_first Equal e f = cc
left_first Greater e f = refl

module _ (columns : List Titled) (titles : List Title) (all : AreMoreTitles [] titles columns) where
  numbered : AreNumbered titles
  numbered = all.numbered (λ i d b. absurd (omega (arith, b)))

  pub titles_long : length titles ≡ length columns
  titles_long = sym (length-map titles row_of) ∙ ap (λ (rs : List Row). length rs) all.rows ∙ length-map columns (row_with 0)

  are_titles : All (IsTitle columns) titles
  are_titles i d b =
      let t = get_or titles i d in
      sym (get_or-map row_of titles i d (row_with 0 no_titled) b)
      ∙ ap (λ (rs : List Row). get_or rs i (row_with 0 no_titled)) all.rows
      ∙ get_or-map (row_with 0) columns i no_titled (row_with 0 no_titled) (omega (arith, b, titles_long))
      ∙ ap (λ (n : ℕ). row_with 0 (titled_at columns n)) (sym (numbered i d b))

  module _ (sorted : List Title) (moved : IsPermutation titles sorted) where
    pub all_numbers : AreNumbers (map number_of sorted)
    all_numbers =
        let count = length (map number_of sorted) in
        let long : count ≡ length titles = length-map sorted number_of ∙ length_permutation titles sorted moved in
        let no : Title = record { row = row_with 0 no_titled; number = 0 } in
        let same : range_with_len 0 count ≡ map number_of titles =
        ext_get_or 0 (range_with_len 0 count) (map number_of titles) (omega (arith, length-range_with_len 0 count, length-map titles number_of, long))
        (λ i b. let inside : i < length titles = omega (arith, b, length-range_with_len 0 count, long) in
        let z : 0 + i ≡ i = omega arith in
        get_or-range_with_len 0 count i 0 (omega (arith, inside, long)) ∙ z ∙ sym (get_or-map number_of titles i no 0 inside ∙ numbered i no inside)) in
        subst (λ (ns : List ℕ). IsPermutation ns (map number_of sorted)) (sym same) (IsPermutation-map number_of titles sorted moved)

    -- two of them compare as their numbers
    same_order : (a b : Title) → IsTitle columns a → IsTitle columns b → number_cmp columns a.number b.number ≡ by_title a b
    same_order a b h g =
        let x = titled_at columns a.number in
        let y = titled_at columns b.number in
        sym (said_twice (slice_cmp nat_cmp x.table y.table) (ordering_then (slice_cmp nat_cmp x.column.name y.column.name) (nat_cmp x.place y.place)) (nat_cmp a.number b.number))
        ∙ (λ i. by_title (record { row = sym h i; number = a.number }) (record { row = sym g i; number = b.number }))

    pub numbers_sorted : IsSorted by_title sorted → IsSorted (number_cmp columns) (map number_of sorted)
    numbers_sorted up k d a b =
        let are : All (IsTitle columns) sorted = All-permutation (IsTitle columns) titles sorted moved are_titles in
        let no : Title = record { row = row_with 0 no_titled; number = 0 } in
        let late : k + 1 < length sorted = omega (arith, b, length-map sorted number_of) in
        let early : k < length sorted = omega (arith, late) in
        let x = get_or sorted k no in
        let y = get_or sorted (k + 1) no in
        ap (λ (n : ℕ). is_lt (number_cmp columns n (get_or (map number_of sorted) k d))) (get_or-map number_of sorted (k + 1) no d late)
        ∙ ap (λ (n : ℕ). is_lt (number_cmp columns y.number n)) (get_or-map number_of sorted k no d early)
        ∙ ap is_lt (same_order y x (are (k + 1) no late) (are k no early))
        ∙ up k no (omega arith) late

    -- of two of them in order whose rows differ, the first comes first by its titles alone
    first_strictly : (a b : Title) → IsTitle columns a → IsTitle columns b → is_lt (by_title b a) ≡ false → RowsDiffer a b → title_cmp (titled_at columns a.number) (titled_at columns b.number) ≡ Less
    first_strictly a b h g up d =
        let x = titled_at columns a.number in
        let y = titled_at columns b.number in
        let late : is_lt (title_cmp y x) ≡ false = first_late (title_cmp y x) (nat_cmp b.number a.number) (ap is_lt (same_order b a g h) ∙ up) in
        let apart : is_eq (title_cmp x y) ≡ false = subst (λ (r : Row). is_eq (row_cmp r (row_with 0 y)) ≡ false) h (subst (λ (r : Row). is_eq (row_cmp a.row r) ≡ false) g d) in
        title_cmp_total.antisymm x y ∙ left_first (title_cmp y x) late (ap is_eq (sym (title_cmp_total.antisymm x y)) ∙ apart)

    pub numbers_rise : IsSorted by_title sorted → AllAdjacentBelow RowsDiffer sorted (length sorted) → AreRising (ranked columns (map number_of sorted))
    numbers_rise up differ = rising_from_next (ranked columns (map number_of sorted)) next
      where
        numbers : List ℕ
        numbers = map number_of sorted

        are : All (IsTitle columns) sorted
        are = All-permutation (IsTitle columns) titles sorted moved are_titles

        no : Title
        no = record { row = row_with 0 no_titled; number = 0 }

        at : (k : ℕ) → k < length sorted → titled_at (ranked columns numbers) k ≡ titled_at columns (get_or sorted k no).number
        at k b =
            get_or-map (titled_at columns) numbers k 0 no_titled (omega (arith, b, length-map sorted number_of))
            ∙ ap (titled_at columns) (get_or-map number_of sorted k no 0 b)

        next : (k : ℕ) → k + 1 < length (ranked columns numbers) → title_cmp (titled_at (ranked columns numbers) k) (titled_at (ranked columns numbers) (k + 1)) ≡ Less
        next k b =
            let late : k + 1 < length sorted = omega (arith, b, length-map sorted number_of, length-map numbers (titled_at columns)) in
            let early : k < length sorted = omega (arith, late) in
            ap (λ (c : Titled). title_cmp c (titled_at (ranked columns numbers) (k + 1))) (at k early)
            ∙ ap (title_cmp (titled_at columns (get_or sorted k no).number)) (at (k + 1) late)
            ∙ first_strictly (get_or sorted k no) (get_or sorted (k + 1) no) (are k no early) (are (k + 1) no late) (up k no (omega arith) late) (differ k no late)
