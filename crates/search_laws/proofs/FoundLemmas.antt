-- What is found after the looks of the parts is all columns that hold enough: a column in none of the lists read holds
-- fewer keys than are needed, and none holds more than its bound.
use Rattle.std.proofs.Common.{◌≡◌, refl, ap, sym, ◌∙◌, subst, inl, inr, ℕ, zero, suc, ◌+◌, ◌<◌, ◌≤◌, List, [], ◌∷◌, ◌++◌, map, Bool, true, false, not, ◌&&◌, length, arith, cond, get_or, ltb as nat_lt, leb as nat_le}
use Rattle.std.specs.Prelude.{bytes_eq}
use Rattle.std.specs.List.{AllByRecursion, enumerate_from, filter, flat_map, IsDistinct}
use Rattle.std.proofs.lemmas.Bool.{cases_lt}
use Rattle.std.proofs.lemmas.Bool.Decides.{nat_tests}
use Rattle.std.proofs.lemmas.List.{get_or_default}
use Rattle.std.proofs.lemmas.List.Elements.{filter-append}
use Rattle.lake_model.specs.Answer.{Query, Row, row_cmp}
use Rattle.lake_model.specs.Layout.{Part}
use Rattle.lake_model.specs.Sorting.{in_order}
use Rattle.lake_model.specs.Tables.{has_key, overlap}
use Rattle.lake_model.specs.Texts.{Text}
use Rattle.search_model.proofs.OverlapLemmas.{overlap_is_hits}
use Rattle.search_model.proofs.OverlapLemmas as texts
use Rattle.search_model.specs.Arrays.{no_titled, titled_at}
use Rattle.search_model.specs.Contain.{is_unmarked, lists_needed, may_hold, need, of_all_tables, seen_behind}
use Rattle.search_model.specs.Looks.{hits, row_with, searched, Searched, Seen}
use Rattle.search_model.specs.Segment.{Titled, tokens_in}
use Rattle.search_laws.specs.Found.{found_row, found_rows, tokens_shared}
use Rattle.search_laws.specs.Laws.{BoundsHold, FoundIsContained}
use Rattle.search_laws.proofs.AnswerOfLog.{rows_are, rows_of_parts}
use Rattle.search_laws.proofs.PartLemmas.{bounded, IsPartOf, row_for, rows_of_part, shares, unseen}
use Rattle.search_laws.proofs.TableLemmas.{as_texts, is_part}

abbrev Numbered : Type 0
Numbered = ℕ × Titled

-- two ways to get the same rows, of those that pass a test
same_rows : (p q : Numbered → Bool) (f g : Numbered → Row) (t : Row → Bool) (cs : List Numbered) → AllByRecursion (λ c. (f c ≡ g c) × (t (g c) ≡ true → p c ≡ q c)) cs → filter t (map f (filter p cs)) ≡ filter t (map g (filter q cs))
same_rows p q f g t [] h = refl
same_rows p q f g t (c ∷ cs) h = by (p c) (q c) (t (g c)) refl refl refl (ap t h.0.0) (same_rows p q f g t cs h.1)
  where
    by : (x y z : Bool) → p c ≡ x → q c ≡ y → t (g c) ≡ z → t (f c) ≡ t (g c) → filter t (map f (filter p cs)) ≡ filter t (map g (filter q cs))
        → filter t (map f (cond x (c ∷ filter p cs) (filter p cs))) ≡ filter t (map g (cond y (c ∷ filter q cs) (filter q cs)))
    by true true z e k l m ih = (λ i. cond (m i) (h.0.0 i ∷ ih i) (ih i))
    by false false z e k l m ih = ih
    by true false true e k l m ih = absurd (let n : true ≡ false = sym e ∙ h.0.1 l ∙ k in cc)
    by false true true e k l m ih = absurd (let n : false ≡ true = sym e ∙ h.0.1 l ∙ k in cc)
    by true false false e k l m ih = ap (λ b. cond b (f c ∷ filter t (map f (filter p cs))) (filter t (map f (filter p cs)))) (m ∙ l) ∙ ih
    by false true false e k l m ih = ih ∙ sym (ap (λ b. cond b (g c ∷ filter t (map g (filter q cs))) (filter t (map g (filter q cs)))) l)

-- what holds of each column and its number
pub all_numbered : (P : Numbered → Type 0) (n : ℕ) (cs : List Titled) → ((i : ℕ) (c : Titled) → i < length cs → ((d : Titled) → c ≡ get_or cs i d) → P (n + i, c)) → AllByRecursion P (enumerate_from n cs)
all_numbered P n [] h = tt
all_numbered P n (c ∷ cs) h =
    let z : n + 0 ≡ n = omega arith in (
      subst (λ (m : ℕ). P (m, c)) z (h 0 c (omega arith) (λ d. refl)),
      all_numbered P (n + 1) cs (λ i d l e. let m : n + suc i ≡ n + 1 + i = omega arith in subst (λ (k : ℕ). P (k, d)) m (h (suc i) d (omega arith) e)),
    )

module _ (keys : List Text) (distinct : IsDistinct bytes_eq keys) (least : ℕ) (some : 1 ≤ least) (whole : Part) where
  abbrev query : Query
  query = of_all_tables keys

  abbrev part : Searched
  part = searched query whole

  is : IsPartOf query part
  is = is_part query whole

  texts_differ : texts.Distinct keys
  texts_differ = as_texts keys distinct

  module _ (x : ℕ) (c : Titled) (within : x < length part.segment.columns) (at : (d : Titled) → c ≡ get_or part.segment.columns x d) where
    abbrev seen_here : Seen
    seen_here = seen_behind least part x c

    shared : tokens_shared part x ≡ overlap keys c.column.keys
    shared =
        (λ i. length (hits (is.sets x c within i) (is.asked i)))
        ∙ ap (λ (d : Titled). length (hits (tokens_in part.segment.tokens d.column.keys) (tokens_in part.segment.tokens keys))) (sym (at c))
        ∙ sym (overlap_is_hits part.segment.tokens keys c.column.keys texts_differ is.once (λ t e. is.held x c t within (ap (λ (d : Titled). has_key d.column.keys t) (sym (at c)) ∙ e)))

    -- a column in none of the lists read holds too few keys
    pub some_seen : least ≤ overlap keys c.column.keys → 0 < seen_here.count
    some_seen h = by seen_here.count refl
      where
        by : (n : ℕ) → seen_here.count ≡ n → 0 < n
        by zero e = absurd (let most = unseen query part is texts_differ x c c (at c) within (lists_needed least part) e in omega (arith, most, h, some))
        by (suc n) e = omega arith

    -- a column holds at most as many keys as its bound
    pub bound_high : 0 < seen_here.count → overlap keys c.column.keys ≤ seen_here.bound.overlap
    bound_high s = bounded query part is texts_differ x c c (at c) within (lists_needed least part) (omega (arith, s))

    holds : least ≤ overlap keys c.column.keys → may_hold least part x c ≡ shares query part (x, c)
    holds h =
        let count = some_seen h in
        let high = bound_high count in
        let seen_it : nat_lt 0 seen_here.count ≡ true = grind (arith, nat_tests) in
        let bound : nat_le least seen_here.bound.overlap ≡ true = (let l : least ≤ seen_here.bound.overlap = omega (arith, h, high) in grind (arith, nat_tests)) in
        let over : nat_lt 0 (overlap keys c.column.keys) ≡ true = (let l : 0 < overlap keys c.column.keys = omega (arith, h, some) in grind (arith, nat_tests)) in
        by (is_unmarked part c) (nat_lt 0 seen_here.count) (nat_le least seen_here.bound.overlap) (nat_lt 0 (overlap keys c.column.keys)) seen_it bound over
      where
        by : (a b d e : Bool) → b ≡ true → d ≡ true → e ≡ true → (a && b && d) ≡ ((a && not false) && e)
        by true b d e f g h = (λ i. f i && g i) ∙ sym h
        by false b d e f g h = refl

    agree : (found_row part x c ≡ row_for query (x, c)) × (nat_le least (row_for query (x, c)).overlap ≡ true → may_hold least part x c ≡ shares query part (x, c))
    agree = (ap (λ (n : ℕ). row_with n c) shared, λ e. holds (let l : least ≤ overlap keys c.column.keys = grind (arith, nat_tests) in l))

  found_are : found_rows least part ≡ filter (λ row. nat_le least row.overlap) (rows_of_part query part)
  found_are =
      same_rows (λ c. may_hold least part c.0 c.1) (shares query part) (λ c. found_row part c.0 c.1) (row_for query) (λ row. nat_le least row.overlap) (enumerate_from 0 part.segment.columns)
      (all_numbered (λ c. (found_row part c.0 c.1 ≡ row_for query c) × (nat_le least (row_for query c).overlap ≡ true → may_hold least part c.0 c.1 ≡ shares query part c)) 0 part.segment.columns
      (λ i c l e. let z : i ≡ 0 + i = omega arith in subst (λ (n : ℕ). (found_row part n c ≡ row_for query (n, c)) × (nat_le least (row_for query (n, c)).overlap ≡ true → may_hold least part n c ≡ shares query part (n, c))) z (agree i c l e)))

module _ (keys : List Text) (distinct : IsDistinct bytes_eq keys) (least : ℕ) (some : 1 ≤ least) where
  parts_found : (parts : List Part) → flat_map (λ part. found_rows least (searched (of_all_tables keys) part)) parts ≡ filter (λ row. nat_le least row.overlap) (rows_of_parts (of_all_tables keys) parts)
  parts_found [] = refl
  parts_found (part ∷ parts) =
      (λ i. found_are keys distinct least some part i ++ parts_found parts i)
      ∙ sym (filter-append (λ (row : Row). nat_le least row.overlap) (rows_of_part (of_all_tables keys) (searched (of_all_tables keys) part)) (rows_of_parts (of_all_tables keys) parts))

some_needed : (a b n : ℕ) → 1 ≤ need a b n
some_needed a b n = omega arith

-- the rows found in all parts, in order
pub found_contained : FoundIsContained
found_contained keys a b parts distinct =
    let least = need a b (length keys) in
    ap (in_order row_cmp) (parts_found keys distinct least (some_needed a b (length keys)) parts ∙ ap (filter (λ (row : Row). nat_le least row.overlap)) (rows_are (of_all_tables keys) parts))

-- what the lists that are read say of a column
pub bounds_hold : BoundsHold
bounds_hold keys least whole distinct some x within =
    let part = searched (of_all_tables keys) whole in
    let c = titled_at part.segment.columns x in
    let at : (d : Titled) → c ≡ get_or part.segment.columns x d = λ d. get_or_default part.segment.columns x no_titled d within in (
      λ none. elim (cases_lt (overlap keys c.column.keys) least) [
        | inl less ↦ less
        | inr holds ↦ absurd (let seen = some_seen keys distinct least some whole x c within at holds in omega (arith, seen, none))
      ],
      bound_high keys distinct least some whole x c within at,
    )
