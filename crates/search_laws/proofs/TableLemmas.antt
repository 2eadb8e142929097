-- The rows of a part are those of its unmarked tables; its tokens are distinct, and all keys are tokens.
use Rattle.std.proofs.Common.{◌≡◌, refl, ap, sym, ◌∙◌, subst, ℕ, zero, suc, ◌+◌, ◌<◌, List, [], ◌∷◌, ◌++◌, map, Bool, true, false, not, ◌&&◌, ◌||◌, length, arith, cond, get_or, ltb as nat_lt}
use Rattle.std.specs.Prelude.{bytes_eq}
use Rattle.std.specs.List.{filter, flat_map, enumerate_from, IsDistinct}
use Rattle.std.specs.List.Sorted.{IsPermutation}
use Rattle.std.proofs.lemmas.List.{map-append, get_or-map}
use Rattle.std.proofs.lemmas.List.Concat.{flat_map-append}
use Rattle.std.proofs.lemmas.List.Folds.{list_any-append}
use Rattle.std.proofs.lemmas.List.Sorted.{IsPermutation-map, list_any-IsPermutation}
use Rattle.std.proofs.lemmas.Map.Keys.{IsDistinct-IsPermutation}
use Rattle.lake_model.specs.Sorting.{in_order}
use Rattle.lake_model.specs.Texts.{Text}
use Rattle.lake_model.specs.Tables.{Column, Table, has_key, overlap, distinct}
use Rattle.lake_model.specs.Answer.{Row, rows_from, rows_of_table, all_rows, is_excepted, row_of, Query}
use Rattle.lake_model.specs.Layout.{Place, Part}
use Rattle.search_model.specs.Segment.{Titled, titled, Token, segment, columns_of, tokens_of, token_of, token_cmp, tokens_in}
use Rattle.search_model.specs.Looks.{Searched, searched, is_eligible, row_with}
use Rattle.std.proofs.lemmas.List.Elements.{filter-append}
use Rattle.lake_model.proofs.SortingLemmas.{in_order_moves}
use Rattle.search_model.proofs.OverlapLemmas as texts
use Rattle.lake_model.proofs.DistinctLemmas.{distinct_differ, distinct_keeps}
use Rattle.search_model.proofs.TokenLemmas.{flips, keys_back}
use Rattle.search_laws.proofs.PartLemmas.{IsPartOf, rows_of_part, row_for, shares}
use Rattle.list_laws.proofs.ListLemmas.{any_none}

-- ---- rows

module _ (query : Query) (part : Searched) where
  abbrev counts : Titled → Bool
  counts c = is_eligible query part c && nat_lt 0 (overlap query.keys c.column.keys)

  abbrev made : Titled → Row
  made c = row_with (overlap query.keys c.column.keys) c

  abbrev found : List Titled → List Row
  found cs = map made (filter counts cs)

  unnumbered : (n : ℕ) (cs : List Titled) → map (row_for query) (filter (shares query part) (enumerate_from n cs)) ≡ found cs
  unnumbered n [] = refl
  unnumbered n (c ∷ cs) = by (counts c) (unnumbered (n + 1) cs)
    where
      by : (b : Bool) → map (row_for query) (filter (shares query part) (enumerate_from (n + 1) cs)) ≡ found cs
          → map (row_for query) (cond b ((n, c) ∷ filter (shares query part) (enumerate_from (n + 1) cs)) (filter (shares query part) (enumerate_from (n + 1) cs))) ≡ map made (cond b (c ∷ filter counts cs) (filter counts cs))
      by true ih = ap (λ us. made c ∷ us) ih
      by false ih = ih

  found-append : (xs ys : List Titled) → found (xs ++ ys) ≡ found xs ++ found ys
  found-append xs ys = ap (map made) (filter-append counts xs ys) ∙ map-append made (filter counts xs) (filter counts ys)

  abbrev eligible_at : ℕ → Text → Bool
  eligible_at n name = not (get_or part.marks n false) && not (is_excepted query.except name)

  abbrev titled_all : ℕ → Text → ℕ → List Column → List Titled
  titled_all n name i columns = map (λ c. titled n name c.0 c.1) (enumerate_from i columns)

  of_table : (n : ℕ) (name : Text) (i : ℕ) (columns : List Column) (b : Bool) → eligible_at n name ≡ b → found (titled_all n name i columns) ≡ cond b (rows_from query.keys name i columns) []
  of_table n name i [] true e = refl
  of_table n name i [] false e = refl
  of_table n name i (column ∷ columns) b e = by b (nat_lt 0 (overlap query.keys column.keys)) e (of_table n name (i + 1) columns b e)
    where
      by : (b z : Bool) → eligible_at n name ≡ b → found (titled_all n name (i + 1) columns) ≡ cond b (rows_from query.keys name (i + 1) columns) []
          → map made (cond (eligible_at n name && z) (titled n name i column ∷ filter counts (titled_all n name (i + 1) columns)) (filter counts (titled_all n name (i + 1) columns)))
          ≡ cond b (cond z (row_of query.keys name i column ∷ rows_from query.keys name (i + 1) columns) (rows_from query.keys name (i + 1) columns)) []
      by true true e ih = ap (λ q. map made (cond (q && true) (titled n name i column ∷ filter counts (titled_all n name (i + 1) columns)) (filter counts (titled_all n name (i + 1) columns)))) e ∙ ap (λ us. row_of query.keys name i column ∷ us) ih
      by true false e ih = ap (λ q. map made (cond (q && false) (titled n name i column ∷ filter counts (titled_all n name (i + 1) columns)) (filter counts (titled_all n name (i + 1) columns)))) e ∙ ih
      by false z e ih = ap (λ q. map made (cond (q && z) (titled n name i column ∷ filter counts (titled_all n name (i + 1) columns)) (filter counts (titled_all n name (i + 1) columns)))) e ∙ ih

  abbrev columns_from : ℕ → List Table → List Titled
  columns_from n tables = flat_map (λ t. titled_all t.0 t.1.name 1 t.1.columns) (enumerate_from n tables)

  abbrev unmarked : List Place → List Table
  unmarked places = map (λ place. place.table) (filter (λ place. not place.marked) places)

  abbrev rows_over : List Table → List Row
  rows_over tables = all_rows tables query.keys query.except

  of_place : (n : ℕ) (place : Place) (later : List Place) (rows : List Row) (m x : Bool) → place.marked ≡ m → is_excepted query.except place.table.name ≡ x → get_or part.marks n false ≡ m
      → rows ≡ rows_over (unmarked later) → found (titled_all n place.table.name 1 place.table.columns) ++ rows ≡ rows_over (unmarked (place ∷ later))
  of_place n place later rows m x e f g h =
      let first : found (titled_all n place.table.name 1 place.table.columns) ≡ cond (not m && not x) (rows_of_table query.keys place.table) [] = of_table n place.table.name 1 place.table.columns (not m && not x) (λ i. not (g i) && not (f i)) in
      (λ i. first i ++ h i) ∙ by m x e f
    where
      by : (m x : Bool) → place.marked ≡ m → is_excepted query.except place.table.name ≡ x → cond (not m && not x) (rows_of_table query.keys place.table) [] ++ rows_over (unmarked later) ≡ rows_over (unmarked (place ∷ later))
      by true x e f = sym (ap (λ b. rows_over (map (λ place. place.table) (cond (not b) (place ∷ filter (λ place. not place.marked) later) (filter (λ place. not place.marked) later)))) e)
      by false x e f =
          sym (ap (λ b. rows_over (map (λ place. place.table) (cond (not b) (place ∷ filter (λ place. not place.marked) later) (filter (λ place. not place.marked) later)))) e
          ∙ ap (λ b. flat_map (rows_of_table query.keys) (cond (not b) (place.table ∷ filter (λ table. not (is_excepted query.except table.name)) (unmarked later)) (filter (λ table. not (is_excepted query.except table.name)) (unmarked later)))) f
          ∙ at x)
        where
          at : (x : Bool) → flat_map (rows_of_table query.keys) (cond (not x) (place.table ∷ filter (λ table. not (is_excepted query.except table.name)) (unmarked later)) (filter (λ table. not (is_excepted query.except table.name)) (unmarked later)))
              ≡ cond (not x) (rows_of_table query.keys place.table) [] ++ rows_over (unmarked later)
          at true = refl
          at false = refl

  of_places : (n : ℕ) (places : List Place) → ((i : ℕ) → i < length places → get_or part.marks (n + i) false ≡ get_or (map (λ place. place.marked) places) i false)
      → found (columns_from n (map (λ place. place.table) places)) ≡ rows_over (unmarked places)
  of_places n [] h = refl
  of_places n (place ∷ places) h =
      let z : n + 0 ≡ n = omega arith in
      let here : get_or part.marks n false ≡ place.marked = ap (λ (k : ℕ). get_or part.marks k false) (sym z) ∙ h 0 (omega arith) in
      let rest = of_places (n + 1) places (λ i l. (let s : n + 1 + i ≡ n + suc i = omega arith in ap (λ (k : ℕ). get_or part.marks k false) s) ∙ h (suc i) (omega arith)) in
      found-append (titled_all n place.table.name 1 place.table.columns) (columns_from (n + 1) (map (λ place. place.table) places))
      ∙ of_place n place places (found (columns_from (n + 1) (map (λ place. place.table) places))) place.marked (is_excepted query.except place.table.name) refl refl here rest

pub rows_of_part_are : (query : Query) (part : Part) → rows_of_part query (searched query part) ≡ all_rows (map (λ place. place.table) (filter (λ place. not place.marked) part.places)) query.keys query.except
unfolding segment
rows_of_part_are query part =
    let p = searched query part in
    unnumbered query p 0 p.segment.columns ∙ of_places query p 0 part.places (λ i l. (let z : 0 + i ≡ i = omega arith in ap (λ (k : ℕ). get_or (map (λ (place : Place). place.marked) part.places) k false) z))

pub all_rows-append : (query : Query) (xs ys : List Table) → all_rows (xs ++ ys) query.keys query.except ≡ all_rows xs query.keys query.except ++ all_rows ys query.keys query.except
all_rows-append query xs ys =
    let kept = λ (t : Table). not (is_excepted query.except t.name) in
    ap (flat_map (rows_of_table query.keys)) (filter-append kept xs ys) ∙ flat_map-append (rows_of_table query.keys) (filter kept xs) (filter kept ys)

-- ---- tokens

-- the same in the terms of the lemmas on overlaps
pub as_texts : (xs : List Text) → IsDistinct bytes_eq xs → texts.Distinct xs
unfolding IsDistinct
as_texts [] h = tt
as_texts (x ∷ xs) h = (any_none (bytes_eq x) xs h.0, as_texts xs h.1)

module _ (columns : List Titled) where
  abbrev all : List Text
  all = flat_map (λ c. c.column.keys) columns

  keys_moved : IsPermutation (distinct all) (map (λ t. t.key) (tokens_of columns))
  unfolding tokens_of
  keys_moved =
      subst (λ (us : List Text). IsPermutation us (map (λ t. t.key) (in_order token_cmp (map (token_of columns) (distinct all))))) (keys_back columns (distinct all))
      (IsPermutation-map (λ (t : Token). t.key) (map (token_of columns) (distinct all)) (in_order token_cmp (map (token_of columns) (distinct all))) (in_order_moves token_cmp (map (token_of columns) (distinct all))))

  pub tokens_distinct : texts.Distinct (map (λ t. t.key) (tokens_of columns))
  tokens_distinct = as_texts (map (λ t. t.key) (tokens_of columns)) (IsDistinct-IsPermutation bytes_eq flips (distinct all) (map (λ t. t.key) (tokens_of columns)) keys_moved (distinct_differ all))

  in_all : (cs : List Titled) (i : ℕ) (d : Titled) (x : Text) → i < length cs → has_key (get_or cs i d).column.keys x ≡ true → has_key (flat_map (λ (c : Titled). c.column.keys) cs) x ≡ true
  in_all [] i d x h e = absurd (omega arith)
  in_all (c ∷ cs) zero d x h e = list_any-append (bytes_eq x) c.column.keys (flat_map (λ (c : Titled). c.column.keys) cs) ∙ ap (λ b. b || has_key (flat_map (λ (c : Titled). c.column.keys) cs) x) e
  in_all (c ∷ cs) (suc i) d x h e = list_any-append (bytes_eq x) c.column.keys (flat_map (λ (c : Titled). c.column.keys) cs) ∙ ap (λ b. has_key c.column.keys x || b) (in_all cs i d x (omega arith) e) ∙ or_true (has_key c.column.keys x)
    where
      or_true : (b : Bool) → (b || true) ≡ true
      or_true true = refl
      or_true false = refl

  pub tokens_have : (i : ℕ) (d : Titled) (x : Text) → i < length columns → has_key (get_or columns i d).column.keys x ≡ true → has_key (map (λ t. t.key) (tokens_of columns)) x ≡ true
  tokens_have i d x h e = sym (list_any-IsPermutation (bytes_eq x) (distinct all) (map (λ t. t.key) (tokens_of columns)) keys_moved) ∙ distinct_keeps all x ∙ in_all columns i d x h e

-- a searched part's sets and query are the tokens of its columns and of the query
pub is_part : (query : Query) (part : Part) → IsPartOf query (searched query part)
unfolding segment
is_part query part =
    let columns = columns_of (map (λ (place : Place). place.table) part.places) in
    record {
      sets = λ i d h. get_or-map (λ (c : Titled). tokens_in (tokens_of columns) c.column.keys) columns i d [] h;
      asked = refl;
      once = tokens_distinct columns;
      held = tokens_have columns;
    }
