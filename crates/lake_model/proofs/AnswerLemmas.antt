-- The order of rows is total, and only equal rows tie.
use Rattle.std.proofs.Common.{◌≡◌, refl, ap, sym, ◌∙◌, ℕ, suc, ◌+◌, ◌-◌, ◌<◌, List, [], ◌∷◌, map, drop, length, get_or, cond, arith, ltb as nat_lt, ◌≤◌, ◌++◌, append_assoc, lt-ltb, le-ltb}
use Rattle.std.specs.Cmp.{IsTotalOrder}
use Rattle.std.specs.Ordering.{ordering_then}
use Rattle.std.specs.declared.cmp.Ordering.{Ordering}
use Rattle.std.specs.declared.cmp.Ordering.TheVariants.{Less, Equal, Greater}
use Rattle.std.proofs.lemmas.Cmp.{then_total, on_total, back_total, nat_cmp_total, nat_list_cmp_total}
use Rattle.std.proofs.lemmas.Map.Lookups.{exact_unsigned, exact_bytes}
use Rattle.std.proofs.Math.Seq.{drop-cons}
use Rattle.std.proofs.lemmas.List.{get_or-map}
use Rattle.lake_model.specs.Texts.{Text}
use Rattle.lake_model.specs.Tables.{Column, Table, Titles, titles_of, sets_of, keys_at, overlap}
use Rattle.lake_model.specs.Answer.{Row, row_cmp, row_of, row_at, rows_from}

pub row_cmp_total : IsTotalOrder row_cmp
row_cmp_total = then_total (back_total (on_total (λ (r : Row). r.overlap) nat_cmp_total)) (then_total (on_total (λ (r : Row). r.table) nat_list_cmp_total)
    (then_total (on_total (λ (r : Row). r.column) nat_list_cmp_total) (on_total (λ (r : Row). r.place) nat_cmp_total)))

pub both_equal : (a b : Ordering) → ordering_then a b ≡ Equal → (a ≡ Equal) × (b ≡ Equal)
both_equal Less b e = cc
both_equal Equal b e = (refl, e)
both_equal Greater b e = cc

pub row_cmp_exact : (a b : Row) → row_cmp a b ≡ Equal → a ≡ b
row_cmp_exact a b e =
    let first = both_equal _ _ e in
    let second = both_equal _ _ first.1 in
    let third = both_equal _ _ second.1 in
    let overlap : b.overlap ≡ a.overlap = exact_unsigned _ _ first.0 in
    let table : a.table ≡ b.table = exact_bytes _ _ second.0 in
    let column : a.column ≡ b.column = exact_bytes _ _ third.0 in
    let place : a.place ≡ b.place = exact_unsigned _ _ third.1 in
    λ i. record { overlap = sym overlap i; table = table i; column = column i; place = place i }

-- the row of the column at index i, made from the table's titles and its sets
pub row_at_index : (query : List Text) (table : Table) (i : ℕ) (d : Column) → i < length table.columns
    → row_at (overlap query (keys_at table (i + 1))) (titles_of table) (i + 1) ≡ row_of query table.name (i + 1) (get_or table.columns i d)
row_at_index query table i d h =
    let place : i + 1 - 1 ≡ i = omega arith in
    let name : get_or (map (λ c. c.name) table.columns) (i + 1 - 1) [] ≡ (get_or table.columns i d).name = ap (λ (n : ℕ). get_or (map (λ c. c.name) table.columns) n []) place ∙ get_or-map (λ c. c.name) table.columns i d [] h in
    let keys : keys_at table (i + 1) ≡ (get_or table.columns i d).keys = ap (λ (n : ℕ). get_or (sets_of table) n []) place ∙ get_or-map (λ c. c.keys) table.columns i d [] h in
    λ j. record { overlap = overlap query (keys j); table = table.name; column = name j; place = i + 1 }

-- one more column
pub rows_from_more : (query : List Text) (table : Table) (i : ℕ) → i < length table.columns
    → rows_from query table.name (i + 1) (drop i table.columns)
    ≡ cond (nat_lt 0 (overlap query (keys_at table (i + 1)))) (row_at (overlap query (keys_at table (i + 1))) (titles_of table) (i + 1) ∷ rows_from query table.name (i + 1 + 1) (drop (i + 1) table.columns)) (rows_from query table.name (i + 1 + 1) (drop (i + 1) table.columns))
rows_from_more query table i h =
    let d : Column = record { name = []; keys = [] } in
    let e : i + 1 ≡ suc i = omega arith in
    let front : drop i table.columns ≡ get_or table.columns i d ∷ drop (i + 1) table.columns = drop-cons table.columns i d h ∙ ap (λ (n : ℕ). get_or table.columns i d ∷ drop n table.columns) (sym e) in
    let rest = rows_from query table.name (i + 1 + 1) (drop (i + 1) table.columns) in
    ap (rows_from query table.name (i + 1)) front ∙ ap (λ (r : Row). cond (nat_lt 0 r.overlap) (r ∷ rest) rest) (sym (row_at_index query table i d h))

-- a loop's step at a column that shares n keys with the query: it gives a row, or none
module _ (query : List Text) (table : Table) (i : ℕ) (rows total : List Row) (within : i < length table.columns)
    (so_far : rows ++ rows_from query table.name (i + 1) (drop i table.columns) ≡ total) (n : ℕ) (is : n ≡ overlap query (keys_at table (i + 1))) where
  rest : List Row
  rest = rows_from query table.name (i + 1 + 1) (drop (i + 1) table.columns)

  here : Row
  here = row_at n (titles_of table) (i + 1)

  step : rows_from query table.name (i + 1) (drop i table.columns) ≡ cond (nat_lt 0 n) (here ∷ rest) rest
  unfolding rest here
  step = rows_from_more query table i within ∙ ap (λ m. cond (nat_lt 0 m) (row_at m (titles_of table) (i + 1) ∷ rest) rest) (sym is)

  pub rows_from_taken : (titles : Titles) → titles ≡ titles_of table → 0 < n → (rows ++ row_at n titles (i + 1) ∷ []) ++ rows_from query table.name (i + 1 + 1) (drop (i + 1) table.columns) ≡ total
  unfolding rest here
  rows_from_taken titles same some =
      ap (λ t. (rows ++ row_at n t (i + 1) ∷ []) ++ rest) same ∙ append_assoc rows (here ∷ []) rest
      ∙ ap (λ us. rows ++ us) (sym (step ∙ ap (λ b. cond b (here ∷ rest) rest) (lt-ltb 0 n some))) ∙ so_far

  pub rows_from_skipped : n ≤ 0 → rows ++ rows_from query table.name (i + 1 + 1) (drop (i + 1) table.columns) ≡ total
  unfolding rest here
  rows_from_skipped none = ap (λ us. rows ++ us) (sym (step ∙ ap (λ b. cond b (here ∷ rest) rest) (le-ltb 0 n none))) ∙ so_far
