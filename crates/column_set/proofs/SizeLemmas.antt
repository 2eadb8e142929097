-- The sets of a table have no more keys than its fields have bytes.
use Rattle.std.proofs.Common.{◌≡◌, ◌≤◌, ◌+◌, ◌-◌, ℕ, zero, suc, List, [], ◌∷◌, length, map, drop, take, get_or, Option, Some, None, refl, sym, ap, ◌∙◌, arith, add-one, inl, inr}
use Rattle.std.specs.Prelude.{fold, sum_by}
use Rattle.std.specs.List.{cons_option, list_any, range_with_len}
use Rattle.std.specs.Str.{bytes_eq, chars, trim_end, trim_start}
use Rattle.std.proofs.lemmas.Bool.{cases_Bool}
use Rattle.std.proofs.lemmas.List.{length-append}
use Rattle.std.proofs.lemmas.List.FromFn.{sum_by-map-range_with_len_more}
use Rattle.std.proofs.lemmas.List.Sums.{sum_by-cons, sum_by-le-sum_by, sum_by-take-le}
use Rattle.lake_model.specs.declared.Keys.{Keys}
use Rattle.lake_model.specs.Texts.{Text}
use Rattle.lake_model.specs.Keys.{key}
use Rattle.lake_model.specs.Records.{Record, column_at, column_count, field_keys, table_of, text_size}
use Rattle.lake_model.specs.Tables.{Column, add_key, members}

add_key-size : (seen : List Text) (text : Text) → length (add_key seen text) ≤ length seen + 1
add_key-size seen text =
    elim (cases_Bool (list_any (bytes_eq text) seen)) [
      | inl t ↦ rw t (omega arith)
      | inr f ↦ rw f (omega (arith, length-append seen (text ∷ [])))
    ]

distinct-size : (seen texts : List Text) → length (fold add_key seen texts) ≤ length seen + length texts
distinct-size seen [] = omega arith
distinct-size seen (text ∷ texts) =
    let one = add_key-size seen text in
    let rest = distinct-size (add_key seen text) texts in
    omega arith

no_key : (kind : Keys) → key kind [] ≡ None
unfolding trim_start trim_end chars
no_key kind = refl

at_most_one : (found : Option Text) (keys : List Text) (n : ℕ) → length keys ≤ n → length (cons_option found keys) ≤ n + 1
at_most_one None keys n h = omega arith
at_most_one (Some text) keys n h = omega arith

-- only a field with at least one byte gives a key
key-size : (kind : Keys) (field : Text) (keys : List Text) (n : ℕ) → length keys ≤ n → length (cons_option (key kind field) keys) ≤ length field + n
key-size kind [] keys n h = rw (no_key kind) (omega arith)
key-size kind (byte ∷ field) keys n h = let most = at_most_one (key kind (byte ∷ field)) keys (length field + n) (omega arith) in omega arith

field_keys-size : (kind : Keys) (place : ℕ) (rows : List Record) → length (field_keys kind place rows) ≤ sum_by (λ fields. length (get_or fields (place - 1) [])) rows
field_keys-size kind place [] = omega arith
field_keys-size kind place (fields ∷ rows) =
    rw (sum_by-cons (λ (r : Record). length (get_or r (place - 1) [])) fields rows) (key-size kind (get_or fields (place - 1) []) (field_keys kind place rows) _ (field_keys-size kind place rows))

fields_more : (fields : Record) (n : ℕ) → sum_by length (take (suc n) fields) ≡ sum_by length (take n fields) + length (get_or fields n [])
fields_more [] zero = refl
fields_more [] (suc n) = refl
fields_more (field ∷ fields) zero = rw (sum_by-cons (λ (t : Text). length t) field []) (omega arith)
fields_more (field ∷ fields) (suc n) =
    let more = fields_more fields n in
    rw (sum_by-cons (λ (t : Text). length t) field (take (suc n) fields), sum_by-cons (λ (t : Text). length t) field (take n fields)) (omega arith)

rows_more : (rows : List Record) (n : ℕ) → sum_by (λ r. sum_by length (take (suc n) r)) rows ≡ sum_by (λ r. sum_by length (take n r)) rows + sum_by (λ r. length (get_or r n [])) rows
rows_more [] n = refl
rows_more (fields ∷ rows) n =
    let one = fields_more fields n in
    let more = rows_more rows n in
    rw (
      sum_by-cons (λ (t : Record). sum_by length (take (suc n) t)) fields rows,
      sum_by-cons (λ (t : Record). sum_by length (take n t)) fields rows,
      sum_by-cons (λ (t : Record). length (get_or t n [])) fields rows,
    ) (omega arith)

abbrev keys_up_to : Keys → ℕ → List Record → ℕ
keys_up_to kind n rows = sum_by (λ c. length c.keys) (map (column_at kind rows) (range_with_len 1 n))

keys_up_to-suc : (kind : Keys) (n : ℕ) (rows : List Record) → keys_up_to kind (suc n) rows ≡ keys_up_to kind n rows + length (column_at kind rows (suc n)).keys
keys_up_to-suc kind n rows = ap (λ (k : ℕ). keys_up_to kind k rows) (sym (add-one n)) ∙ sum_by-map-range_with_len_more (λ (c : Column). length c.keys) (column_at kind rows) 1 n (suc n) (omega arith)

column-size : (kind : Keys) (n : ℕ) (rows : List Record) → length (column_at kind rows (suc n)).keys ≤ sum_by (λ r. length (get_or r n [])) (drop 1 rows)
column-size kind n rows =
    let place : suc n - 1 ≡ n = omega arith in
    let same = ap (λ (k : ℕ). sum_by (λ (r : Record). length (get_or r k [])) (drop 1 rows)) place in
    omega (arith, distinct-size [] (field_keys kind (suc n) (drop 1 rows)), field_keys-size kind (suc n) (drop 1 rows), same)

-- the first n columns have no more keys than their fields have bytes
first_columns : (kind : Keys) (n : ℕ) (rows : List Record) → keys_up_to kind n rows ≤ sum_by (λ r. sum_by length (take n r)) (drop 1 rows)
first_columns kind zero rows = omega arith
first_columns kind (suc n) rows = omega (arith, keys_up_to-suc kind n rows, column-size kind n rows, first_columns kind n rows, rows_more (drop 1 rows) n)

below_header : (rows : List Record) → sum_by (λ r. sum_by length r) (drop 1 rows) ≤ text_size rows
below_header [] = omega arith
below_header (fields ∷ rows) = rw (sum_by-cons (λ (r : Record). sum_by length r) fields rows) (omega arith)

pub members-size : (kind : Keys) (name : Text) (rows : List Record) → members (table_of kind name rows) ≤ text_size rows
members-size kind name rows =
    let n = column_count rows in
    let columns = first_columns kind n rows in
    let cut = sum_by-le-sum_by (λ (r : Record). sum_by length (take n r)) (λ (r : Record). sum_by length r) (drop 1 rows) (λ r. sum_by-take-le (λ (t : Text). length t) r n) in
    let below = below_header rows in
    omega arith
