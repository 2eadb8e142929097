-- A table from its titles and the sets of its columns: how many columns it has, its titles, the set at a place, and the sums.
use Rattle.std.proofs.Common.{◌≡◌, refl, ap, sym, ◌∙◌, ℕ, ◌-◌, ◌<◌, ◌≤◌, List, [], ◌∷◌, map, length, arith, drop, get_or, subst}
use Rattle.std.specs.Prelude.{bytes_eq, sum_by}
use Rattle.std.specs.List.{AllByRecursion, IsDistinct}
use Rattle.std.proofs.lemmas.List.FromFn.{length-map-range_with_len}
use Rattle.std.proofs.lemmas.List.Sums.{sum_by-cons}
use Rattle.lake_model.specs.declared.Keys.{Keys}
use Rattle.lake_model.specs.Texts.{Text}
use Rattle.lake_model.specs.Records.{Record, column_at, column_count, field_at, field_keys, places_of, table_of}
use Rattle.lake_model.specs.Tables.{Column, Table, Titles, column_with, table_with, titles_of, titles_with, keys_at, members, key_bytes}
use Rattle.lake_model.proofs.DistinctLemmas.{distinct_differ}
use Rattle.list_laws.proofs.ListLemmas.{all_at, all_map, all_of}
use Rattle.column_set.specs.Columns.{HasDistinctKeys, IsHeld, IsSmall, columns_with, table_from}

length-columns_with : (names : List Text) (sets : List (List Text)) → length names ≡ length sets → length (columns_with names sets) ≡ length sets
length-columns_with [] sets h = h
length-columns_with (name ∷ names) [] h = refl
length-columns_with (name ∷ names) (keys ∷ sets) h = omega (arith, length-columns_with names sets (omega arith))

names-columns_with : (names : List Text) (sets : List (List Text)) → length names ≡ length sets → map (λ c. c.name) (columns_with names sets) ≡ names
names-columns_with [] sets h = refl
names-columns_with (name ∷ names) [] h = absurd (omega arith)
names-columns_with (name ∷ names) (keys ∷ sets) h = ap (λ ns. name ∷ ns) (names-columns_with names sets (omega arith))

sets-columns_with : (names : List Text) (sets : List (List Text)) → length names ≡ length sets → map (λ c. c.keys) (columns_with names sets) ≡ sets
sets-columns_with [] [] h = refl
sets-columns_with [] (keys ∷ sets) h = absurd (omega arith)
sets-columns_with (name ∷ names) [] h = refl
sets-columns_with (name ∷ names) (keys ∷ sets) h = ap (λ ss. keys ∷ ss) (sets-columns_with names sets (omega arith))

sum_by-columns_with : (f : List Text → ℕ) (names : List Text) (sets : List (List Text)) → length names ≡ length sets → sum_by (λ c. f c.keys) (columns_with names sets) ≡ sum_by f sets
sum_by-columns_with f [] [] h = refl
sum_by-columns_with f [] (keys ∷ sets) h = absurd (omega arith)
sum_by-columns_with f (name ∷ names) [] h = refl
sum_by-columns_with f (name ∷ names) (keys ∷ sets) h =
    omega (arith, sum_by-cons (λ (c : Column). f c.keys) (column_with name keys) (columns_with names sets), sum_by-cons f keys sets, sum_by-columns_with f names sets (omega arith))

-- names and sets made from the same places
pub columns_with-map : (f : ℕ → Text) (g : ℕ → List Text) (places : List ℕ) → columns_with (map f places) (map g places) ≡ map (λ place. column_with (f place) (g place)) places
columns_with-map f g [] = refl
columns_with-map f g (place ∷ places) = ap (λ columns. column_with (f place) (g place) ∷ columns) (columns_with-map f g places)

all-columns_with : (P : List Text → Type 0) (names : List Text) (sets : List (List Text)) → AllByRecursion P sets → AllByRecursion (λ c. P c.keys) (columns_with names sets)
all-columns_with P [] sets h = tt
all-columns_with P (name ∷ names) [] h = tt
all-columns_with P (name ∷ names) (keys ∷ sets) h = (h.0, all-columns_with P names sets h.1)

members-table_from : (titles : Titles) (sets : List (List Text)) → length titles.columns ≡ length sets → members (table_from titles sets) ≡ sum_by (λ keys. length keys) sets
members-table_from titles sets as_many = sum_by-columns_with (λ keys. length keys) titles.columns sets as_many

key_bytes-table_from : (titles : Titles) (sets : List (List Text)) → length titles.columns ≡ length sets → key_bytes (table_from titles sets) ≡ sum_by (λ keys. sum_by (λ key. length key) keys) sets
key_bytes-table_from titles sets as_many = sum_by-columns_with (λ keys. sum_by (λ key. length key) keys) titles.columns sets as_many

-- a table that is stored as its titles and sets
module _ {titles : Titles} {sets : List (List Text)} {members key_bytes : ℕ} (held : IsHeld titles sets members key_bytes) (table : Table) (is : table_from titles sets ≡ table) where
  pub columns_held : length table.columns ≡ length sets
  columns_held = ap (λ t. length t.columns) (sym is) ∙ length-columns_with titles.columns sets held.as_many

  pub different_held : HasDistinctKeys table
  different_held = subst HasDistinctKeys is (all-columns_with (IsDistinct bytes_eq) titles.columns sets held.different)

  pub titles_held : titles ≡ titles_of table
  titles_held = sym (ap (titles_with titles.table) (names-columns_with titles.columns sets held.as_many)) ∙ ap titles_of is

  module _ (place : ℕ) (low : 0 < place) (high : place ≤ length table.columns) where
    pub place_held : place - 1 < length sets
    place_held = omega (arith, columns_held)

    pub name_held : place ≤ length titles.columns
    name_held = omega (arith, columns_held, held.as_many)

    pub keys_held : get_or sets (place - 1) [] ≡ keys_at table place
    keys_held = ap (λ ss. get_or ss (place - 1) []) (sym (sets-columns_with titles.columns sets held.as_many)) ∙ ap (λ t. keys_at t place) is

    pub small_held : length (get_or sets (place - 1) []) ≤ 4194304
    small_held = all_at IsSmall sets (place - 1) [] held.small place_held

    pub different_at : IsDistinct bytes_eq (get_or sets (place - 1) [])
    different_at = all_at (IsDistinct bytes_eq) sets (place - 1) [] held.different place_held

-- the table that was read: its titles and its sets are of the same places
module _ (kind : Keys) (name : Text) (rows : List Record) (names : List Text) (sets : List (List Text)) (named : names ≡ map (field_at rows 0) (places_of rows)) (read : sets ≡ map (λ place. (column_at kind rows place).keys) (places_of rows)) where
  pub table_read : table_from (titles_with name names) sets ≡ table_of kind name rows
  table_read = (λ i. table_from (titles_with name (named i)) (read i)) ∙ ap (table_with name) (columns_with-map (field_at rows 0) (λ place. (column_at kind rows place).keys) (places_of rows))

  pub as_many_read : length names ≡ length sets
  as_many_read = ap length named ∙ length-map-range_with_len (field_at rows 0) 1 (column_count rows) ∙ sym (ap length read ∙ length-map-range_with_len (λ place. (column_at kind rows place).keys) 1 (column_count rows))

  different_read : AllByRecursion (IsDistinct bytes_eq) sets
  different_read =
      let P : List (List Text) → Type 0 = AllByRecursion (IsDistinct bytes_eq) in
      subst P (sym read) (all_map (IsDistinct bytes_eq) (λ place. (column_at kind rows place).keys) (places_of rows) (all_of (λ place. IsDistinct bytes_eq (column_at kind rows place).keys) (places_of rows) (λ place. distinct_differ (field_keys kind place (drop 1 rows)))))

  pub held_read : length sets ≤ 4096 → AllByRecursion IsSmall sets → (titles : Titles) → titles ≡ titles_with name names → (count bytes : ℕ) → count ≡ sum_by (λ keys. length keys) sets → bytes ≡ sum_by (λ keys. sum_by (λ key. length key) keys) sets → IsHeld titles sets count bytes
  held_read narrow small titles is count bytes counted weighed =
      let as_many : length titles.columns ≡ length sets = ap (λ (t : Titles). length t.columns) is ∙ as_many_read in
      record {
        as_many = as_many;
        narrow = narrow;
        small = small;
        different = different_read;
        counted = counted ∙ sym (members-table_from titles sets as_many);
        weighed = weighed ∙ sym (key_bytes-table_from titles sets as_many);
      }
