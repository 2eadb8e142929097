-- The keys of tables.
use Rattle.std.proofs.Common.{◌≡◌, refl, ap, sym, ◌∙◌, ℕ, ◌+◌, ◌-◌, ◌<◌, List, [], ◌∷◌, ◌++◌, map, length, get_or, take, arith, append-nil, length-append}
use Rattle.std.specs.Prelude.{bytes_eq, sum_by, flat_map}
use Rattle.std.specs.List.{All, AllByRecursion, IsDistinct, enumerate_from}
use Rattle.std.proofs.lemmas.List.{length-map, take_more}
use Rattle.std.proofs.lemmas.List.Concat.{flat_map-append}
use Rattle.std.proofs.lemmas.List.Elements.{recursion_from_All}
use Rattle.std.proofs.lemmas.List.Sums.{sum_by-cons}
use Rattle.list_laws.proofs.ListLemmas.{all_append}
use Rattle.column_set.specs.Columns.{HasDistinctKeys}
use Rattle.lake_model.specs.Texts.{Text}
use Rattle.lake_model.specs.Tables.{Column, Table, keys_at, members, sets_of}
use Rattle.search_model.specs.Arrays.{all_of, no_table, table_at}
use Rattle.search_model.specs.Segment.{Titled, columns_of, titled}
use Rattle.token_order.specs.Places.{keys_in, keys_of}

pub keys_in_more : (table : Table) (i : ℕ) → i < length table.columns → all_of (take (i + 1) (sets_of table)) ≡ all_of (take i (sets_of table)) ++ keys_at table (i + 1)
keys_in_more table i h =
    let long : i < length (sets_of table) = omega (arith, length-map table.columns (λ (c : Column). c.keys)) in
    let at : i + 1 - 1 ≡ i = omega arith in
    ap all_of (take_more (sets_of table) i [] long)
    ∙ flat_map-append (λ (keys : List Text). keys) (take i (sets_of table)) (get_or (sets_of table) i [] ∷ [])
    ∙ ap (λ (keys : List Text). all_of (take i (sets_of table)) ++ keys) (append-nil (get_or (sets_of table) i []) ∙ ap (λ (n : ℕ). get_or (sets_of table) n []) (sym at))

pub keys_of_more : (tables : List Table) (i : ℕ) → i < length tables → keys_of (take (i + 1) tables) ≡ keys_of (take i tables) ++ keys_in (table_at tables i)
keys_of_more tables i h =
    ap keys_of (take_more tables i no_table h)
    ∙ flat_map-append keys_in (take i tables) (table_at tables i ∷ [])
    ∙ ap (λ (keys : List Text). keys_of (take i tables) ++ keys) (append-nil (keys_in (table_at tables i)))

length-keys_in : (columns : List Column) → length (all_of (map (λ c. c.keys) columns)) ≡ sum_by (λ c. length c.keys) columns
length-keys_in [] = refl
length-keys_in (c ∷ columns) =
    omega (arith, length-append c.keys (all_of (map (λ (c : Column). c.keys) columns)), length-keys_in columns, sum_by-cons (λ (c : Column). length c.keys) c columns)

-- as many keys as members
pub length-keys_of : (tables : List Table) → length (keys_of tables) ≡ sum_by members tables
length-keys_of [] = refl
length-keys_of (t ∷ tables) =
    omega (arith, length-append (keys_in t) (keys_of tables), length-keys_in t.columns, length-keys_of tables, sum_by-cons members t tables)

-- ---- the same keys, column by column

keys_of_one : (from : ℕ) (table : Text) (place : ℕ) (columns : List Column) → flat_map (λ c. c.column.keys) (map (λ c. titled from table c.0 c.1) (enumerate_from place columns)) ≡ all_of (map (λ c. c.keys) columns)
keys_of_one from table place [] = refl
keys_of_one from table place (c ∷ columns) = ap (λ (keys : List Text). c.keys ++ keys) (keys_of_one from table (place + 1) columns)

keys_of_all : (n : ℕ) (tables : List Table) → flat_map (λ c. c.column.keys) (flat_map (λ t. map (λ c. titled t.0 t.1.name c.0 c.1) (enumerate_from 1 t.1.columns)) (enumerate_from n tables)) ≡ keys_of tables
keys_of_all n [] = refl
keys_of_all n (t ∷ tables) =
    let rest = flat_map (λ (t : ℕ × Table). map (λ (c : ℕ × Column). titled t.0 t.1.name c.0 c.1) (enumerate_from 1 t.1.columns)) (enumerate_from (n + 1) tables) in
    flat_map-append (λ (c : Titled). c.column.keys) (map (λ (c : ℕ × Column). titled n t.name c.0 c.1) (enumerate_from 1 t.columns)) rest
    ∙ ap (λ (keys : List Text). keys ++ flat_map (λ (c : Titled). c.column.keys) rest) (keys_of_one n t.name 1 t.columns)
    ∙ ap (λ (keys : List Text). keys_in t ++ keys) (keys_of_all (n + 1) tables)

pub keys_of_columns : (tables : List Table) → flat_map (λ c. c.column.keys) (columns_of tables) ≡ keys_of tables
keys_of_columns tables = keys_of_all 0 tables

differ_one : (from : ℕ) (table : Text) (place : ℕ) (columns : List Column) → AllByRecursion (λ c. IsDistinct bytes_eq c.keys) columns → AllByRecursion (λ c. IsDistinct bytes_eq c.column.keys) (map (λ c. titled from table c.0 c.1) (enumerate_from place columns))
differ_one from table place [] h = tt
differ_one from table place (c ∷ columns) h = (h.0, differ_one from table (place + 1) columns h.1)

differ_all : (n : ℕ) (tables : List Table) → AllByRecursion HasDistinctKeys tables → AllByRecursion (λ c. IsDistinct bytes_eq c.column.keys) (flat_map (λ t. map (λ c. titled t.0 t.1.name c.0 c.1) (enumerate_from 1 t.1.columns)) (enumerate_from n tables))
differ_all n [] h = tt
differ_all n (t ∷ tables) h = all_append (λ (c : Titled). IsDistinct bytes_eq c.column.keys) _ _ (differ_one n t.name 1 t.columns h.0) (differ_all (n + 1) tables h.1)

-- no column has a key twice
pub columns_differ : (tables : List Table) → All HasDistinctKeys tables → AllByRecursion (λ c. IsDistinct bytes_eq c.column.keys) (columns_of tables)
columns_differ tables h = differ_all 0 tables (recursion_from_All HasDistinctKeys tables h)
