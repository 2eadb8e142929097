-- The columns of a list of tables, one at a time and one table at a time, and where each is.
use Rattle.std.proofs.Common.{◌≡◌, ap, sym, ◌∙◌, ℕ, zero, suc, ◌+◌, ◌-◌, ◌<◌, ◌≤◌, List, [], ◌∷◌, ◌++◌, map, length, get_or, take, arith, append-nil, append_assoc}
use Rattle.std.specs.List.{AllByRecursion, flat_map, enumerate_from}
use Rattle.std.proofs.lemmas.List.{get_or-map, length-map, take_all, take_more}
use Rattle.std.proofs.lemmas.List.FromFn.{get_or-enumerate_from, length-enumerate_from}
use Rattle.list_laws.proofs.ListLemmas.{all_at, all_append}
use Rattle.lake_model.specs.Texts.{Text}
use Rattle.lake_model.specs.Tables.{Column, Table, column_with, keys_at}
use Rattle.search_model.specs.Arrays.{no_titled, table_at, titled_at}
use Rattle.search_model.specs.Segment.{Titled, columns_in, columns_of, titled, titled_in}

pub length-columns_in : (number : ℕ) (table : Table) → length (columns_in number table) ≡ length table.columns
length-columns_in number table = length-map (enumerate_from 1 table.columns) (λ (c : ℕ × Column). titled number table.name c.0 c.1) ∙ length-enumerate_from 1 table.columns

pub column_in : (number : ℕ) (table : Table) (i : ℕ) → i < length table.columns → get_or (columns_in number table) i no_titled ≡ titled_in number table (i + 1)
column_in number table i h =
    let no = column_with [] [] in
    let of : ℕ × Column → Titled = λ c. titled number table.name c.0 c.1 in
    let inside : i < length (enumerate_from 1 table.columns) = omega (arith, length-enumerate_from 1 table.columns) in
    let one : 1 + i ≡ i + 1 = omega arith in
    let back : i ≡ i + 1 - 1 = omega arith in
    get_or-map of (enumerate_from 1 table.columns) i (1, no) no_titled inside
    ∙ ap of (get_or-enumerate_from 1 table.columns i (1, no) h)
    ∙ (λ j. titled number table.name (one j) (get_or table.columns (back j) no))

-- the columns of a table, with one more
pub columns_in_more : (number : ℕ) (table : Table) (i : ℕ) → i < length table.columns → take (i + 1) (columns_in number table) ≡ take i (columns_in number table) ++ titled_in number table (i + 1) ∷ []
columns_in_more number table i h =
    take_more (columns_in number table) i no_titled (omega (arith, length-columns_in number table)) ∙ ap (λ (c : Titled). take i (columns_in number table) ++ c ∷ []) (column_in number table i h)

pub columns_in_all : (number : ℕ) (table : Table) (i : ℕ) → length table.columns ≤ i → take i (columns_in number table) ≡ columns_in number table
columns_in_all number table i h = take_all i (columns_in number table) (omega (arith, length-columns_in number table))

abbrev pub columns_from : ℕ → List Table → List Titled
columns_from n tables = flat_map (λ t. columns_in t.0 t.1) (enumerate_from n tables)

tables_from : (n : ℕ) (tables : List Table) (i : ℕ) → i < length tables → columns_from n (take (suc i) tables) ≡ columns_from n (take i tables) ++ columns_in (n + i) (table_at tables i)
tables_from n [] i h = absurd (omega arith)
tables_from n (t ∷ tables) zero h = let z : n ≡ n + 0 = omega arith in append-nil (columns_in n t) ∙ ap (λ (k : ℕ). columns_in k t) z
tables_from n (t ∷ tables) (suc i) h =
    let e : n + 1 + i ≡ n + suc i = omega arith in
    ap (λ (cs : List Titled). columns_in n t ++ cs) (tables_from (n + 1) tables i (omega arith) ∙ ap (λ (k : ℕ). columns_from (n + 1) (take i tables) ++ columns_in k (table_at tables i)) e)
    ∙ sym (append_assoc (columns_in n t) (columns_from (n + 1) (take i tables)) (columns_in (n + suc i) (table_at tables i)))

-- the columns of the tables, with those of one more table
pub columns_of_more : (tables : List Table) (i : ℕ) → i < length tables → columns_of (take (i + 1) tables) ≡ columns_of (take i tables) ++ columns_in i (table_at tables i)
columns_of_more tables i h =
    let one : i + 1 ≡ suc i = omega arith in
    let z : 0 + i ≡ i = omega arith in
    ap (λ (n : ℕ). columns_of (take n tables)) one ∙ tables_from 0 tables i h ∙ ap (λ (k : ℕ). columns_of (take i tables) ++ columns_in k (table_at tables i)) z

-- ---- where a column is

-- a column is the one at its place in the table with its index
pub record Stands (tables : List Table) (c : Titled) : Type 0 where
  pub table : c.from < length tables
  pub low : 0 < c.place
  pub high : c.place ≤ length (table_at tables c.from).columns
  pub keys : keys_at (table_at tables c.from) c.place ≡ c.column.keys

-- the columns of a table from a given one on
stand_in : (tables : List Table) (number : ℕ) (name : Text) (before : ℕ) (columns : List Column) → number < length tables → before + length columns ≤ length (table_at tables number).columns
    → ((i : ℕ) → i < length columns → get_or (table_at tables number).columns (before + i) (column_with [] []) ≡ get_or columns i (column_with [] []))
    → AllByRecursion (Stands tables) (map (λ c. titled number name c.0 c.1) (enumerate_from (before + 1) columns))
stand_in tables number name before [] h room same = tt
stand_in tables number name before (c ∷ columns) h room same =
    let no = column_with [] [] in
    let all = (table_at tables number).columns in
    let z : before + 1 - 1 ≡ before + 0 = omega arith in
    let keys : keys_at (table_at tables number) (before + 1) ≡ c.keys =
    get_or-map (λ (c : Column). c.keys) all (before + 1 - 1) no [] (omega arith) ∙ ap (λ (n : ℕ). (get_or all n no).keys) z ∙ ap (λ (c : Column). c.keys) (same 0 (omega arith)) in (
      record { table = h; low = omega arith; high = omega arith; keys = keys },
      stand_in tables number name (before + 1) columns h (omega arith) (λ i b. (let e : before + 1 + i ≡ before + suc i = omega arith in ap (λ (n : ℕ). get_or all n no) e) ∙ same (suc i) (omega arith)),
    )

-- the columns of the tables from a given one on
stand_from : (tables : List Table) (before : ℕ) (rest : List Table) → before + length rest ≤ length tables → ((i : ℕ) → i < length rest → table_at tables (before + i) ≡ table_at rest i) → AllByRecursion (Stands tables) (columns_from before rest)
stand_from tables before [] room same = tt
stand_from tables before (t ∷ rest) room same =
    let z : before ≡ before + 0 = omega arith in
    let is : table_at tables before ≡ t = ap (table_at tables) z ∙ same 0 (omega arith) in
    let here : AllByRecursion (Stands tables) (columns_in before t) =
    stand_in tables before t.name 0 t.columns (omega arith) (omega (arith, ap (λ (t : Table). length t.columns) is))
    (λ i b. (let s : 0 + i ≡ i = omega arith in (λ j. get_or (is j).columns (s j) (column_with [] [])))) in
    all_append (Stands tables) (columns_in before t) (columns_from (before + 1) rest) here
    (stand_from tables (before + 1) rest (omega arith) (λ i b. (let e : before + 1 + i ≡ before + suc i = omega arith in ap (table_at tables) e) ∙ same (suc i) (omega arith)))

pub stands : (tables : List Table) (n : ℕ) → n < length (columns_of tables) → Stands tables (titled_at (columns_of tables) n)
stands tables n h = all_at (Stands tables) (columns_of tables) n no_titled (stand_from tables 0 tables (omega arith) (λ i b. (let z : 0 + i ≡ i = omega arith in ap (table_at tables) z))) h
