-- The place of a column in its table, and the row that follows from it.
use Rattle.std.proofs.Common.{◌≡◌, ap, ◌∙◌, subst, ℕ, suc, ◌+◌, ◌-◌, ◌<◌, ◌≤◌, List, [], ◌∷◌, map, length, get_or, arith}
use Rattle.std.specs.List.{flat_map, enumerate_from, AllByRecursion}
use Rattle.std.proofs.lemmas.List.{get_or-map, length-map}
use Rattle.lake_model.specs.Answer.{Row, row_at}
use Rattle.lake_model.specs.Tables.{Column, Table, Titles, column_name, titles_of}
use Rattle.lake_model.specs.Texts.{Text}
use Rattle.search_model.specs.Looks.{row_with}
use Rattle.search_model.specs.Segment.{Titled, titled, columns_of, segment}
use Rattle.search_model.specs.Arrays.{no_titled, table_at, titled_at}
use Rattle.list_laws.proofs.ListLemmas.{all_append, all_at}
use Rattle.segment_core.proofs.SegmentLemmas.{length-sets}

-- a column is at the place that it says
pub record IsPlaced (tables : List Table) (c : Titled) : Type 0 where
  pub low : 0 < c.place
  pub high : c.place ≤ length (table_at tables c.from).columns
  pub table : (table_at tables c.from).name ≡ c.table
  pub column : column_name (titles_of (table_at tables c.from)) c.place ≡ c.column.name

module _ (all : List Table) (from : ℕ) (t : Table) (is : table_at all from ≡ t) where
  placed_here : (n : ℕ) (c : Column) → n < length t.columns → get_or t.columns n c ≡ c → IsPlaced all (titled from t.name (n + 1) c)
  placed_here n c h e =
      let one : n + 1 - 1 ≡ n = omega arith in
      record {
        low = omega arith;
        high = omega (arith, ap (λ (u : Table). length u.columns) is);
        table = ap (λ (u : Table). u.name) is;
        column =
            ap (λ (u : Table). column_name (titles_of u) (n + 1)) is ∙ ap (λ (m : ℕ). get_or (map (λ (d : Column). d.name) t.columns) m []) one ∙ get_or-map (λ (d : Column). d.name) t.columns n c [] h ∙ ap (λ (d : Column). d.name) e;
      }

  placed_from : (n : ℕ) (columns : List Column) → n + length columns ≡ length t.columns → ((i : ℕ) (d : Column) → i < length columns → get_or t.columns (n + i) d ≡ get_or columns i d)
      → AllByRecursion (IsPlaced all) (map (λ c. titled from t.name c.0 c.1) (enumerate_from (n + 1) columns))
  placed_from n [] e h = tt
  placed_from n (c ∷ columns) e h =
      let z : n ≡ n + 0 = omega arith in
      (placed_here n c (omega arith) (ap (λ (m : ℕ). get_or t.columns m c) z ∙ h 0 c (omega arith)), placed_from (n + 1) columns (omega arith) (λ i d b. let m : n + 1 + i ≡ n + suc i = omega arith in ap (λ (k : ℕ). get_or t.columns k d) m ∙ h (suc i) d (omega arith)))

placed_all : (all : List Table) (n : ℕ) (tables : List Table) → ((i : ℕ) → i < length tables → table_at all (n + i) ≡ table_at tables i)
    → AllByRecursion (IsPlaced all) (flat_map (λ t. map (λ c. titled t.0 t.1.name c.0 c.1) (enumerate_from 1 t.1.columns)) (enumerate_from n tables))
placed_all all n [] h = tt
placed_all all n (t ∷ tables) h =
    let z : n ≡ n + 0 = omega arith in
    let is : table_at all n ≡ t = ap (table_at all) z ∙ h 0 (omega arith) in
    let none : 0 + 1 ≡ 1 = omega arith in
    let here : AllByRecursion (IsPlaced all) (map (λ c. titled n t.name c.0 c.1) (enumerate_from 1 t.columns)) =
    subst (λ (m : ℕ). AllByRecursion (IsPlaced all) (map (λ c. titled n t.name c.0 c.1) (enumerate_from m t.columns))) none (placed_from all n t is 0 t.columns (omega arith) (λ i d b. let e : 0 + i ≡ i = omega arith in ap (λ (k : ℕ). get_or t.columns k d) e)) in
    all_append (IsPlaced all) _ _ here (placed_all all (n + 1) tables (λ i b. let e : n + 1 + i ≡ n + suc i = omega arith in ap (table_at all) e ∙ h (suc i) (omega arith)))

pub placed : (tables : List Table) (set : ℕ) → set < length (segment tables).sets → IsPlaced tables (titled_at (segment tables).columns set)
unfolding segment
placed tables set h =
    let b : set < length (columns_of tables) = omega (arith, length-sets tables) in
    all_at (IsPlaced tables) (columns_of tables) set no_titled (placed_all tables 0 tables (λ i c. let z : 0 + i ≡ i = omega arith in ap (table_at tables) z)) b

abbrev row_made : ℕ → Text → Text → ℕ → Row
row_made overlap table column place = record { overlap = overlap; table = table; column = column; place = place }

-- so its row is that of its table's titles
pub row_placed : (n : ℕ) (tables : List Table) (c : Titled) (titles : Titles) (place : ℕ) → IsPlaced tables c → titles ≡ titles_of (table_at tables c.from) → place ≡ c.place → row_at n titles place ≡ row_with n c
row_placed n tables c titles place p t e = (λ i. row_at n (t i) (e i)) ∙ (λ i. row_made n (p.table i) (p.column i) c.place)

pub titles_within : (tables : List Table) (c : Titled) (titles : Titles) (place : ℕ) → IsPlaced tables c → titles ≡ titles_of (table_at tables c.from) → place ≡ c.place → (0 < place) × (place ≤ length titles.columns)
titles_within tables c titles place p t e =
    let n : length titles.columns ≡ length (table_at tables c.from).columns = ap (λ (u : Titles). length u.columns) t ∙ length-map (table_at tables c.from).columns (λ (d : Column). d.name) in
    (omega (arith, p.low), omega (arith, p.high))
