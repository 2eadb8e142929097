-- The places of tokens among the columns that a vocabulary holds are those among the columns of its tables.
use Rattle.std.proofs.Common.{◌≡◌, refl, ap, sym, ◌∙◌, ℕ, ◌<◌, List, [], ◌∷◌, map, length, get_or, arith}
use Rattle.std.specs.List.{All, AllByRecursion}
use Rattle.std.proofs.lemmas.List.{get_or-map, length-map}
use Rattle.std.proofs.lemmas.List.Elements.{recursion_from_All}
use Rattle.lake_model.specs.Texts.{Text}
use Rattle.lake_model.specs.Tables.{Table, keys_at}
use Rattle.search_model.specs.declared.Owner.{Owner}
use Rattle.search_model.specs.declared.TokenAt.{TokenAt}
use Rattle.search_model.specs.Arrays.{keys_held, no_titled, owner_of, pointed, table_at, titled_at, IsAt}
use Rattle.search_model.specs.Segment.{columns_of}
use Rattle.search_model.proofs.ColumnLemmas.{stands}
use Rattle.token_order.specs.Columns.{column_at, keys_there, no_column, owner_there}
use Rattle.token_order.specs.Places.{pointed_by, IsThere}
use Rattle.token_order.specs.declared.columns.ColumnAt.{ColumnAt}

module _ (tables : List Table) (columns : List ColumnAt) (owned : map owner_there columns ≡ map owner_of (columns_of tables)) where
  long : length columns ≡ length (columns_of tables)
  long = sym (length-map columns owner_there) ∙ ap length owned ∙ length-map (columns_of tables) owner_of

  keys_same : (n : ℕ) → n < length columns → keys_there tables (column_at columns n) ≡ keys_held tables n
  keys_same n h =
      let no : Owner = record { table = 0; place = 0 } in
      let inside : n < length (columns_of tables) = omega (arith, long, h) in
      let here : owner_there (column_at columns n) ≡ owner_of (titled_at (columns_of tables) n) =
      sym (get_or-map owner_there columns n no_column no h) ∙ ap (λ (os : List Owner). get_or os n no) owned ∙ get_or-map owner_of (columns_of tables) n no_titled no inside in
      ap (λ (o : Owner). keys_at (table_at tables o.table) o.place) here ∙ (stands tables n inside).keys

  pub point_same : (places : List TokenAt) → AllByRecursion (IsThere tables columns) places → map (pointed_by tables columns) places ≡ map (pointed tables) places
  point_same [] h = refl
  point_same (at ∷ places) h =
      let first : pointed_by tables columns at ≡ pointed tables at = ap (λ (keys : List Text). get_or keys at.index []) (keys_same at.column h.0.column) in
      let rest = point_same places h.1 in
      λ i. first i ∷ rest i

  -- their keys
  pub points : (places : List TokenAt) → All (IsThere tables columns) places → map (pointed_by tables columns) places ≡ map (pointed tables) places
  points places h = point_same places (recursion_from_All (IsThere tables columns) places h)

  -- and that they have some
  pub are_at : (places : List TokenAt) → All (IsThere tables columns) places → All (IsAt tables) places
  are_at places h i d b =
      let there = h i d b in
      record {
        column = omega (arith, there.column, long);
        index = omega (arith, there.index, ap length (keys_same (get_or places i d).column there.column));
      }
