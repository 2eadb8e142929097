-- Columns that are appended to others.
use Rattle.std.proofs.Common.{◌≡◌, ap, sym, ◌∙◌, ℕ, ◌+◌, ◌<◌, List, [], ◌∷◌, ◌++◌, length, map, take, arith, inl, inr, append-nil, append_assoc, length-append}
use Rattle.std.proofs.lemmas.Bool.{cases_lt}
use Rattle.std.proofs.lemmas.List.{get_or_append_left, get_or_push, length_push, map_push, take-append-le, take_more}
use Rattle.std.proofs.lemmas.List.Concat.{flat_map-append}
use Rattle.std.proofs.lemmas.List.Elements.{All-push}
use Rattle.std.proofs.Math.Seq.{take-append_seam}
use Rattle.lake_model.specs.Texts.{Text}
use Rattle.lake_model.specs.Tables.{Table}
use Rattle.search_model.specs.declared.Owner.{Owner}
use Rattle.search_model.specs.Arrays.{owner_of}
use Rattle.search_model.specs.Segment.{Titled}
use Rattle.token_order.specs.Columns.{column_at, keys_there, keys_through, no_column, owner_there, AreColumns, AreMoreColumns, IsColumn}
use Rattle.token_order.specs.declared.columns.ColumnAt.{ColumnAt}

-- the keys, with those of one more column
pub keys_through_more : (tables : List Table) (columns : List ColumnAt) (i : ℕ) → i < length columns → keys_through tables (take (i + 1) columns) ≡ keys_through tables (take i columns) ++ keys_there tables (column_at columns i)
keys_through_more tables columns i h =
    ap (keys_through tables) (take_more columns i no_column h)
    ∙ flat_map-append (keys_there tables) (take i columns) (column_at columns i ∷ [])
    ∙ ap (λ (keys : List Text). keys_through tables (take i columns) ++ keys) (append-nil (keys_there tables (column_at columns i)))

pub keys_through_push : (tables : List Table) (columns : List ColumnAt) (column : ColumnAt) → keys_through tables (columns ++ column ∷ []) ≡ keys_through tables columns ++ keys_there tables column
keys_through_push tables columns column =
    flat_map-append (keys_there tables) columns (column ∷ []) ∙ ap (λ (keys : List Text). keys_through tables columns ++ keys) (append-nil (keys_there tables column))

pub columns_push : (tables : List Table) (columns : List ColumnAt) (column : ColumnAt) → AreColumns tables columns → IsColumn tables column → column.first ≡ length (keys_through tables columns) → AreColumns tables (columns ++ column ∷ [])
columns_push tables columns column are is first =
    record {
      each = All-push (IsColumn tables) columns column are.each is;
      firsts = λ i d b. elim (cases_lt i (length columns)) [
        | inl l ↦
            ap (λ (c : ColumnAt). c.first) (get_or_append_left columns (column ∷ []) d i l)
            ∙ are.firsts i d l
            ∙ ap (λ (cs : List ColumnAt). length (keys_through tables cs)) (sym (take-append-le i columns (column ∷ []) (omega (arith, l))))
        | inr g ↦
            let at : i ≡ length columns = omega (arith, g, b, length_push columns column) in
            ap (λ (c : ColumnAt). c.first) (get_or_push columns column d i (sym at))
            ∙ first
            ∙ ap (λ (cs : List ColumnAt). length (keys_through tables cs)) (sym (ap (λ (n : ℕ). take n (columns ++ column ∷ [])) at ∙ take-append_seam columns (column ∷ [])))
      ];
    }

-- one more column, with these keys, which is this one of the table at an index
pub more_column : (tables : List Table) (old new : List ColumnAt) (added : List Titled) (keys : List Text) (first next : ℕ) (column : ColumnAt) (titled : Titled) → AreMoreColumns tables old new added keys first → IsColumn tables column → owner_there column ≡ owner_of titled → column.first ≡ first → next ≡ first + length (keys_there tables column)
    → AreMoreColumns tables old (new ++ column ∷ []) (added ++ titled ∷ []) (keys ++ keys_there tables column) next
more_column tables old new added keys first next column titled more is owns at after =
    let push = keys_through_push tables new column in
    record {
      columns = columns_push tables new column more.columns is (at ∙ more.counted);
      owned =
          map_push owner_there new column
          ∙ (λ i. more.owned i ++ owns i ∷ [])
          ∙ append_assoc (map owner_there old) (map owner_of added) (owner_of titled ∷ [])
          ∙ ap (λ (os : List Owner). map owner_there old ++ os) (sym (map_push owner_of added titled));
      held = push ∙ ap (λ (ks : List Text). ks ++ keys_there tables column) more.held ∙ append_assoc (keys_through tables old) keys (keys_there tables column);
      counted = omega (arith, after, more.counted, ap (λ (ks : List Text). length ks) push, length-append (keys_through tables new) (keys_there tables column));
    }
