-- The rows of matches: one row more, and the first row of a name.
use Rattle.std.proofs.Common.{◌≡◌, refl, ap, ◌∙◌, ◌||◌, List, [], ◌∷◌, ◌++◌, Bool, true, false, cond, Option, Some, None, is_some, append-nil, true≢false}
use Rattle.std.specs.Prelude.{bytes_eq, find, unwrap_or}
use Rattle.std.proofs.lemmas.Slice.Eq.{bytes_eq-Decides}
use Rattle.clap.specs.Walk.{Row, Rule, at_row, default_rows, has_row, more_values, reading_by, with_default, with_values, without}
use Rattle.clap.specs.declared.parser.matches.ValueSource.{ValueSource}
use Rattle.clap.specs.declared.parser.matches.ValueSource.TheVariants.{DefaultValue}
use Rattle.clap.specs.declared.builder.value_parser.Reading.{Reading}
use Rattle.lake_model.specs.Texts.{Text}

-- the first row of the name
abbrev pub row_at : Text → List Row → Option Row
row_at id rows = find (λ row. bytes_eq row.id id) rows

abbrev pub row_with : Text → Reading → ValueSource → List Text → Row
row_with id how source values = record { id = id; values = values; count = None; source = Some source; reading = how }

pub has_row_is : (id : Text) (rows : List Row) → has_row id rows ≡ is_some (row_at id rows)
has_row_is id [] = refl
has_row_is id (row ∷ rows) = by (bytes_eq row.id id) (has_row_is id rows)
  where
    by : (b : Bool) → has_row id rows ≡ is_some (row_at id rows) → (b || has_row id rows) ≡ is_some (cond b (Some row) (row_at id rows))
    by true e = refl
    by false e = e

missing_row : (id : Text) (change : Row → List Row) (missing : List Row) (rows : List Row) → has_row id rows ≡ false → at_row id change missing rows ≡ rows ++ missing
missing_row id change missing [] none = refl
missing_row id change missing (row ∷ rows) none = by (bytes_eq row.id id) none (missing_row id change missing rows)
  where
    by : (b : Bool) → (b || has_row id rows) ≡ false → (has_row id rows ≡ false → at_row id change missing rows ≡ rows ++ missing)
        → cond b (change row ++ rows) (row ∷ at_row id change missing rows) ≡ row ∷ (rows ++ missing)
    by true e below = absurd (true≢false e)
    by false e below = ap (λ (more : List Row). row ∷ more) (below e)

-- values for a name that has no row are one more row
pub one_row_more : (id : Text) (how : Reading) (source : ValueSource) (values : List Text) (rows : List Row) → has_row id rows ≡ false
    → with_values id how source values rows ≡ rows ++ row_with id how source values ∷ []
one_row_more id how source values rows none = missing_row id (more_values source values) (row_with id how source values ∷ []) rows none

-- and so are those of a use that removes the earlier ones
pub used_once : (id : Text) (how : Reading) (source : ValueSource) (values : List Text) (rows : List Row) → has_row id rows ≡ false
    → with_values id how source values (without id rows) ≡ rows ++ row_with id how source values ∷ []
used_once id how source values rows none =
    ap (with_values id how source values) (missing_row id (λ _. []) [] rows none ∙ append-nil rows) ∙ one_row_more id how source values rows none

pub found_behind : (id : Text) (rows : List Row) (row : Row) → row_at id rows ≡ None → bytes_eq row.id id ≡ true → row_at id (rows ++ row ∷ []) ≡ Some row
found_behind id [] row none same = ap (λ (b : Bool). cond b (Some row) None) same
found_behind id (first ∷ rows) row none same = by (bytes_eq first.id id) none (λ e. found_behind id rows row e same)
  where
    by : (b : Bool) → cond b (Some first) (row_at id rows) ≡ None → (row_at id rows ≡ None → row_at id (rows ++ row ∷ []) ≡ Some row)
        → cond b (Some first) (row_at id (rows ++ row ∷ [])) ≡ Some row
    by true e below = cc e
    by false e below = below e

pub found_before : (id : Text) (rows : List Row) (row : Row) → bytes_eq row.id id ≡ false → row_at id (rows ++ row ∷ []) ≡ row_at id rows
found_before id [] row other = ap (λ (b : Bool). cond b (Some row) None) other
found_before id (first ∷ rows) row other = ap (λ (rest : Option Row). cond (bytes_eq first.id id) (Some first) rest) (found_before id rows row other)

-- a default value stands for an argument that has no row
pub default_kept : (id : Text) (a : Rule) (rows : List Row) → bytes_eq a.id id ≡ false → row_at id (with_default rows a) ≡ row_at id rows
default_kept id a rows other = by (has_row a.id rows) refl a.defaults
  where
    by : (b : Bool) → has_row a.id rows ≡ b → (values : List Text) → row_at id (cond b rows (default_rows a.id (reading_by a) values rows)) ≡ row_at id rows
    by true has values = refl
    by false none [] = refl
    by false none (v ∷ vs) = ap (row_at id) (one_row_more a.id (reading_by a) DefaultValue (v ∷ vs) rows none) ∙ found_before id rows _ other

pub no_default : (a : Rule) (rows : List Row) → a.defaults ≡ [] → with_default rows a ≡ rows
no_default a rows none = ap (λ (values : List Text). cond (has_row a.id rows) rows (default_rows a.id (reading_by a) values rows)) none ∙ by (has_row a.id rows)
  where
    by : (b : Bool) → cond b rows rows ≡ rows
    by true = refl
    by false = refl

pub default_row : (a : Rule) (v : Text) (rows : List Row) → a.defaults ≡ v ∷ []
    → row_at a.id (with_default rows a) ≡ Some (unwrap_or (row_at a.id rows) (row_with a.id (reading_by a) DefaultValue (v ∷ [])))
default_row a v rows is = ap (λ (values : List Text). row_at a.id (cond (has_row a.id rows) rows (default_rows a.id (reading_by a) values rows))) is
    ∙ ap (λ (b : Bool). row_at a.id (cond b rows (default_rows a.id (reading_by a) (v ∷ []) rows))) (has_row_is a.id rows) ∙ by (row_at a.id rows) refl
  where
    by : (found : Option Row) → row_at a.id rows ≡ found → row_at a.id (cond (is_some found) rows (default_rows a.id (reading_by a) (v ∷ []) rows))
        ≡ Some (unwrap_or found (row_with a.id (reading_by a) DefaultValue (v ∷ [])))
    by (Some row) e = e
    by None e = ap (row_at a.id) (one_row_more a.id (reading_by a) DefaultValue (v ∷ []) rows (has_row_is a.id rows ∙ ap is_some e))
        ∙ found_behind a.id rows _ e ((bytes_eq-Decides a.id a.id).1 refl)
