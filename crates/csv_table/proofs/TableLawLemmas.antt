-- Records have no fault exactly where they are a table.
use Rattle.std.proofs.Common.{◌≡◌, ◌+◌, ℕ, List, [], ◌∷◌, length, Option, Some, None, refl, inl, inr, arith, eq-eqb}
use Rattle.std.specs.Prelude.{nat_lt, ◌==◌}
use Rattle.std.specs.List.{AllByRecursion}
use Rattle.std.specs.Str.{is_utf8}
use Rattle.std.proofs.lemmas.Bool.{cases_Bool, eqb-true, ltb-true, ltb-false}
use Rattle.std.proofs.lemmas.Str.{IsUtf8-from_is_utf8, is_utf8-from_IsUtf8}
use Rattle.csv.specs.Records.{AllText}
use Rattle.lake_model.specs.Records.{IsRow, IsTable}
use Rattle.lake_model.specs.Records.{Record, header_fault, or_else, record_fault, rows_fault, table_fault, text_fault}
use Rattle.lake_model.specs.declared.CsvRefused.{CsvRefused}

text_of : (row place : ℕ) (fs : Record) → text_fault row place fs ≡ None → AllText fs
unfolding text_fault AllText
text_of row place [] e = tt
text_of row place (f ∷ fs) e =
    elim (cases_Bool (is_utf8 f)) [
      | inl t ↦ (IsUtf8-from_is_utf8 f t, text_of row (place + 1) fs (rw t at e))
      | inr b ↦ cc (rw b at e)
    ]

pub text_from : (row place : ℕ) (fs : Record) → AllText fs → text_fault row place fs ≡ None
unfolding text_fault AllText
text_from row place [] h = refl
text_from row place (f ∷ fs) h = rw (is_utf8-from_IsUtf8 f h.0) (text_from row (place + 1) fs h.1)

row_of : (row : ℕ) (names r : Record) → record_fault row (length names) r ≡ None → IsRow names r
row_of row names r e =
    elim (cases_Bool (length r == length names)) [
      | inl t ↦ (eqb-true (length r) (length names) t, text_of row 1 r (rw t at e))
      | inr b ↦ cc (rw b at e)
    ]

row_from : (row : ℕ) (names r : Record) → IsRow names r → record_fault row (length names) r ≡ None
row_from row names r h = rw (eq-eqb (length r) (length names) h.0) (text_from row 1 r h.1)

both : (a b : Option CsvRefused) → or_else a b ≡ None → (a ≡ None) × (b ≡ None)
both None b e = (refl, e)
both (Some x) b e = cc e

rows_of : (row : ℕ) (names : Record) (rs : List Record) → rows_fault row (length names) rs ≡ None → AllByRecursion (IsRow names) rs
unfolding rows_fault
rows_of row names [] e = tt
rows_of row names (r ∷ rs) e =
    let two = both (record_fault row (length names) r) (rows_fault (row + 1) (length names) rs) e in
    (row_of row names r two.0, rows_of (row + 1) names rs two.1)

rows_from : (row : ℕ) (names : Record) (rs : List Record) → AllByRecursion (IsRow names) rs → rows_fault row (length names) rs ≡ None
unfolding rows_fault
rows_from row names [] h = refl
rows_from row names (r ∷ rs) h = rw (row_from row names r h.0) (rows_from (row + 1) names rs h.1)

pub table_of : (most : ℕ) (rs : List Record) → table_fault most rs ≡ None → IsTable most rs
table_of most [] e = cc e
table_of most (names ∷ rows) e =
    let two = both (header_fault most names) (rows_fault 2 (length names) rows) e in
    elim (cases_Bool (nat_lt most (length names))) [
      | inl t ↦ cc (rw t at two.0)
      | inr b ↦ (ltb-false most (length names) b, text_of 1 1 names (rw b at two.0), rows_of 2 names rows two.1)
    ]

pub table_from : (most : ℕ) (rs : List Record) → IsTable most rs → table_fault most rs ≡ None
table_from most [] h = absurd h
table_from most (names ∷ rows) h =
    elim (cases_Bool (nat_lt most (length names))) [
      | inl t ↦ absurd (omega (arith, ltb-true most (length names) t))
      | inr b ↦ rw (b, text_from 1 1 names h.1) (rows_from 2 names rows h.2)
    ]
