-- The names of tables are names, and a table has few bytes.
use Rattle.std.proofs.Common.{◌≡◌, refl, ap, ◌∙◌, ℕ, zero, suc, ◌+◌, ◌*◌, ◌<◌, ◌≤◌, ◌^◌, ◌%◌, List, [], ◌∷◌, ◌++◌, Bool, true, ◌&&◌, length, decimal, flat_map, arith, length-append}
use Rattle.std.specs.Prelude.{nat_le}
use Rattle.std.specs.List.{list_all, range_with_len}
use Rattle.std.proofs.lemmas.Bool.Decides.{nat_tests}
use Rattle.std.proofs.lemmas.Fmt.{decimal_by_steps, length-decimal-le}
use Rattle.std.proofs.lemmas.List.Folds.{list_all-append}
use Rattle.lake_model.specs.Tables.{is_name}
use Rattle.lake_model.specs.Texts.{Text}
use Rattle.option_model.specs.Generator.{cell, draw, record_text, table_name, table_text}

abbrev is_printable : ℕ → Bool
is_printable byte = nat_le 0x21 byte && nat_le byte 0x7E

digit_is_printable : (digit : ℕ) → digit < 10 → is_printable (48 + digit) ≡ true
digit_is_printable digit h = grind (arith, nat_tests)

one_more : (text : Text) (digit : ℕ) → digit < 10 → list_all is_printable text ≡ true → list_all is_printable (text ++ (48 + digit) ∷ []) ≡ true
one_more text digit h all =
    list_all-append is_printable text ((48 + digit) ∷ [])
    ∙ ap (λ (b : Bool). b && (is_printable (48 + digit) && true)) all
    ∙ ap (λ (b : Bool). b && true) (digit_is_printable digit h)

printable_decimal : (n : ℕ) → n < 2 ^ 64 → list_all is_printable (decimal n) ≡ true
printable_decimal n h =
    decimal_by_steps (λ (m : ℕ) (text : List ℕ). list_all is_printable text ≡ true)
    (λ (m : ℕ) (small : m < 10). ap (λ (b : Bool). b && true) (digit_is_printable m small))
    (λ (m : ℕ) (text : List ℕ) (big : 10 ≤ m) (before : list_all is_printable text ≡ true). one_more text (m % 10) (omega arith) before)
    n h

table_name_is_name : (n : ℕ) → n < 2 ^ 32 → is_name (table_name n) ≡ true
table_name_is_name n h =
    let wide : n < 2 ^ 64 = omega arith in
    let short : length (decimal n) ≤ 20 = length-decimal-le 20 n (omega arith) (omega arith) wide in
    let long : length (table_name n) ≡ suc (length (decimal n)) = refl in
    named (length (table_name n)) (omega arith) (omega arith) (printable_decimal n wide)
  where
    named : (size : ℕ) → 1 ≤ size → size ≤ 255 → {all : Bool} → all ≡ true → (nat_le 1 size && nat_le size 255 && all) ≡ true
    named size low high {all} e = ap (λ (b : Bool). nat_le 1 size && nat_le size 255 && b) e ∙ grind (arith, nat_tests)

-- what is read as a name of a table is one
pub name_read : (n m : ℕ) (t₀ t₁ t₂ t₃ : Text) → n < 2 ^ 32 → m ≡ n → t₀ ≡ [] → t₁ ≡ t₀ ++ 0x67 ∷ [] → t₂ ≡ t₁ ++ decimal m → t₃ ≡ t₂ → is_name t₃ ≡ true
name_read n m t₀ t₁ t₂ t₃ h number none first second last =
    ap is_name (last ∙ second ∙ (λ i. (first ∙ ap (λ (text : Text). text ++ 0x67 ∷ []) none) i ++ decimal (number i))) ∙ table_name_is_name n h

-- ---- lengths

cell_short : (s n below : ℕ) → 0 < below → below < 2 ^ 32 → length (cell s n below) ≤ 21
cell_short s n below low high =
    let drawn : draw s n % below < below = omega arith in
    let wide : draw s n % below < 2 ^ 64 = omega arith in
    let short : length (decimal (draw s n % below)) ≤ 20 = length-decimal-le 20 (draw s n % below) (omega arith) (omega arith) wide in
    omega (arith, length-suc)
  where
    length-suc : length (cell s n below) ≡ suc (length (decimal (draw s n % below)))
    length-suc = refl

record_short : (s n : ℕ) → length (record_text s n) ≤ 66
record_short s n =
    let a : length (cell s n 64) ≤ 21 = cell_short s n 64 (omega arith) (omega arith) in
    let b : length (cell s (n + 1) 1024) ≤ 21 = cell_short s (n + 1) 1024 (omega arith) (omega arith) in
    let c : length (cell s (n + 2) 16384) ≤ 21 = cell_short s (n + 2) 16384 (omega arith) (omega arith) in
    simp length-append (omega arith)

rows_short : (s k from rows : ℕ) → length (flat_map (λ (row : ℕ). record_text s (k + 3 * row)) (range_with_len from rows)) ≤ 66 * rows
rows_short s k from zero = omega arith
rows_short s k from (suc rows) =
    let first : length (record_text s (k + 3 * from)) ≤ 66 = record_short s (k + 3 * from) in
    let rest : length (flat_map (λ (row : ℕ). record_text s (k + 3 * row)) (range_with_len (from + 1) rows)) ≤ 66 * rows = rows_short s k (from + 1) rows in
    rw length-append (omega arith)

table_short : (s k rows : ℕ) → rows ≤ 5000 → length (table_text s rows k) ≤ 67108864
table_short s k rows h =
    let all : length (flat_map (λ (row : ℕ). record_text s (k + 3 * row)) (range_with_len 0 rows)) ≤ 66 * rows = rows_short s k 0 rows in
    rw length-append (omega arith)

pub bytes_short : (s rows : ℕ) (bytes : List ℕ) → rows ≤ 5000 → bytes ≡ table_text s rows 0 → length bytes ≤ 67108864
bytes_short s rows bytes h e = rw e (table_short s 0 rows h)
