-- The text of watched queries over a journal that goes on, and that rows are the same exactly if they are equal.
use Rattle.std.proofs.Common.{◌≡◌, refl, ap, sym, ◌∙◌, ℕ, List, [], ◌∷◌, ◌++◌, true, false, append-nil, append_assoc, flat_map}
use Rattle.std.specs.Prelude.{◌==◌, bytes_eq}
use Rattle.std.proofs.lemmas.Bool.{eq-eqb, eqb-true, and_parts}
use Rattle.std.proofs.lemmas.Grind.{flat_map-append}
use Rattle.list_laws.proofs.ListLemmas.{joined, same_texts, texts_same}
use Rattle.lake_model.specs.Texts.{Text}
use Rattle.lake_model.specs.Answer.{Row}
use Rattle.lake_model.specs.Journal.{Entry}
use Rattle.script_model.specs.Words.{line_text}
use Rattle.record_model.specs.Watched.{lines_at, lines_behind, same_row, same_rows, watch_text_behind}

-- ---- the same rows

same_row_equal : (a b : Row) → same_row a b ≡ true → a ≡ b
same_row_equal a b same =
    let first = and_parts _ _ same in
    let second = and_parts _ _ first.1 in
    let third = and_parts _ _ second.1 in
    let overlap : a.overlap ≡ b.overlap = eqb-true _ _ first.0 in
    let table : a.table ≡ b.table = same_texts _ _ second.0 in
    let column : a.column ≡ b.column = same_texts _ _ third.0 in
    let place : a.place ≡ b.place = eqb-true _ _ third.1 in
    λ i. record { overlap = overlap i; table = table i; column = column i; place = place i }

same_row_self : (row : Row) → same_row row row ≡ true
same_row_self row =
    let overlap : (row.overlap == row.overlap) ≡ true = eq-eqb row.overlap row.overlap refl in
    let table : bytes_eq row.table row.table ≡ true = texts_same row.table row.table refl in
    let column : bytes_eq row.column row.column ≡ true = texts_same row.column row.column refl in
    let place : (row.place == row.place) ≡ true = eq-eqb row.place row.place refl in
    joined _ _ overlap (joined _ _ table (joined _ _ column place))

same_rows_self : (rows : List Row) → same_rows rows rows ≡ true
unfolding same_rows
same_rows_self [] = refl
same_rows_self (row ∷ rows) = joined (same_row row row) (same_rows rows rows) (same_row_self row) (same_rows_self rows)

-- Rows that are the same are equal,
pub same_rows_equal : (xs ys : List Row) → same_rows xs ys ≡ true → xs ≡ ys
unfolding same_rows
same_rows_equal [] [] same = refl
same_rows_equal [] (y ∷ ys) same = absurd (let f : false ≡ true = same in cc)
same_rows_equal (x ∷ xs) [] same = absurd (let f : false ≡ true = same in cc)
same_rows_equal (x ∷ xs) (y ∷ ys) same =
    let parts = and_parts (same_row x y) (same_rows xs ys) same in
    λ i. same_row_equal x y parts.0 i ∷ same_rows_equal xs ys parts.1 i

-- and equal rows are the same.
pub equal_rows_same : (xs ys : List Row) → xs ≡ ys → same_rows xs ys ≡ true
equal_rows_same xs ys equal = ap (λ (rows : List Row). same_rows xs rows) (sym equal) ∙ same_rows_self xs

-- ---- a journal that goes on

lines_on : (k : ℕ) (queries : List (List Text)) (before xs ys : List Entry)
    → lines_behind k queries before (xs ++ ys) ≡ lines_behind k queries before xs ++ lines_behind k queries (before ++ xs) ys
unfolding lines_behind
lines_on k queries before [] ys = ap (λ (journal : List Entry). lines_behind k queries journal ys) (sym (append-nil before))
lines_on k queries before (entry ∷ xs) ys =
    let now = before ++ entry ∷ [] in
    let here = lines_at k queries before now in
    ap (λ (rest : List Text). here ++ rest) (lines_on k queries now xs ys)
    ∙ sym (append_assoc here (lines_behind k queries now xs) (lines_behind k queries (now ++ xs) ys))
    ∙ ap (λ (journal : List Entry). (here ++ lines_behind k queries now xs) ++ lines_behind k queries journal ys) (append_assoc before (entry ∷ []) xs)

-- The text of some entries and of more after them is one text followed by the other.
pub watch_text_on : (k : ℕ) (queries : List (List Text)) (before xs ys : List Entry)
    → watch_text_behind k queries before (xs ++ ys) ≡ watch_text_behind k queries before xs ++ watch_text_behind k queries (before ++ xs) ys
watch_text_on k queries before xs ys =
    ap (flat_map line_text) (lines_on k queries before xs ys)
    ∙ flat_map-append line_text (lines_behind k queries before xs) (lines_behind k queries (before ++ xs) ys)

pub watch_text_none : (k : ℕ) (queries : List (List Text)) (before : List Entry) → watch_text_behind k queries before [] ≡ []
unfolding lines_behind
watch_text_none k queries before = refl

pub watch_text_one : (k : ℕ) (queries : List (List Text)) (before : List Entry) (entry : Entry)
    → watch_text_behind k queries before (entry ∷ []) ≡ flat_map line_text (lines_at k queries before (before ++ entry ∷ []))
unfolding lines_behind
watch_text_one k queries before entry = ap (flat_map line_text) (append-nil (lines_at k queries before (before ++ entry ∷ [])))
