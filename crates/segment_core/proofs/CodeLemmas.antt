-- Lists of tables with the same numbers are the same list.
use Rattle.std.proofs.Common.{◌≡◌, refl, ap, sym, ◌∙◌, ℕ, List, [], ◌∷◌, ◌++◌, length, take, drop, arith}
use Rattle.std.specs.Prelude.{flat_map}
use Rattle.std.proofs.Math.Seq.{take-append_seam, drop-append_seam}
use Rattle.std.proofs.lemmas.List.{append_assoc, append-nil}
use Rattle.lake_model.specs.Texts.{Text}
use Rattle.lake_model.specs.Tables.{Column, Table, column_with, table_with}
use Rattle.segment_core.specs.Codes.{code_column, code_list, code_table, code_tables, code_text}

-- the numbers tell where the value ends, and which it is
abbrev IsCode : {X : Type 0} → (X → List ℕ) → Type 0
IsCode {X} code = (a b : X) (r s : List ℕ) → code a ++ r ≡ code b ++ s → (a ≡ b) × (r ≡ s)

abbrev head_of : List ℕ → ℕ
head_of [] = 0
head_of (n ∷ ns) = n

abbrev tail_of : List ℕ → List ℕ
tail_of [] = []
tail_of (n ∷ ns) = ns

text_is : IsCode code_text
text_is a b r s e =
    let n : length a ≡ length b = ap head_of e in
    let both : a ++ r ≡ b ++ s = ap tail_of e in
    let first : take (length a) (a ++ r) ≡ take (length b) (b ++ s) = ap (take (length a)) both ∙ ap (λ (m : ℕ). take m (b ++ s)) n in
    let rest : drop (length a) (a ++ r) ≡ drop (length b) (b ++ s) = ap (drop (length a)) both ∙ ap (λ (m : ℕ). drop m (b ++ s)) n in
    (sym (take-append_seam a r) ∙ first ∙ take-append_seam b s, sym (drop-append_seam a r) ∙ rest ∙ drop-append_seam b s)

-- as many elements with the same numbers
elements_are : {X : Type 0} (code : X → List ℕ) → IsCode code → (us vs : List X) (r s : List ℕ) → length us ≡ length vs → flat_map code us ++ r ≡ flat_map code vs ++ s → (us ≡ vs) × (r ≡ s)
elements_are code is [] [] r s n e = (refl, e)
elements_are code is [] (b ∷ vs) r s n e = absurd (omega (arith, n))
elements_are code is (a ∷ us) [] r s n e = absurd (omega (arith, n))
elements_are code is (a ∷ us) (b ∷ vs) r s n e =
    let both : code a ++ (flat_map code us ++ r) ≡ code b ++ (flat_map code vs ++ s) = sym (append_assoc (code a) (flat_map code us) r) ∙ e ∙ append_assoc (code b) (flat_map code vs) s in
    let first = is a b (flat_map code us ++ r) (flat_map code vs ++ s) both in
    let rest = elements_are code is us vs r s (omega (arith, n)) first.1 in
    (ap (λ x. x ∷ us) first.0 ∙ ap (λ xs. b ∷ xs) rest.0, rest.1)

list_is : {X : Type 0} (code : X → List ℕ) → IsCode code → IsCode (code_list code)
list_is code is us vs r s e = elements_are code is us vs r s (ap head_of e) (ap tail_of e)

column_is : IsCode code_column
column_is a b r s e =
    let keys : Column → List ℕ = λ c. code_list code_text c.keys in
    let both : code_text a.name ++ (keys a ++ r) ≡ code_text b.name ++ (keys b ++ s) = sym (append_assoc (code_text a.name) (keys a) r) ∙ e ∙ append_assoc (code_text b.name) (keys b) s in
    let name = text_is a.name b.name (keys a ++ r) (keys b ++ s) both in
    let rest = list_is code_text text_is a.keys b.keys r s name.1 in
    (ap (λ (n : Text). column_with n a.keys) name.0 ∙ ap (λ (k : List Text). column_with b.name k) rest.0, rest.1)

table_is : IsCode code_table
table_is a b r s e =
    let columns : Table → List ℕ = λ t. code_list code_column t.columns in
    let both : code_text a.name ++ (columns a ++ r) ≡ code_text b.name ++ (columns b ++ s) = sym (append_assoc (code_text a.name) (columns a) r) ∙ e ∙ append_assoc (code_text b.name) (columns b) s in
    let name = text_is a.name b.name (columns a ++ r) (columns b ++ s) both in
    let rest = list_is code_column column_is a.columns b.columns r s name.1 in
    (ap (λ (n : Text). table_with n a.columns) name.0 ∙ ap (λ (c : List Column). table_with b.name c) rest.0, rest.1)

pub same_tables : (us vs : List Table) → code_tables us ≡ code_tables vs → us ≡ vs
unfolding code_tables
same_tables us vs e = (list_is code_table table_is us vs [] [] (append-nil (code_tables us) ∙ e ∙ sym (append-nil (code_tables vs)))).0
