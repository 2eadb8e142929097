-- The faults of records, one field and one record at a time.
use Rattle.std.proofs.Common.{◌≡◌, ◌<◌, ◌≤◌, ◌+◌, ℕ, zero, suc, List, [], ◌∷◌, ◌++◌, length, drop, get_or, Some, None, true, false, refl, arith}
use Rattle.std.proofs.lemmas.List.{drop_more}
use Rattle.std.specs.Str.{is_utf8}
use Rattle.csv.specs.Records as csv
use Rattle.csv.specs.Records.{AllText}
use Rattle.lake_model.specs.Records.{Record, text_fault, rows_fault, record_fault}
use Rattle.csv_table.specs.Expected.{fault_of, length_fault, number_of}
use Rattle.csv_table.specs.declared.expected.Expected.{Expected}
use Rattle.csv_table.proofs.TableLawLemmas.{text_from}
use Rattle.lake_model.specs.declared.CsvRefused.{CsvRefused}
use Rattle.lake_model.specs.declared.CsvRefused.TheVariants as refused

pub text_here : (row place : ℕ) (fields : List (List ℕ)) (i : ℕ) → i < length fields → is_utf8 (get_or fields i []) ≡ true
    → text_fault row place (drop i fields) ≡ text_fault row (place + 1) (drop (i + 1) fields)
unfolding text_fault
text_here row place fields i lt t = rw (drop_more fields i [] lt, t) refl

pub text_not : (row place : ℕ) (fields : List (List ℕ)) (i : ℕ) → i < length fields → is_utf8 (get_or fields i []) ≡ false
    → text_fault row place (drop i fields) ≡ Some (refused.NotUtf8 row place)
unfolding text_fault
text_not row place fields i lt f = rw (drop_more fields i [] lt, f) refl

pub text_end : (row place : ℕ) → text_fault row place [] ≡ None
unfolding text_fault
text_end row place = refl

pub rows_good : (row want : ℕ) (r : List (List ℕ)) (rs : List (List (List ℕ))) → record_fault row want r ≡ None
    → rows_fault row want (r ∷ rs) ≡ rows_fault (row + 1) want rs
unfolding rows_fault
rows_good row want r rs e = rw e refl

pub rows_bad : (row want : ℕ) (r : List (List ℕ)) (rs : List (List (List ℕ))) (e : CsvRefused) → record_fault row want r ≡ Some e
    → rows_fault row want (r ∷ rs) ≡ Some e
unfolding rows_fault
rows_bad row want r rs e h = rw h refl

pub rows_end : (row want : ℕ) → rows_fault row want [] ≡ None
unfolding rows_fault
rows_end row want = refl

-- a field that a record has at a place stands there
pub field_there : (fields : List (List ℕ)) (i : ℕ) (field : List ℕ) → csv.field_at fields i ≡ Some field → (i < length fields) × (get_or fields i [] ≡ field)
unfolding csv.field_at
field_there [] i field e = cc e
field_there (f ∷ fs) zero field e = (omega arith, cc)
field_there (f ∷ fs) (suc i) field e = let (less, same) = field_there fs i field e in (omega (arith, less), same)

-- and where it has none, the record ends
pub field_past : (fields : List (List ℕ)) (i : ℕ) → csv.field_at fields i ≡ None → length fields ≤ i
unfolding csv.field_at
field_past [] i e = omega arith
field_past (f ∷ fs) zero e = cc e
field_past (f ∷ fs) (suc i) e = let past = field_past fs i e in omega (arith, past)

-- ---- the record that is expected

all_behind : (before fields : Record) → AllText (before ++ fields) → AllText fields
unfolding AllText
all_behind [] fields texts = texts
all_behind (field ∷ before) fields texts = all_behind before fields texts.1

-- fields that follow texts, all of them texts, are no fault if their number is none
pub texts_sound : (next : Expected) (before after fields : Record) (count : ℕ) → after ≡ before ++ fields → AllText after → count ≡ length fields → length_fault next count ≡ None
    → fault_of next fields ≡ None
texts_sound next before after fields count added texts counted sound =
    rw (rw counted at sound) (text_from (number_of next) 1 fields (all_behind before fields (rw added at texts)))

-- fields are refused for their number, whatever they are
pub length_bad : (next : Expected) (fields : Record) (count : ℕ) (e : CsvRefused) → count ≡ length fields → length_fault next count ≡ Some e → fault_of next fields ≡ Some e
length_bad next fields count e counted bad = rw (rw counted at bad) refl
