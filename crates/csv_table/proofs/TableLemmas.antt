-- What the turns of `read_table` keep.
use Rattle.std.proofs.Common.{◌≡◌, ◌+◌, ◌*◌, ℕ, List, [], ◌∷◌, ◌++◌, length, Option, Some, None, ◌≤◌, ◌==◌, false, true, inl, inr, refl, sym, ap, ◌∙◌, arith, add-one}
use Rattle.std.specs.Prelude.{IfSome, nat_lt}
use Rattle.std.specs.Option.{is_some}
use Rattle.std.proofs.lemmas.Bool.{cases_Bool, eqb-true, lt-ltb, ltb-false, ne_eqb}
use Rattle.std.proofs.lemmas.List.{append-nil, append_assoc, length-append, take_all}
use Rattle.std.proofs.Math.Nat.{suc-mul}
use Rattle.csv_table.specs.SplitRecords.{split_records}
use Rattle.lake_model.specs.Records.{Record, csv_fault, header_fault, record_fault, records_of, rows_fault}
use Rattle.lake_model.specs.declared.CsvRefused.{CsvRefused}
use Rattle.lake_model.specs.declared.CsvRefused.TheVariants as refused
use Rattle.csv_table.specs.Expected.{fault_of, IsAdded, IsRefused}
use Rattle.csv_table.specs.declared.expected.Expected.TheVariants as expected
use Rattle.csv_table.specs.WideRecords.{first_wide, wide_with}
use Rattle.csv_table.specs.declared.widths.WideRecord.{WideRecord}
use Rattle.csv_table.proofs.SplitLemmas.{length-split_records, split_records-more}
use Rattle.csv_table.proofs.WideLemmas.{found_is, wide_left}
use Rattle.csv_table.proofs.FaultLemmas.{rows_bad, rows_end, rows_good}

-- so many records of so many columns were read and are no fault, and these are left
pub record IsLeft (most : ℕ) (bytes : List ℕ) (records columns : ℕ) (flat : List (List ℕ)) (left : List Record) : Type 0 where
  pub stored : length flat ≡ records * columns
  pub read : records_of bytes ≡ split_records records columns flat ++ left
  pub fault : csv_fault most bytes ≡ rows_fault (records + 1) columns left

header_bad : (most : ℕ) (bytes : List ℕ) (f : Record) (rest : List Record) (e : CsvRefused) → records_of bytes ≡ f ∷ rest → header_fault most f ≡ Some e
    → csv_fault most bytes ≡ Some e
header_bad most bytes f rest e is h = rw (is, h) refl

header_good : (most : ℕ) (bytes : List ℕ) (f flat : Record) (rest : List Record) (columns : ℕ) → records_of bytes ≡ f ∷ rest → header_fault most f ≡ None
    → flat ≡ f → columns ≡ length f → IsLeft most bytes 1 columns flat rest
unfolding split_records
header_good most bytes f flat rest columns is h same n =
    record {
      stored = omega (arith, ap length same);
      read = is ∙ ap (λ (t : Record). t ∷ rest) (sym (take_all columns flat (omega (arith, ap length same)) ∙ same));
      fault = rw (is, h, n) refl;
    }

record_bad : (most : ℕ) (bytes : List ℕ) (records columns : ℕ) (flat f : Record) (left rest : List Record) (e : CsvRefused) → IsLeft most bytes records columns flat left
    → left ≡ f ∷ rest → record_fault (records + 1) columns f ≡ Some e → csv_fault most bytes ≡ Some e
record_bad most bytes records columns flat f left rest e h is bad = h.fault ∙ ap (rows_fault (records + 1) columns) is ∙ rows_bad (records + 1) columns f rest e bad

record_good : (most : ℕ) (bytes : List ℕ) (records columns : ℕ) (flat flat2 f : Record) (left rest : List Record) → IsLeft most bytes records columns flat left
    → left ≡ f ∷ rest → length f ≡ columns → record_fault (records + 1) columns f ≡ None → flat2 ≡ flat ++ f
    → IsLeft most bytes (records + 1) columns flat2 rest
record_good most bytes records columns flat flat2 f left rest h is n good same =
    let more = split_records-more records columns flat f h.stored n in
    let size = ap length same ∙ length-append flat f in
    let whole = suc-mul records columns in
    record {
      stored = rw (add-one records) (omega (arith, h.stored));
      read = h.read ∙ ap (λ (t : List Record). split_records records columns flat ++ t) is ∙ sym (append_assoc (split_records records columns flat) (f ∷ []) rest)
          ∙ ap (λ (t : List Record). t ++ rest) (sym more ∙ ap (λ (t : ℕ). split_records t columns (flat ++ f)) (sym (add-one records)) ∙ ap (split_records (records + 1) columns) (sym same));
      fault = h.fault ∙ ap (rows_fault (records + 1) columns) is ∙ rows_good (records + 1) columns f rest good;
    }

pub all_read : (most : ℕ) (bytes : List ℕ) (records columns : ℕ) (flat kept : Record) (left : List Record) → IsLeft most bytes records columns flat left → left ≡ [] → kept ≡ flat
    → (split_records records columns kept ≡ records_of bytes) × (csv_fault most bytes ≡ None)
all_read most bytes records columns flat kept left h none same = (
  ap (split_records records columns) same ∙ sym (h.read ∙ ap (λ (t : List Record). split_records records columns flat ++ t) none ∙ append-nil (split_records records columns flat)),
  h.fault ∙ ap (rows_fault (records + 1) columns) none ∙ rows_end (records + 1) columns,
)

-- ---- the record that is expected

-- its fault is the header's, or that of a later record
header_fault_is : (most : ℕ) (fields : Record) → fault_of (expected.Header most) fields ≡ header_fault most fields
header_fault_is most fields = elim (cases_Bool (nat_lt most (length fields))) [ inl t ↦ rw t refl | inr f ↦ rw f refl ]

record_fault_is : (number columns : ℕ) (fields : Record) → fault_of (expected.Record number columns) fields ≡ record_fault number columns fields
record_fault_is number columns fields = elim (cases_Bool (length fields == columns)) [ inl t ↦ rw t refl | inr f ↦ rw f refl ]

record_size : (number columns : ℕ) (fields : Record) → fault_of (expected.Record number columns) fields ≡ None → length fields ≡ columns
record_size number columns fields sound =
    elim (cases_Bool (length fields == columns)) [ inl t ↦ eqb-true (length fields) columns t | inr f ↦ cc (rw f at sound) ]

header_size : (most : ℕ) (fields : Record) → fault_of (expected.Header most) fields ≡ None → length fields ≤ most
header_size most fields sound =
    elim (cases_Bool (nat_lt most (length fields))) [ inl t ↦ cc (rw t at sound) | inr f ↦ ltb-false most (length fields) f ]

-- a header that was added is no wider than it may be, and the records behind it are left
pub header_added : (most : ℕ) (bytes : List ℕ) (left rest : List Record) (empty flat : Record) (columns : ℕ) → records_of bytes ≡ left → empty ≡ []
    → IsAdded (expected.Header most) left rest empty flat columns
    → (columns ≤ most) × IsLeft most bytes 1 columns flat rest
header_added most bytes left rest empty flat columns is none added = (
  omega (arith, header_size most added.fields added.sound, added.counted),
  header_good most bytes added.fields flat rest columns (is ∙ added.taken) (sym (header_fault_is most added.fields) ∙ added.sound)
      (added.added ∙ ap (λ (t : Record). t ++ added.fields) none) added.counted,
)

pub header_refused : (most : ℕ) (bytes : List ℕ) (left : List Record) (e : CsvRefused) → records_of bytes ≡ left → IsRefused (expected.Header most) left e
    → csv_fault most bytes ≡ Some e
header_refused most bytes left e is refused =
    header_bad most bytes refused.fields refused.rest e (is ∙ refused.first) (sym (header_fault_is most refused.fields) ∙ refused.bad)

-- a later record that was added is one more, and the records behind it are left
pub record_added : (most : ℕ) (bytes : List ℕ) (records columns : ℕ) (flat flat2 : Record) (left rest : List Record) (next : Option ℕ) → IsLeft most bytes records columns flat left
    → is_some next ≡ true → IfSome next (IsAdded (expected.Record (records + 1) columns) left rest flat flat2) → IsLeft most bytes (records + 1) columns flat2 rest
record_added most bytes records columns flat flat2 left rest None h is added = cc is
record_added most bytes records columns flat flat2 left rest (Some count) h is added =
    record_good most bytes records columns flat flat2 added.fields left rest h added.taken (record_size (records + 1) columns added.fields added.sound)
    (sym (record_fault_is (records + 1) columns added.fields) ∙ added.sound) added.added

-- what holds if there is a record, and what there is if there is none
pub open_next : (next : Option ℕ) (P : Type 0) → is_some next ≡ true → IfSome next (λ _. P) → P
open_next None P is p = cc is
open_next (Some count) P is p = p

pub none_next : (next : Option ℕ) → is_some next ≡ false → next ≡ None
none_next None is = refl
none_next (Some count) is = cc is

pub record_refused : (most : ℕ) (bytes : List ℕ) (records columns : ℕ) (flat : Record) (left : List Record) (e : CsvRefused) → IsLeft most bytes records columns flat left
    → IsRefused (expected.Record (records + 1) columns) left e → csv_fault most bytes ≡ Some e
record_refused most bytes records columns flat left e h refused =
    record_bad most bytes records columns flat refused.fields left refused.rest e h refused.first (sym (record_fault_is (records + 1) columns refused.fields) ∙ refused.bad)

-- ---- a wide record

-- a wide header is refused with the number of its fields
pub wide_header : (most fields : ℕ) (bytes : List ℕ) (o : Option WideRecord) → IfSome o (λ w. first_wide most 1 (records_of bytes) ≡ Some w) → o ≡ Some (wide_with 1 fields)
    → csv_fault most bytes ≡ Some (refused.TooManyColumns fields)
wide_header most fields bytes o found is =
    let next = wide_left most 1 1 fields [] (records_of bytes) refl (found_is most (records_of bytes) o (wide_with 1 fields) found is) in
    let bad : header_fault most next.first ≡ Some (refused.TooManyColumns fields) = rw next.size (rw (lt-ltb most fields next.wide) refl) in
    header_bad most bytes next.first next.behind (refused.TooManyColumns fields) next.is bad

-- a wide record behind the header is longer than the header
pub wide_record_bad : (most records columns fields : ℕ) (bytes : List ℕ) (flat : Record) (left : List Record) (o : Option WideRecord)
    → IfSome o (λ w. first_wide most 1 (records_of bytes) ≡ Some w) → o ≡ Some (wide_with (records + 1) fields) → columns ≤ most → IsLeft most bytes records columns flat left
    → csv_fault most bytes ≡ Some (refused.Unequal (records + 1) columns fields)
wide_record_bad most records columns fields bytes flat left o found is narrow h =
    let first = found_is most (records_of bytes) o (wide_with (records + 1) fields) found is in
    let next = wide_left most 1 (records + 1) fields (split_records records columns flat) left (omega (arith, length-split_records records columns flat)) (rw h.read at first) in
    let other : (fields == columns) ≡ false = ne_eqb fields columns (λ e. absurd (omega (arith, e, next.wide))) in
    let bad : record_fault (records + 1) columns next.first ≡ Some (refused.Unequal (records + 1) columns fields) = rw next.size (rw other refl) in
    record_bad most bytes records columns flat next.first left next.behind (refused.Unequal (records + 1) columns fields) h next.is bad
