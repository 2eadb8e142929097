-- The first wide record, found by a pass that counts the fields of each record, and what it says of the records that are left.
use Rattle.std.proofs.Common.{◌≡◌, ◌≤◌, ◌<◌, ◌+◌, ℕ, List, [], ◌∷◌, ◌++◌, length, drop, get_or, Option, Some, None, true, false, refl, ap, sym, arith, ◌∙◌, inl, inr}
use Rattle.std.specs.Prelude.{IfSome, if◌then◌else◌, nat_lt}
use Rattle.std.proofs.lemmas.Bool.{cases_Bool, le-ltb, lt-ltb, ltb-true}
use Rattle.std.proofs.lemmas.Option.{same_Some}
use Rattle.std.proofs.lemmas.List.{drop_all, drop_more, length-append}
use Rattle.csv.specs.Machine.{ends_at_end, is_end, next_record, step}
use Rattle.csv.specs.Reading.{default_config, records}
use Rattle.csv.specs.declared.parser.State.{State}
use Rattle.csv.specs.declared.parser.State.TheVariants as st
use Rattle.csv.specs.declared.parser.Action.{Action}
use Rattle.csv.specs.declared.parser.Action.TheVariants as act
use Rattle.lake_model.specs.Records.{Record}
use Rattle.csv_table.specs.declared.widths.WideRecord.{WideRecord}
use Rattle.csv_table.specs.declared.widths.Effect.{Effect}
use Rattle.csv_table.specs.declared.widths.Effect.TheVariants as effect
use Rattle.csv_table.specs.declared.widths.Place.{Place}
use Rattle.csv_table.specs.Places.{IsStep, effect_of, state_of}
use Rattle.csv_table.specs.WideRecords.{first_wide, wide_with}
use Rattle.csv_table.proofs.ReaderLemmas.{left_next, left_none, left_records, quiet_step, reading}

-- ---- the pass over the bytes

-- what a pass goes on with after an effect
abbrev after : {A : Type 0} → Effect → A → A → A → A
after effect.Nothing same another ended = same
after effect.EndField same another ended = another
after effect.EndRecord same another ended = ended

-- a record that ends with so many fields is the answer if it is wide
abbrev if_wide : ℕ → ℕ → ℕ → Option WideRecord → Option WideRecord
if_wide most number fields later = if nat_lt most fields then Some (wide_with number fields) else later

-- the first wide record, from the record with this number on, from a state and with so many fields, the one at hand included
pub wide_from : ℕ → ℕ → State → ℕ → List ℕ → Option WideRecord
wide_from most number s fields [] = if ends_at_end s then if_wide most number fields None else None
wide_from most number s fields (c ∷ rest) =
    after (effect_of (step default_config s c).1)
    (wide_from most number (step default_config s c).0 fields rest)
    (wide_from most number (step default_config s c).0 (fields + 1) rest)
    (if_wide most number fields (wide_from most (number + 1) (step default_config s c).0 1 rest))

-- a byte that leaves the fields as many as they were
pub wide_same : (most number fields c : ℕ) (s s2 : State) (rest : List ℕ) → s2 ≡ (step default_config s c).0 → effect.Nothing ≡ effect_of (step default_config s c).1
    → wide_from most number s fields (c ∷ rest) ≡ wide_from most number s2 fields rest
unfolding wide_from
wide_same most number fields c s s2 rest moved e = rw (moved, ← e) refl

-- a byte that ends a field
pub wide_field : (most number fields c : ℕ) (s s2 : State) (rest : List ℕ) → s2 ≡ (step default_config s c).0 → effect.EndField ≡ effect_of (step default_config s c).1
    → wide_from most number s fields (c ∷ rest) ≡ wide_from most number s2 (fields + 1) rest
unfolding wide_from
wide_field most number fields c s s2 rest moved e = rw (moved, ← e) refl

-- a byte that ends a record which is not wide
pub wide_next : (most number fields c : ℕ) (s s2 : State) (rest : List ℕ) → s2 ≡ (step default_config s c).0 → effect.EndRecord ≡ effect_of (step default_config s c).1
    → nat_lt most fields ≡ false → wide_from most number s fields (c ∷ rest) ≡ wide_from most (number + 1) s2 1 rest
unfolding wide_from
wide_next most number fields c s s2 rest moved e narrow = rw (moved, ← e, narrow) refl

-- a byte that ends a wide record
pub wide_here : (most number fields c : ℕ) (s : State) (rest : List ℕ) → effect.EndRecord ≡ effect_of (step default_config s c).1 → nat_lt most fields ≡ true
    → wide_from most number s fields (c ∷ rest) ≡ Some (wide_with number fields)
unfolding wide_from
wide_here most number fields c s rest e wide = rw (← e, wide) refl

-- the end of the bytes
pub wide_end : (most number fields : ℕ) (s : State) → ends_at_end s ≡ true → nat_lt most fields ≡ true → wide_from most number s fields [] ≡ Some (wide_with number fields)
unfolding wide_from
wide_end most number fields s e wide = rw (e, wide) refl

pub narrow_end : (most number fields : ℕ) (s : State) → nat_lt most fields ≡ false → wide_from most number s fields [] ≡ None
unfolding wide_from
narrow_end most number fields s narrow =
    elim (cases_Bool (ends_at_end s)) [ inl t ↦ rw (t, narrow) refl | inr f ↦ rw f refl ]

pub none_end : (most number fields : ℕ) (s : State) → ends_at_end s ≡ false → wide_from most number s fields [] ≡ None
unfolding wide_from
none_end most number fields s e = rw e refl

-- ---- the same of the byte at an index, as the pass reads it

module _ (most number fields i : ℕ) (place : Place) (turn : Place × Effect) (text : List ℕ) (here : i < length text) (follows : IsStep turn (step default_config (state_of place) (get_or text i 0))) where
  pub pass_same : turn.1 ≡ effect.Nothing → wide_from most number (state_of place) fields (drop i text) ≡ wide_from most number (state_of turn.0) fields (drop (i + 1) text)
  pass_same is =
      ap (wide_from most number (state_of place) fields) (drop_more text i 0 here)
      ∙ wide_same most number fields (get_or text i 0) (state_of place) (state_of turn.0) (drop (i + 1) text) follows.0 (sym is ∙ follows.1)

  pub pass_field : turn.1 ≡ effect.EndField → wide_from most number (state_of place) fields (drop i text) ≡ wide_from most number (state_of turn.0) (fields + 1) (drop (i + 1) text)
  pass_field is =
      ap (wide_from most number (state_of place) fields) (drop_more text i 0 here)
      ∙ wide_field most number fields (get_or text i 0) (state_of place) (state_of turn.0) (drop (i + 1) text) follows.0 (sym is ∙ follows.1)

  pub pass_next : turn.1 ≡ effect.EndRecord → fields ≤ most → wide_from most number (state_of place) fields (drop i text) ≡ wide_from most (number + 1) (state_of turn.0) 1 (drop (i + 1) text)
  pass_next is narrow =
      ap (wide_from most number (state_of place) fields) (drop_more text i 0 here)
      ∙ wide_next most number fields (get_or text i 0) (state_of place) (state_of turn.0) (drop (i + 1) text) follows.0 (sym is ∙ follows.1) (le-ltb most fields narrow)

  pub pass_wide : turn.1 ≡ effect.EndRecord → most < fields → wide_from most number (state_of place) fields (drop i text) ≡ Some (wide_with number fields)
  pass_wide is wide =
      ap (wide_from most number (state_of place) fields) (drop_more text i 0 here)
      ∙ wide_here most number fields (get_or text i 0) (state_of place) (drop (i + 1) text) (sym is ∙ follows.1) (lt-ltb most fields wide)

module _ (most number fields i : ℕ) (s : State) (text : List ℕ) (past : length text ≤ i) where
  pub pass_ends_wide : ends_at_end s ≡ true → most < fields → wide_from most number s fields (drop i text) ≡ Some (wide_with number fields)
  pass_ends_wide ends wide = ap (wide_from most number s fields) (drop_all i text past) ∙ wide_end most number fields s ends (lt-ltb most fields wide)

  pub pass_ends_narrow : fields ≤ most → wide_from most number s fields (drop i text) ≡ None
  pass_ends_narrow narrow = ap (wide_from most number s fields) (drop_all i text past) ∙ narrow_end most number fields s (le-ltb most fields narrow)

  pub pass_ends_between : ends_at_end s ≡ false → wide_from most number s fields (drop i text) ≡ None
  pass_ends_between ends = ap (wide_from most number s fields) (drop_all i text past) ∙ none_end most number fields s ends

-- ---- the pass finds the first wide record

-- the pass over these bytes finds what the records have, from any state and fields
abbrev Finds : ℕ → List ℕ → Type 0
Finds most rest = (number : ℕ) (s : State) (fields : List (List ℕ)) (field : List ℕ)
    → first_wide most number (reading (next_record default_config s fields field rest)) ≡ wide_from most number s (length fields + 1) rest

wide_first : (most number : ℕ) (fields : List (List ℕ)) (field : List ℕ) (behind : List Record)
    → first_wide most number ((fields ++ field ∷ []) ∷ behind) ≡ if_wide most number (length fields + 1) (first_wide most (number + 1) behind)
unfolding first_wide
wide_first most number fields field behind = rw (length-append fields (field ∷ [])) refl

one_byte : (most number c : ℕ) (s : State) (fields : List (List ℕ)) (field rest : List ℕ) (s2 : State) (a : Action) → step default_config s c ≡ (s2, a)
    → (is_end a ≡ true → ends_at_end s2 ≡ false) → Finds most rest
    → first_wide most number (reading (next_record default_config s fields field (c ∷ rest))) ≡ wide_from most number s (length fields + 1) (c ∷ rest)
unfolding next_record wide_from
one_byte most number c s fields field rest s2 act.Skip e quiet found = rw e (found number s2 fields field)
one_byte most number c s fields field rest s2 act.Copy e quiet found = rw e (found number s2 fields (field ++ c ∷ []))
one_byte most number c s fields field rest s2 act.EndField e quiet found =
    rw e (found number s2 (fields ++ field ∷ []) [] ∙ ap (λ (n : ℕ). wide_from most number s2 (n + 1) rest) (length-append fields (field ∷ [])))
one_byte most number c s fields field rest s2 act.EndRecord e quiet found =
    let later = ap (first_wide most (number + 1)) (left_next s2 rest (quiet refl)) ∙ found (number + 1) s2 [] [] in
    rw e (wide_first most number fields field (left_records default_config s2 rest) ∙ ap (if_wide most number (length fields + 1)) later)

no_byte : (most number : ℕ) (s : State) (fields : List (List ℕ)) (field : List ℕ)
    → first_wide most number (reading (next_record default_config s fields field [])) ≡ wide_from most number s (length fields + 1) []
unfolding next_record wide_from first_wide
no_byte most number s fields field =
    elim (cases_Bool (ends_at_end s)) [
      | inl t ↦
          let none = left_none default_config st.StartRecord [] refl in
          rw t (wide_first most number fields field (left_records default_config st.StartRecord []) ∙ ap (λ (behind : List Record). if_wide most number (length fields + 1) (first_wide most (number + 1) behind)) none)
      | inr f ↦ rw f refl
    ]

finds : (most : ℕ) (xs : List ℕ) (number : ℕ) (s : State) (fields : List (List ℕ)) (field : List ℕ)
    → first_wide most number (reading (next_record default_config s fields field xs)) ≡ wide_from most number s (length fields + 1) xs
finds most [] number s fields field = no_byte most number s fields field
finds most (c ∷ rest) number s fields field =
    one_byte most number c s fields field rest (step default_config s c).0 (step default_config s c).1 refl (quiet_step default_config s c) (finds most rest)

pub pass_finds : (most : ℕ) (text : List ℕ) → first_wide most 1 (records default_config text) ≡ wide_from most 1 st.StartRecord 1 text
pass_finds most text = ap (first_wide most 1) (left_next st.StartRecord text refl) ∙ finds most text 1 st.StartRecord [] []

-- ---- the first wide record is the one that is read next

-- a record with so many fields, more than `most`, comes next
pub record WideNext (most fields : ℕ) (left : List Record) : Type 0 where
  pub first : Record
  pub behind : List Record
  pub is : left ≡ first ∷ behind
  pub size : length first ≡ fields
  pub wide : most < fields

numbered_from : (most number : ℕ) (rows : List Record) (w : WideRecord) → first_wide most number rows ≡ Some w → number ≤ w.number
unfolding first_wide
numbered_from most number [] w e = cc e
numbered_from most number (r ∷ rows) w e =
    elim (cases_Bool (nat_lt most (length r))) [
      | inl t ↦
          let same = same_Some (wide_with number (length r)) w (rw t at e) in
          let here : number ≡ w.number = ap (λ (v : WideRecord). v.number) same in
          omega arith
      | inr f ↦ let later : number + 1 ≤ w.number = numbered_from most (number + 1) rows w (rw f at e) in omega arith
    ]

wide_now : (most number fields : ℕ) (left : List Record) → first_wide most number left ≡ Some (wide_with number fields) → WideNext most fields left
unfolding first_wide
wide_now most number fields [] e = cc e
wide_now most number fields (r ∷ rows) e =
    elim (cases_Bool (nat_lt most (length r))) [
      | inl t ↦
          let same = same_Some (wide_with number (length r)) (wide_with number fields) (rw t at e) in
          let size : length r ≡ fields = ap (λ (v : WideRecord). v.fields) same in
          record { first = r; behind = rows; is = refl; size = size; wide = omega (arith, ltb-true most (length r) t, size) }
      | inr f ↦ let later : number + 1 ≤ number = numbered_from most (number + 1) rows (wide_with number fields) (rw f at e) in absurd (omega arith)
    ]

-- the wide record comes next once those before it were read
pub wide_left : (most number row fields : ℕ) (before left : List Record) → row ≡ number + length before → first_wide most number (before ++ left) ≡ Some (wide_with row fields)
    → WideNext most fields left
unfolding first_wide
wide_left most number row fields [] left numbered e =
    let here : row ≡ number = omega arith in wide_now most number fields left (rw here at e)
wide_left most number row fields (r ∷ before) left numbered e =
    elim (cases_Bool (nat_lt most (length r))) [
      | inl t ↦
          let same = same_Some (wide_with number (length r)) (wide_with row fields) (rw t at e) in
          let here : number ≡ row = ap (λ (v : WideRecord). v.number) same in
          absurd (omega arith)
      | inr f ↦ wide_left most (number + 1) row fields before left (omega arith) (rw f at e)
    ]

-- what was found, of a call that may find none
pub found_is : (most : ℕ) (rows : List Record) (o : Option WideRecord) (w : WideRecord) → IfSome o (λ v. first_wide most 1 rows ≡ Some v) → o ≡ Some w
    → first_wide most 1 rows ≡ Some w
found_is most rows o w found e = rw e at found

-- what a call may find is what was to be found
pub found_by : (o found : Option WideRecord) → found ≡ o → IfSome found (λ w. o ≡ Some w)
found_by o None e = tt
found_by o (Some w) e = sym e

-- a wide record by its number
pub numbered_is : (o : Option WideRecord) (w : WideRecord) (number : ℕ) → o ≡ Some w → w.number ≡ number → o ≡ Some (wide_with number w.fields)
numbered_is o w number is e = is ∙ ap (λ (n : ℕ). Some (wide_with n w.fields)) e
