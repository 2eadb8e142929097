-- What the crate `csv` reads from a text without quotation marks, one line at a time.
use Rattle.std.proofs.Common.{◌≡◌, ◌≢◌, ◌≤◌, ◌<◌, ◌+◌, ◌-◌, ℕ, List, [], ◌∷◌, ◌++◌, length, drop, get_or, Bor, Option, None, Some, Result, Ok, Err, Bool, true, false, refl, ap, sym, arith, ◌∙◌, inl, inr}
use Rattle.std.specs.Prelude.{◌==◌, IfSome, MatchResult}
use Rattle.std.specs.Option.{is_some}
use Rattle.std.specs.Result.{result_ok}
use Rattle.std.specs.Str.{IsUtf8}
use Rattle.std.specs.List.{list_any, slice_range}
use Rattle.std.proofs.lemmas.Bool.{cases_Bool, eqb-true, false_from_ne_true, false≢true, or_parts}
use Rattle.std.proofs.lemmas.List.{append-nil, append_assoc, drop_all, drop_more, get_or-drop, length-drop, take_all, take_more}
use Rattle.std.proofs.lemmas.List.Folds.{list_any_none}
use Rattle.std.proofs.lemmas.Grind.{get_or_default_zero}
use Rattle.memchr.specs.Find.{IsFirstByte}
use Rattle.csv.specs.Machine.{after_end, ends_at_end, in_field, next_record, step}
use Rattle.csv.specs.Reading.{default_config}
use Rattle.csv.specs.declared.parser.State.{State}
use Rattle.csv.specs.declared.parser.State.TheVariants as st
use Rattle.csv.specs.declared.parser.Terminator.TheVariants as term
use Rattle.lake_model.specs.Texts.{Text}
use Rattle.lake_model.specs.Records.{Record}
use Rattle.csv_table.specs.Lines.{behind_breaks, first_line, is_break, lines_of, HasNoQuotes}
use Rattle.csv_table.proofs.ReaderLemmas.{left_next, left_none, left_records, reading}

-- ---- a text without quotation marks

-- a search that finds no quotation mark
pub none_found : (text : Text) (r : Option ℕ) → is_some r ≡ false → IsFirstByte (λ c. c == 34) text r → HasNoQuotes text
none_found text None is found =
    list_any_none (λ (c : ℕ). c == 34) text (λ k d here. rw (get_or_default_zero text k d here) (false_from_ne_true _ (λ e. found k (omega arith) here e)))
none_found text (Some at) is found = cc is

-- and the text that the bytes then are
pub plain_ok : {E : Type 0} (P : E → Type 0) (r : Result (Bor Text) E) (bytes : Text) → HasNoQuotes bytes → MatchResult r (λ text. (text.now ≡ bytes) × IsUtf8 bytes) P
    → IfSome (result_ok r) (λ text. HasNoQuotes text.now)
plain_ok P (Ok text) bytes plain is = rw is.0 plain
plain_ok P (Err e) bytes plain is = tt

-- ---- the loops

pub breaks_more : (text : Text) (i : ℕ) → i < length text → is_break (get_or text i 0) ≡ true → behind_breaks (drop i text) ≡ behind_breaks (drop (i + 1) text)
unfolding behind_breaks
breaks_more text i here is = rw (drop_more text i 0 here, is) refl

pub breaks_end : (text : Text) (i : ℕ) → i < length text → is_break (get_or text i 0) ≡ false → behind_breaks (drop i text) ≡ drop i text
unfolding behind_breaks
breaks_end text i here is = rw (drop_more text i 0 here, is) refl

pub breaks_all : (text : Text) (i : ℕ) → length text ≤ i → behind_breaks (drop i text) ≡ drop i text
unfolding behind_breaks
breaks_all text i past = rw (drop_all i text past) refl

-- one byte more of the bytes between two places
range_more : (text : Text) (from i : ℕ) → from ≤ i → i < length text → slice_range text from (i + 1) ≡ slice_range text from i ++ get_or text i 0 ∷ []
range_more text from i begun here =
    let long : length (drop from text) ≡ length text - from = length-drop from text in
    let one : i + 1 - from ≡ i - from + 1 = omega arith in
    let at : from + (i - from) ≡ i = omega arith in
    rw (one, take_more (drop from text) (i - from) 0 (omega (arith, long)), get_or-drop from text (i - from) 0, at) refl

pub range_none : (text : Text) (i : ℕ) → slice_range text i i ≡ []
range_none text i = let none : i - i ≡ 0 = omega arith in rw none refl

module _ (fields : Record) (text : Text) (from i : ℕ) where
  pub line_break : i < length text → is_break (get_or text i 0) ≡ true
      → first_line fields (slice_range text from i) (drop i text) ≡ (fields ++ slice_range text from i ∷ [], drop i text)
  unfolding first_line
  line_break here is = rw (drop_more text i 0 here, is) refl

  pub line_comma : i < length text → is_break (get_or text i 0) ≡ false → (get_or text i 0 == 44) ≡ true
      → first_line fields (slice_range text from i) (drop i text) ≡ first_line (fields ++ slice_range text from i ∷ []) [] (drop (i + 1) text)
  unfolding first_line
  line_comma here within comma = rw (drop_more text i 0 here, within, comma) refl

  pub line_more : from ≤ i → i < length text → is_break (get_or text i 0) ≡ false → (get_or text i 0 == 44) ≡ false
      → first_line fields (slice_range text from i) (drop i text) ≡ first_line fields (slice_range text from (i + 1)) (drop (i + 1) text)
  unfolding first_line
  line_more begun here within comma = rw (range_more text from i begun here, drop_more text i 0 here, within, comma) refl

-- the last field of a text that ends without a break
pub line_end : (fields : Record) (text : Text) (from : ℕ) → first_line fields (slice_range text from (length text)) (drop (length text) text) ≡ (fields ++ drop from text ∷ [], [])
unfolding first_line
line_end fields text from =
    let whole : slice_range text from (length text) ≡ drop from text = take_all (length text - from) (drop from text) (omega (arith, length-drop from text)) in
    rw (drop_all (length text) text (omega arith), whole) refl

-- a byte that ends a line is a character
pub break_ascii : (c : ℕ) → is_break c ≡ true → c < 128
break_ascii c is =
    elim (cases_Bool (c == 13)) [
      | inl t ↦ omega (arith, eqb-true c 13 t)
      | inr f ↦ omega (arith, eqb-true c 10 (rw f at is))
    ]

-- ---- what the crate's machine does with the bytes of a line

-- the state of the machine in a field, or before its first byte
abbrev within : Bool → State
within true = st.InField
within false = st.StartField

-- a byte that is no quotation mark
within_field : (b : Bool) (c : ℕ) → (c == 34) ≡ false → step default_config (within b) c ≡ in_field default_config c
within_field true c quote = refl
within_field false c quote = rw quote refl

-- after a carriage return the machine does what it does before a record
after_cr : (c : ℕ) → step default_config st.AfterCr c ≡ step default_config st.StartRecord c
after_cr c =
    elim (cases_Bool (c == 10)) [
      | inl t ↦ elim (cases_Bool (c == 13)) [ inl u ↦ rw (t, u) refl | inr u ↦ rw (t, u) refl ]
      | inr f ↦ rw f refl
    ]

-- what the machine reads depends on the first step alone
next_by : (s t : State) (text : Text) → ends_at_end s ≡ false → ends_at_end t ≡ false → ((c : ℕ) → step default_config s c ≡ step default_config t c)
    → next_record default_config s [] [] text ≡ next_record default_config t [] [] text
unfolding next_record
next_by s t [] a b same = rw (a, b) refl
next_by s t (c ∷ rest) a b same = rw (same c) refl

lines_after_cr : (text : Text) → left_records default_config st.AfterCr text ≡ lines_of text
lines_after_cr text = left_next st.AfterCr text refl ∙ ap reading (next_by st.AfterCr st.StartRecord text refl refl after_cr) ∙ sym (left_next st.StartRecord text refl)

-- a byte that ends an empty line is skipped
next_break : (c : ℕ) (rest : Text) → is_break c ≡ true → next_record default_config st.StartRecord [] [] (c ∷ rest) ≡ next_record default_config st.StartRecord [] [] rest
unfolding next_record
next_break c rest is = rw is refl

lines_break : (c : ℕ) (rest : Text) → is_break c ≡ true → lines_of (c ∷ rest) ≡ lines_of rest
lines_break c rest is = left_next st.StartRecord (c ∷ rest) refl ∙ ap reading (next_break c rest is) ∙ sym (left_next st.StartRecord rest refl)

-- the machine is between two records once a line has ended
lines_behind : (c : ℕ) (rest : Text) → is_break c ≡ true → left_records default_config (after_end term.CRLF c) rest ≡ lines_of (c ∷ rest)
lines_behind c rest is =
    elim (cases_Bool (c == 13)) [
      | inl t ↦ rw t (lines_after_cr rest ∙ sym (lines_break c rest is))
      | inr f ↦ rw f (sym (lines_break c rest is))
    ]

-- a text without quotation marks, one byte on
none_behind : (c : ℕ) (rest : Text) → HasNoQuotes (c ∷ rest) → ((c == 34) ≡ false) × HasNoQuotes rest
none_behind c rest none = or_parts (c == 34) (list_any (λ (d : ℕ). d == 34) rest) none

-- a comma ends no line
no_comma : (c : ℕ) → is_break c ≡ true → (c == 44) ≡ true → ⊥
no_comma c is comma = let e = eqb-true c 44 comma in cc (rw e at is)

-- what the machine reads from within a line is the rest of the line
Reads : Text → Type 0
Reads text = (b : Bool) (fields : Record) (field : Text) → HasNoQuotes text
    → reading (next_record default_config (within b) fields field text) ≡ (first_line fields field text).0 ∷ lines_of (first_line fields field text).1

reads_end : Reads []
unfolding Reads next_record first_line
reads_end true fields field none = refl
reads_end false fields field none = refl

reads_byte : (c : ℕ) (rest : Text) → Reads rest → Reads (c ∷ rest)
unfolding Reads next_record first_line
reads_byte c rest later b fields field none =
    let (quote, others) = none_behind c rest none in
    let stepped = within_field b c quote in
    elim (cases_Bool (is_break c)) [
      | inl t ↦ elim (cases_Bool (c == 44)) [
        | inl u ↦ absurd (no_comma c t u)
        | inr u ↦ rw (stepped, u, t) (ap (λ (behind : List Record). (fields ++ field ∷ []) ∷ behind) (lines_behind c rest t))
      ]
      | inr f ↦ elim (cases_Bool (c == 44)) [
        | inl u ↦ rw (stepped, u, f) (later false (fields ++ field ∷ []) [] others)
        | inr u ↦ rw (stepped, u, f) (later true fields (field ++ c ∷ []) others)
      ]
    ]

reads : (text : Text) → Reads text
reads [] = reads_end
reads (c ∷ rest) = reads_byte c rest (reads rest)

-- a record begins as a field does
next_begun : (c : ℕ) (rest : Text) → is_break c ≡ false → next_record default_config st.StartRecord [] [] (c ∷ rest) ≡ next_record default_config st.StartField [] [] (c ∷ rest)
unfolding next_record
next_begun c rest not = rw not refl

-- ---- the first record of a text

lines_skip : (text : Text) → lines_of text ≡ lines_of (behind_breaks text)
unfolding behind_breaks
lines_skip [] = refl
lines_skip (c ∷ rest) =
    elim (cases_Bool (is_break c)) [
      | inl t ↦ rw t (lines_break c rest t ∙ lines_skip rest)
      | inr f ↦ rw f refl
    ]

none_skip : (text : Text) → HasNoQuotes text → HasNoQuotes (behind_breaks text)
unfolding behind_breaks
none_skip [] none = refl
none_skip (c ∷ rest) none =
    elim (cases_Bool (is_break c)) [
      | inl t ↦ rw t (none_skip rest (none_behind c rest none).1)
      | inr f ↦ rw f none
    ]

none_left : (text : Text) (fields : Record) (field : Text) → HasNoQuotes text → HasNoQuotes (first_line fields field text).1
unfolding first_line
none_left [] fields field none = refl
none_left (c ∷ rest) fields field none =
    let others = (none_behind c rest none).1 in
    elim (cases_Bool (is_break c)) [
      | inl t ↦ rw t none
      | inr f ↦ elim (cases_Bool (c == 44)) [
        | inl u ↦ rw (f, u) (none_left rest (fields ++ field ∷ []) [] others)
        | inr u ↦ rw (f, u) (none_left rest fields (field ++ c ∷ []) others)
      ]
    ]

behind_first : (text : Text) (c : ℕ) (rest : Text) → behind_breaks text ≡ c ∷ rest → is_break c ≡ false
unfolding behind_breaks
behind_first [] c rest is = cc is
behind_first (d ∷ others) c rest is =
    elim (cases_Bool (is_break d)) [
      | inl t ↦ behind_first others c rest (rw t at is)
      | inr f ↦ let same : d ≡ c = cc (rw f at is) in rw same at f
    ]

lines_first : (line : Text) → line ≢ [] → ((c : ℕ) (rest : Text) → line ≡ c ∷ rest → is_break c ≡ false) → HasNoQuotes line
    → lines_of line ≡ (first_line [] [] line).0 ∷ lines_of (first_line [] [] line).1
unfolding Reads
lines_first [] some first none = absurd (some refl)
lines_first (c ∷ rest) some first none =
    left_next st.StartRecord (c ∷ rest) refl ∙ ap reading (next_begun c rest (first c rest refl)) ∙ reads (c ∷ rest) false [] [] none

-- fields before those of the line stay before them
first_behind : (before fields : Record) (field text : Text)
    → first_line (before ++ fields) field text ≡ (before ++ (first_line fields field text).0, (first_line fields field text).1)
unfolding first_line
first_behind before fields field [] = rw (append_assoc before fields (field ∷ [])) refl
first_behind before fields field (c ∷ rest) =
    elim (cases_Bool (is_break c)) [
      | inl t ↦ rw (t, append_assoc before fields (field ∷ [])) refl
      | inr f ↦ elim (cases_Bool (c == 44)) [
        | inl u ↦ rw (f, u, append_assoc before fields (field ∷ [])) (first_behind before (fields ++ field ∷ []) [] rest)
        | inr u ↦ rw (f, u) (first_behind before fields (field ++ c ∷ []) rest)
      ]
    ]

-- the first line that is not empty was added to the fields of a store, and this is left of the text
pub record IsSplit (text rest : Text) (before after : Record) : Type 0 where
  pub fields : Record
  pub quiet : HasNoQuotes rest
  pub taken : lines_of text ≡ fields ∷ lines_of rest
  pub added : after ≡ before ++ fields

line_split : (text rest : Text) (before after : Record) → HasNoQuotes text → behind_breaks text ≢ [] → first_line before [] (behind_breaks text) ≡ (after, rest)
    → IsSplit text rest before after
line_split text rest before after none some is =
    let line = behind_breaks text in
    let quiet = none_skip text none in
    let behind : first_line before [] line ≡ (before ++ (first_line [] [] line).0, (first_line [] [] line).1) =
    ap (λ (fields : Record). first_line fields [] line) (sym (append-nil before)) ∙ first_behind before [] [] line in
    let both : (after, rest) ≡ (before ++ (first_line [] [] line).0, (first_line [] [] line).1) = sym is ∙ behind in
    let left : rest ≡ (first_line [] [] line).1 = ap (λ (p : Record × Text). p.1) both in
    record {
      fields = (first_line [] [] line).0;
      quiet = rw left (none_left line [] [] quiet);
      taken = rw left (lines_skip text ∙ lines_first line some (behind_first text) quiet);
      added = ap (λ (p : Record × Text). p.0) both;
    }

-- the first line that is not empty is the first record, and what follows it has the others
pub line_added : (text line rest : Text) (before after : Record) → HasNoQuotes text → line ≡ behind_breaks text → (length line == 0) ≡ false
    → first_line before [] line ≡ (after, rest) → IsSplit text rest before after
line_added text line rest before after none same some is =
    let begun : behind_breaks text ≢ [] = λ empty. false≢true (sym some ∙ rw (same, empty) refl) in
    line_split text rest before after none begun (rw same at is)

none_there : next_record default_config st.StartRecord [] [] [] ≡ None
unfolding next_record
none_there = refl

-- if all lines are empty, there is no record
pub no_line : (text : Text) → behind_breaks text ≡ [] → lines_of text ≡ []
no_line text is = lines_skip text ∙ ap lines_of is ∙ left_none default_config st.StartRecord [] none_there
