-- Clap reads plain words as they say.
use Rattle.std.proofs.Common.{◌≡◌, ◌≤◌, ◌-◌, refl, inl, inr, ◌⊎◌, ap, ap₂, sym, ◌∙◌, ◌&&◌, ◌^◌, ℕ, arith, drop, length, map, take, Result, Ok, Err, List, [], ◌∷◌, Bool, true, false, cond, codes, Option, Some, None, option_map, true≢false}
use Rattle.std.specs.Prelude.{⊤, IfErr, IfOk, IsErr, MatchResult, bytes_eq, nat_lt, option_and_then, unwrap_or}
use Rattle.std.specs.List.{list_all, slice_index_or}
use Rattle.std.specs.Option.{option_map_or}
use Rattle.std.specs.Str.Parse.{AllDigits, ParsesBool, ParsesUnsigned, digits_value, without_leading_plus}
use Rattle.std.proofs.lemmas.Bool.{and_parts, false_from_ne_true, lt-ltb, ltb-true}
use Rattle.std.proofs.lemmas.List.{take_rest}
use Rattle.std.proofs.lemmas.Slice.Eq.{bytes_eq-Decides}
use Rattle.clap.specs.Matches.{ReadsOne}
use Rattle.clap.specs.ValueTests.{is_numeral}
use Rattle.std.specs.Char.{digit_value}
use Rattle.lake_model.specs.Texts.{Text}
use Rattle.script_model.specs.Options.{Options}
use Rattle.option_model.specs.Plain.{Mode, NoValue, Run, Taken, check_mode, make_mode, nothing_given, plain_mode, run_mode, run_options, take_words, watch_mode}
use Rattle.command_line.specs.Words.{check_words, make_words, mode_of, mode_read, number_read, run_words, watch_words}
use Rattle.command_line.specs.declared.words.Mode.{Mode as Given}
use Rattle.command_line.specs.declared.words.WordsRefused.{WordsRefused}
use Rattle.command_line.specs.declared.words.WordsRefused.TheVariants as refused
use Rattle.command_line.proofs.CheckLemmas.{check_is_read}
use Rattle.command_line.proofs.MakeLemmas.{make_is_read}
use Rattle.command_line.proofs.OptionLemmas.{run_is_read}
use Rattle.command_line.proofs.WatchLemmas.{watch_is_read}

-- The mode that plain words state is the one that is read from them.
pub plain_is_read : (words : List Text) (mode : Mode) → plain_mode words ≡ Some mode → mode_read words ≡ Some mode
plain_is_read [] mode e = cc e
plain_is_read (word ∷ words) mode e =
    by (bytes_eq word (codes "run")) (bytes_eq word (codes "make")) (bytes_eq word (codes "watch")) (bytes_eq word (codes "check")) e
  where
    taken : Taken
    taken = take_words nothing_given NoValue words

    run : (o : Option Options) → run_options taken.given taken.awaited ≡ o → option_map Run o ≡ Some mode → option_map Run (run_words words) ≡ Some mode
    run None is e = cc e
    run (Some options) is e = ap (option_map Run) (run_is_read words options is) ∙ e

    by : (b c d a : Bool)
        → cond b (run_mode (take_words nothing_given NoValue words)) (cond c (make_mode words) (cond d (watch_mode words) (cond a (check_mode words) None))) ≡ Some mode
        → cond b (option_map Run (run_words words)) (cond c (make_words words) (cond d (watch_words words) (cond a (check_words words) None))) ≡ Some mode
    by true c d a e = run (run_options taken.given taken.awaited) refl e
    by false true d a e = make_is_read words mode e
    by false false true a e = watch_is_read words mode e
    by false false false true e = check_is_read words mode e
    by false false false false e = cc e

-- what `get_one` reads from the text of a flag
pub flag_read : (E : Type 0) (text : Option Text) (value : Option Bool) → (text ≡ None → value ≡ None) → ((t : Text) → text ≡ Some t → ReadsOne {E = E} ParsesBool t value)
    → unwrap_or value false ≡ option_map_or (λ t. bytes_eq t (codes "true")) text false
flag_read E None value none read = ap (λ (v : Option Bool). unwrap_or v false) (none refl)
flag_read E (Some t) value none read = by value (read t refl)
  where
    by : (v : Option Bool) → ReadsOne {E = E} ParsesBool t v → unwrap_or v false ≡ bytes_eq t (codes "true")
    by (Some true) same = sym ((bytes_eq-Decides t (codes "true")).1 same)
    by (Some false) same = sym (ap (λ (x : Text). bytes_eq x (codes "true")) same)
    by None other = sym (false_from_ne_true (bytes_eq t (codes "true")) (λ h. other.1.0 ((bytes_eq-Decides t (codes "true")).0 h)))

digits_pass : (digits : Text) → AllDigits 10 digits → list_all (λ d. nat_lt (digit_value d) 10) digits ≡ true
digits_pass [] all = refl
digits_pass (digit ∷ digits) all = ap₂ (λ (a b : Bool). a && b) (lt-ltb (digit_value digit) 10 all.0) (digits_pass digits all.1)

digits_from : (digits : Text) → list_all (λ d. nat_lt (digit_value d) 10) digits ≡ true → AllDigits 10 digits
digits_from [] e = tt
digits_from (digit ∷ digits) e =
    let parts = and_parts (nat_lt (digit_value digit) 10) _ e in
    (ltb-true _ _ parts.0, digits_from digits parts.1)

-- a number is read as `parse` reads it
pub number_gives : (t : Text) → ReadsOne {E = ⊤} (ParsesUnsigned 32 10) t (number_read t)
number_gives t = by (is_numeral (without_leading_plus t)) refl (nat_lt (digits_value 10 (without_leading_plus t)) (2 ^ 32)) refl
  where
    by : (numeral : Bool) → is_numeral (without_leading_plus t) ≡ numeral → (small : Bool) → nat_lt (digits_value 10 (without_leading_plus t)) (2 ^ 32) ≡ small
        → ReadsOne {E = ⊤} (ParsesUnsigned 32 10) t (cond (numeral && small) (Some (digits_value 10 (without_leading_plus t))) None)
    by true n true s =
        let digits = and_parts (nat_lt 0 (length (without_leading_plus t))) _ n in
        (((ltb-true _ _ digits.0, digits_from (without_leading_plus t) digits.1), ltb-true _ _ s), refl)
    by true n false s = (tt, λ h. true≢false (sym (lt-ltb _ _ h.1) ∙ s))
    by false n s _ = (tt, λ h. true≢false (sym (ap₂ (λ (a b : Bool). a && b) (lt-ltb 0 (length (without_leading_plus t)) h.0.0) (digits_pass (without_leading_plus t) h.0.1)) ∙ n))

same_read : (E F : Type 0) (t : Text) (a b : Option ℕ) → ReadsOne {E = E} (ParsesUnsigned 32 10) t a → ReadsOne {E = F} (ParsesUnsigned 32 10) t b → a ≡ b
same_read E F t (Some n) (Some k) x y = ap (λ (m : ℕ). Some m) (x.1 ∙ sym y.1)
same_read E F t (Some n) None x y = absurd (y.1 x.0)
same_read E F t None (Some k) x y = absurd (x.1 y.0)
same_read E F t None None x y = refl

-- what `get_one` reads from the text of a number
pub number_is : (E : Type 0) (Gives : Text → Result ℕ E → Type 0) → ((t : Text) (r : Result ℕ E) → Gives t r → ParsesUnsigned 32 10 t r)
    → (text : Option Text) (value : Option ℕ) → (text ≡ None → value ≡ None) → ((t : Text) → text ≡ Some t → ReadsOne {E = E} Gives t value)
    → value ≡ option_and_then number_read text
number_is E Gives parses None value none read = none refl
number_is E Gives parses (Some t) value none read = same_read E ⊤ t value (number_read t) (plainly value (read t refl)) (number_gives t)
  where
    plainly : (v : Option ℕ) → ReadsOne {E = E} Gives t v → ReadsOne {E = E} (ParsesUnsigned 32 10) t v
    plainly (Some n) same = parses t (Ok n) same
    plainly None other = (other.0, parses t (Err other.0) other.1)

-- what is read from any words is what plain words state
pub plain_by : (words : List Text) (r : Result Given WordsRefused) → IfOk r (λ given. mode_read words ≡ Some (mode_of given)) → IfErr r (λ e. (e ≡ refused.NoMemory) ⊎ (mode_read words ≡ None))
    → (mode : Mode) → plain_mode words ≡ Some mode → MatchResult r (λ given. mode_of given ≡ mode) (λ e. e ≡ refused.NoMemory)
plain_by words (Ok given) read none mode plain =
    let said : Some (mode_of given) ≡ Some mode = sym read ∙ plain_is_read words mode plain in
    cc said
plain_by words (Err e) read (inl memory) mode plain = memory
plain_by words (Err e) read (inr none) mode plain =
    let bad : None ≡ Some mode = sym none ∙ plain_is_read words mode plain in
    cc bad

-- an error that was passed up leaves no value to speak of
pub no_ok : (r : Result Given WordsRefused) (P : Given → Type 0) → IsErr r → IfOk r P
no_ok (Ok given) P is = absurd (true≢false (sym is))
no_ok (Err e) P is = tt

pub run_refused : (e : WordsRefused) (options : Option Options) (mode : Option Mode) → mode ≡ option_map Run options → (e ≡ refused.NoMemory) ⊎ (options ≡ None)
    → (e ≡ refused.NoMemory) ⊎ (mode ≡ None)
run_refused e options mode same (inl memory) = inl memory
run_refused e options mode same (inr none) = inr (same ∙ ap (option_map Run) none)

-- ---- the first word

-- a list that has a first element is that one and the rest
pub parted : {X : Type 0} (f : X → Text) (words : List X) (first : X) → 1 ≤ length words → first ≡ slice_index_or words 0 first
    → map f words ≡ f first ∷ map f (take (length words - 1) (drop 1 words))
parted f [] first some is = absurd (omega (arith, some))
parted {X} f (word ∷ words) first some is = ap₂ (λ (a : X) (b : List X). f a ∷ map f b) (sym is) (sym (take_rest (word ∷ words) 1))

module _ (words : List Text) (word : Text) (rest : List Text) (parts : words ≡ word ∷ rest) where
  pub run_named : word ≡ codes "run" → mode_read words ≡ option_map Run (run_words rest)
  run_named named = ap mode_read parts ∙ ap (λ (w : Text). mode_read (w ∷ rest)) named

  pub make_named : word ≡ codes "make" → mode_read words ≡ make_words rest
  make_named named = ap mode_read parts ∙ ap (λ (w : Text). mode_read (w ∷ rest)) named

  pub watch_named : word ≡ codes "watch" → mode_read words ≡ watch_words rest
  watch_named named = ap mode_read parts ∙ ap (λ (w : Text). mode_read (w ∷ rest)) named

  pub check_named : word ≡ codes "check" → mode_read words ≡ check_words rest
  check_named named = ap mode_read parts ∙ ap (λ (w : Text). mode_read (w ∷ rest)) named

  is_not : (name : Text) → (word ≡ name → ⊥) → bytes_eq word name ≡ false
  is_not name other = false_from_ne_true (bytes_eq word name) (λ same. other ((bytes_eq-Decides word name).0 same))

  -- another first word is no plain mode
  pub no_mode : (word ≡ codes "run" → ⊥) → (word ≡ codes "make" → ⊥) → (word ≡ codes "watch" → ⊥) → (word ≡ codes "check" → ⊥) → plain_mode words ≡ None
  no_mode not_run not_make not_watch not_check =
      ap plain_mode parts
      ∙ ap₂ (λ (b c : Bool). by b c (bytes_eq word (codes "watch")) (bytes_eq word (codes "check"))) (is_not (codes "run") not_run) (is_not (codes "make") not_make)
      ∙ ap₂ (λ (d a : Bool). by false false d a) (is_not (codes "watch") not_watch) (is_not (codes "check") not_check)
    where
      by : (b c d a : Bool) → Option Mode
      by b c d a = cond b (run_mode (take_words nothing_given NoValue rest)) (cond c (make_mode rest) (cond d (watch_mode rest) (cond a (check_mode rest) None)))
