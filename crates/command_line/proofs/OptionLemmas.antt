-- What clap's matches hold for plain options, without a fault. Clap reads the plain words after `run` as they say.
use Rattle.std.proofs.Common.{◌≡◌, refl, ap, ap₂, ◌∙◌, ℕ, List, [], ◌∷◌, Bool, true, false, not, ◌||◌, cond, codes, Option, Some, None, option_map, arith}
use Rattle.std.specs.Prelude.{bytes_eq, fold, option_and_then, slice_get, unwrap_or}
use Rattle.std.specs.List.{AllByRecursion}
use Rattle.std.specs.Option.{option_map_or}
use Rattle.clap.specs.Faults.{check_fault, default_fault, defaults_fault, fault_of, given_default_fault, settle_fault, walk_fault}
use Rattle.clap.specs.Facts.{explicit_source}
use Rattle.clap.specs.Kinds.{Kinds, check_kinds, or_else}
use Rattle.clap.specs.Simple.{built, filled, matches_of, with_index}
use Rattle.clap.specs.Walk.{Held, Row, Rule, Text, finished, first_of, has_row, idle, is_empty, nothing_held, row_text, settled, settled_rows, walked, with_default, Walk}
use Rattle.clap.specs.declared.builder.value_parser.Reading.TheVariants as reading
use Rattle.clap.specs.declared.parser.matches.ValueSource.TheVariants.{DefaultValue}
use Rattle.clap.proofs.FaultLemmas.{leaf_fault}
use Rattle.script_model.specs.Options.{Options, options_with}
use Rattle.option_model.specs.Plain.{Awaited, Given, LanesNext, NoValue, OrderNext, ProfileNext, Refused, keys_of_profile, lanes_said, nothing_given, options_of, order_said, profile_said, run_options, take_words}
use Rattle.command_line.specs.Words.{check_command, flag_of, flag_option, held_without, lanes_option, number_held, number_read, options_held, order_option, order_stated, path_word, profile_option, run_command, run_words}
use Rattle.command_line.proofs.NumberLemmas.{number_is_read}
use Rattle.command_line.proofs.RowLemmas.{default_kept, default_row, no_default, row_at, row_with}
use Rattle.command_line.proofs.OptionWordLemmas.{Agrees, OfCheck, OfRun, Reader, before, command, flag_if, held, lanes_row, order_row, profile_row, rules, top}
use Rattle.command_line.proofs.PlainLemmas.{Walks, no_value, plain_walks}

-- ---- the default values

abbrev with_merge : List Row → List Row
with_merge rows = with_default rows (filled (flag_option (codes "merge")))

-- the flags that the command has are off by default
abbrev pub all_rows : Reader → List Row → List Row
all_rows OfRun rows = with_default (with_merge rows) (filled (flag_option (codes "trace")))
all_rows (OfCheck path) rows = with_merge rows

pub no_default_fault : (rows : List Row) (a : Rule) → given_default_fault a a.defaults ≡ [] → default_fault rows a ≡ []
no_default_fault rows a fine = ap (λ (k : Kinds). cond (has_row a.id rows || is_empty a.defaults) [] k) fine ∙ by (has_row a.id rows || is_empty a.defaults)
  where
    by : (b : Bool) → cond {A = Kinds} b [] [] ≡ []
    by true = refl
    by false = refl

abbrev HasFineDefaults : Rule → Type 0
HasFineDefaults a = given_default_fault a a.defaults ≡ []

fine_defaults : (reader : Reader) → AllByRecursion HasFineDefaults (rules reader)
fine_defaults OfRun = (refl, (refl, (refl, (refl, (refl, tt)))))
fine_defaults (OfCheck path) = (refl, (refl, (refl, (refl, tt))))

no_defaults_fault : (arguments : List Rule) (rows : List Row) → AllByRecursion HasFineDefaults arguments → defaults_fault rows arguments ≡ []
unfolding defaults_fault
no_defaults_fault [] rows fine = refl
no_defaults_fault (a ∷ rest) rows fine = ap₂ or_else (no_default_fault rows a fine.0) (no_defaults_fault rest (with_default rows a) fine.1)

-- ---- the rows at the end

pub rows_are : (reader : Reader) (rows : List Row) → fold with_default rows (rules reader) ≡ all_rows reader rows
rows_are OfRun rows =
    ap (λ (r : List Row). with_default (all_rows OfRun (with_default r (filled order_option))) (filled profile_option)) (no_default (filled lanes_option) rows refl)
    ∙ ap (λ (r : List Row). with_default (all_rows OfRun r) (filled profile_option)) (no_default (filled order_option) rows refl)
    ∙ no_default (filled profile_option) (all_rows OfRun rows) refl
rows_are (OfCheck path) rows =
    ap (λ (r : List Row). with_default (with_merge (with_default r (filled lanes_option))) (filled profile_option)) (no_default (with_index 1 (filled path_word)) rows refl)
    ∙ ap (λ (r : List Row). with_default (with_merge r) (filled profile_option)) (no_default (filled lanes_option) rows refl)
    ∙ no_default (filled profile_option) (with_merge rows) refl

-- the default of a flag is no row of another name
pub kept_at : (reader : Reader) (id : Text) (rows : List Row) → bytes_eq (codes "merge") id ≡ false → bytes_eq (codes "trace") id ≡ false
    → row_at id (all_rows reader rows) ≡ row_at id rows
kept_at OfRun id rows merge trace =
    default_kept id (filled (flag_option (codes "trace"))) (with_merge rows) trace ∙ default_kept id (filled (flag_option (codes "merge"))) rows merge
kept_at (OfCheck path) id rows merge trace = default_kept id (filled (flag_option (codes "merge"))) rows merge

abbrev flag_row_of : Text → Bool → Row
flag_row_of id b = unwrap_or (flag_if id b) (row_with id reading.AsWritten DefaultValue (codes "false" ∷ []))

flag_text : (id : Text) (b : Bool) → option_map_or (λ text. bytes_eq text (codes "true")) (option_and_then row_text (Some (flag_row_of id b))) false ≡ b
flag_text id true = refl
flag_text id false = refl

merge_above : (reader : Reader) (rows : List Row) → row_at (codes "merge") (all_rows reader rows) ≡ row_at (codes "merge") (with_merge rows)
merge_above OfRun rows = default_kept (codes "merge") (filled (flag_option (codes "trace"))) (with_merge rows) refl
merge_above (OfCheck path) rows = refl

module _ (reader : Reader) (given : Given) (rows : List Row) (agrees : Agrees reader given rows) where
  lanes_at : row_at (codes "lanes") (all_rows reader rows) ≡ option_map lanes_row given.lanes
  lanes_at = kept_at reader (codes "lanes") rows refl refl ∙ agrees.lanes

  profile_at : row_at (codes "profile") (all_rows reader rows) ≡ option_map profile_row given.profile
  profile_at = kept_at reader (codes "profile") rows refl refl ∙ agrees.profile

  merge_at : row_at (codes "merge") (all_rows reader rows) ≡ Some (flag_row_of (codes "merge") given.merge)
  merge_at = merge_above reader rows ∙ default_row (filled (flag_option (codes "merge"))) (codes "false") rows refl
      ∙ ap (λ (o : Option Row). Some (unwrap_or o (row_with (codes "merge") reading.AsWritten DefaultValue (codes "false" ∷ [])))) agrees.merge

  pub merge_is : flag_of (codes "merge") (all_rows reader rows) ≡ given.merge
  merge_is = ap (λ (o : Option Row). option_map_or (λ text. bytes_eq text (codes "true")) (option_and_then row_text o) false) merge_at ∙ flag_text (codes "merge") given.merge

  lanes_are : (said : Option Text) (lanes : ℕ) → lanes_said said ≡ Some lanes → unwrap_or (option_and_then number_read (option_and_then row_text (option_map lanes_row said))) 1 ≡ lanes
  lanes_are None lanes e = cc e
  lanes_are (Some text) lanes e = ap (λ (o : Option ℕ). unwrap_or o 1) (number_is_read 1 16 text lanes (omega arith) (omega arith) e).read

  profile_is : (said : Option Text) (profile : ℕ) → profile_said said ≡ Some profile
      → unwrap_or (option_and_then number_read (option_and_then row_text (option_map profile_row said))) 1 ≡ profile
  profile_is None profile e = cc e
  profile_is (Some text) profile e = ap (λ (o : Option ℕ). unwrap_or o 1) (number_is_read 1 2 text profile (omega arith) (omega arith) e).read

  pub lanes_held : (lanes : ℕ) → lanes_said given.lanes ≡ Some lanes → unwrap_or (number_held (codes "lanes") (all_rows reader rows)) 1 ≡ lanes
  lanes_held lanes is = ap (λ (o : Option Row). unwrap_or (option_and_then number_read (option_and_then row_text o)) 1) lanes_at ∙ lanes_are given.lanes lanes is

  pub profile_held : (profile : ℕ) → profile_said given.profile ≡ Some profile → unwrap_or (number_held (codes "profile") (all_rows reader rows)) 1 ≡ profile
  profile_held profile is = ap (λ (o : Option Row). unwrap_or (option_and_then number_read (option_and_then row_text o)) 1) profile_at ∙ profile_is given.profile profile is

-- ---- no fault

-- the walk before the first word
abbrev pub first : Walk
first = before [] None 1 idle

abbrev faults_after : Reader → Kinds → Held → Kinds
faults_after reader walk h =
    or_else walk (or_else [] (or_else (settle_fault (rules reader) false h)
    (or_else (defaults_fault (settled (rules reader) h).rows (rules reader)) (check_fault (top reader) (finished (rules reader) h) false))))

fault_is : (reader : Reader) (words : List Text)
    → fault_of (command reader) words ≡ faults_after reader (walk_fault (top reader) [] first words) (fold (walked (rules reader) []) first words).held
fault_is OfRun words = leaf_fault (built run_command) nothing_held words refl
fault_is (OfCheck path) words = leaf_fault (built check_command) nothing_held words refl

-- what is required is there
none_missing : (reader : Reader) (given : Given) (rows : List Row) → Agrees reader given rows → check_fault (top reader) (all_rows reader rows) false ≡ []
none_missing OfRun given rows agrees = refl
none_missing (OfCheck path) given rows agrees =
    ap (λ (o : Option Row). check_kinds false false (not (option_map_or (λ r. explicit_source r.source) o false) || false))
    (kept_at (OfCheck path) (codes "path") rows refl refl ∙ agrees.path)

pub no_fault : (reader : Reader) (words : List Text) (given : Given) → Walks reader words first given → fault_of (command reader) words ≡ []
no_fault reader words given w =
    let h = held w.rows w.pending in
    let now = settled_rows (rules reader) w.pending w.rows in
    fault_is reader words
    ∙ ap₂ (faults_after reader) w.no_fault w.ends
    ∙ ap (λ (k : Kinds). or_else k (or_else (defaults_fault now (rules reader)) (check_fault (top reader) (finished (rules reader) h) false))) w.stands.settles
    ∙ ap (λ (k : Kinds). or_else k (check_fault (top reader) (finished (rules reader) h) false)) (no_defaults_fault (rules reader) now (fine_defaults reader))
    ∙ ap (λ (rows : List Row). check_fault (top reader) rows false) (rows_are reader now)
    ∙ none_missing reader given now w.stands.agrees

-- ---- the options of a run

module _ (given : Given) (rows : List Row) (agrees : Agrees OfRun given rows) where
  order_text : (said : Option Text) → option_and_then (λ (r : Row). slice_get r.values 0) (option_map order_row said) ≡ said
  order_text None = refl
  order_text (Some text) = refl

  order_is : first_of (codes "order") (all_rows OfRun rows) ≡ given.order
  order_is = ap (option_and_then (λ (r : Row). slice_get r.values 0)) (kept_at OfRun (codes "order") rows refl refl ∙ agrees.order) ∙ order_text given.order

  trace_at : row_at (codes "trace") (all_rows OfRun rows) ≡ Some (flag_row_of (codes "trace") given.trace)
  trace_at = default_row (filled (flag_option (codes "trace"))) (codes "false") (with_merge rows) refl
      ∙ ap (λ (o : Option Row). Some (unwrap_or o (row_with (codes "trace") reading.AsWritten DefaultValue (codes "false" ∷ []))))
      (default_kept (codes "trace") (filled (flag_option (codes "merge"))) rows refl ∙ agrees.trace)

  trace_is : flag_of (codes "trace") (all_rows OfRun rows) ≡ given.trace
  trace_is = ap (λ (o : Option Row). option_map_or (λ text. bytes_eq text (codes "true")) (option_and_then row_text o) false) trace_at ∙ flag_text (codes "trace") given.trace

  same_order : (f : Option (List (List ℕ)) → Options) (lanes : ℕ) (merge : Bool) (said : Option Text) (options : Options)
      → option_map f (order_said lanes merge said) ≡ Some options → option_map f (order_stated lanes merge said) ≡ Some options
  same_order f lanes merge None options e = e
  same_order f lanes merge (Some []) options e = no_value options e
  same_order f lanes merge (Some (byte ∷ bytes)) options e = e

  with_numbers : (said profile_is_said : Option ℕ) (options : Options) → lanes_said given.lanes ≡ said → profile_said given.profile ≡ profile_is_said
      → options_of given said profile_is_said ≡ Some options → options_held (all_rows OfRun rows) ≡ Some options
  with_numbers None profile options is profile_was e = no_value options e
  with_numbers (Some lanes) None options is profile_was e = no_value options e
  with_numbers (Some lanes) (Some profile) options is profile_was e =
      let matches = all_rows OfRun rows in
      let f = λ (l p : ℕ) (m t : Bool) (o : Option Text). option_map (λ order. options_with l order m t (keys_of_profile p)) (order_stated l m o) in
      ap₂ (λ (l p : ℕ). f l p (flag_of (codes "merge") matches) (flag_of (codes "trace") matches) (first_of (codes "order") matches))
      (lanes_held OfRun given rows agrees lanes is) (profile_held OfRun given rows agrees profile profile_was)
      ∙ ap (λ (m : Bool). f lanes profile m (flag_of (codes "trace") matches) (first_of (codes "order") matches)) (merge_is OfRun given rows agrees)
      ∙ ap₂ (λ (t : Bool) (o : Option Text). f lanes profile given.merge t o) trace_is order_is
      ∙ same_order (λ order. options_with lanes order given.merge given.trace (keys_of_profile profile)) lanes given.merge given.order options e

options_are : (given : Given) (rows : List Row) → Agrees OfRun given rows → (awaited : Awaited) (options : Options) → run_options given awaited ≡ Some options
    → options_held (all_rows OfRun rows) ≡ Some options
options_are given rows agrees LanesNext options e = no_value options e
options_are given rows agrees OrderNext options e = no_value options e
options_are given rows agrees ProfileNext options e = no_value options e
options_are given rows agrees Refused options e = no_value options e
options_are given rows agrees NoValue options e = with_numbers given rows agrees (lanes_said given.lanes) (profile_said given.profile) options refl refl e

-- the options that plain words give are those that clap's matches hold
pub run_is_read : (words : List Text) (options : Options)
    → run_options (take_words nothing_given NoValue words).given (take_words nothing_given NoValue words).awaited ≡ Some options → run_words words ≡ Some options
run_is_read words options e =
    let taken = take_words nothing_given NoValue words in
    let w = plain_walks OfRun words options (e, tt) in
    let now = settled_rows (rules OfRun) w.pending w.rows in
    ap (λ (k : Kinds). held_without k (options_held (matches_of run_command words))) (no_fault OfRun words taken.given w)
    ∙ ap (λ (h : Held). options_held (finished (rules OfRun) h)) w.ends
    ∙ ap options_held (rows_are OfRun now)
    ∙ options_are taken.given now w.stands.agrees taken.awaited options e
