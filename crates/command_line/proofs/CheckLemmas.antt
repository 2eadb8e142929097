-- Clap reads the plain words after `check` as they say.
use Rattle.std.proofs.Common.{◌≡◌, refl, ap, ap₂, sym, ◌∙◌, ℕ, List, [], ◌∷◌, Bool, true, false, cond, codes, Option, Some, None, option_map}
use Rattle.std.specs.Prelude.{option_and_then, slice_get}
use Rattle.clap.specs.Kinds.{Kinds}
use Rattle.clap.specs.Simple.{matches_of}
use Rattle.clap.specs.Walk.{Held, Row, Text, finished, first_of, settled_rows}
use Rattle.script_model.specs.Options.{Options, options_with}
use Rattle.option_model.specs.Plain.{Awaited, Check, Given, LanesNext, Mode, NoValue, OrderNext, ProfileNext, Refused, Taken, check_mode, checked_options, is_path, keys_of_profile, lanes_said, nothing_given, options_of, order_of, order_said, profile_said, run_options, take_words}
use Rattle.command_line.specs.Words.{check_command, check_held, check_words, flag_of, held_without, options_checked}
use Rattle.command_line.proofs.NumberLemmas.{path_is_value}
use Rattle.command_line.proofs.OptionWordLemmas.{Agrees, OfCheck, path_turn, path_walk, rules}
use Rattle.command_line.proofs.PlainLemmas.{more_walked, no_value, plain_walks}
use Rattle.command_line.proofs.OptionLemmas.{all_rows, first, kept_at, lanes_held, merge_is, no_fault, profile_held, rows_are}

-- ---- what the words gave

-- the words gave the options of a run that can be checked
record Checked (given : Given) (checked : Options) : Type 0 where
  pub lanes : ℕ
  pub profile : ℕ
  pub lanes_are : lanes_said given.lanes ≡ Some lanes
  pub profile_is : profile_said given.profile ≡ Some profile
  pub no_order : given.order ≡ None
  pub no_trace : given.trace ≡ false
  pub checked_are : checked ≡ options_with lanes None given.merge true (keys_of_profile profile)

-- options that state an order, or ask for a trace, are not checked
module _ (lanes : ℕ) (merge : Bool) (profile : ℕ) (options checked : Options) (is : checked_options options ≡ Some checked) where
  abbrev with_order : Bool → Option (List (List ℕ)) → Options
  with_order trace order = options_with lanes order merge trace (keys_of_profile profile)

  stated : (trace : Bool) (order : Option (List (List ℕ))) → option_map (with_order trace) (option_map Some order) ≡ Some options → ⊥
  stated trace None e = no_value options e
  stated trace (Some pieces) e =
      let same : options_with lanes (Some pieces) merge trace (keys_of_profile profile) ≡ options = cc e in
      let none : None ≡ Some checked = ap checked_options same ∙ is in
      no_value checked none

  neither : (order : Option Text) (trace : Bool) → option_map (with_order trace) (order_said lanes merge order) ≡ Some options
      → (order ≡ None) × (trace ≡ false) × (checked ≡ options_with lanes None merge true (keys_of_profile profile))
  neither None false e =
      let same : options_with lanes None merge false (keys_of_profile profile) ≡ options = cc e in
      let said : Some (options_with lanes None merge true (keys_of_profile profile)) ≡ Some checked = ap checked_options same ∙ is in
      (refl, refl, cc said)
  neither None true e =
      let same : options_with lanes None merge true (keys_of_profile profile) ≡ options = cc e in
      let none : None ≡ Some checked = ap checked_options same ∙ is in
      no_value checked none
  neither (Some []) trace e = no_value options e
  neither (Some (byte ∷ bytes)) trace e = absurd (stated trace (order_of lanes merge (byte ∷ bytes)) e)

checked_by : (given : Given) (awaited : Awaited) (options checked : Options) → run_options given awaited ≡ Some options → checked_options options ≡ Some checked → Checked given checked
checked_by given LanesNext options checked e is = no_value options e
checked_by given OrderNext options checked e is = no_value options e
checked_by given ProfileNext options checked e is = no_value options e
checked_by given Refused options checked e is = no_value options e
checked_by given NoValue options checked e is = by (lanes_said given.lanes) refl (profile_said given.profile) refl e
  where
    by : (l : Option ℕ) → lanes_said given.lanes ≡ l → (p : Option ℕ) → profile_said given.profile ≡ p → options_of given l p ≡ Some options → Checked given checked
    by None lanes_are p profile_is e = no_value options e
    by (Some lanes) lanes_are None profile_is e = no_value options e
    by (Some lanes) lanes_are (Some profile) profile_is e =
        let none = neither lanes given.merge profile options checked is given.order given.trace e in
        record { lanes = lanes; profile = profile; lanes_are = lanes_are; profile_is = profile_is; no_order = none.0; no_trace = none.1; checked_are = none.2 }

-- ---- what the matches hold

module _ (path : Text) (given : Given) (rows : List Row) (agrees : Agrees (OfCheck path) given rows) (checked : Options) (c : Checked given checked) where
  abbrev matches : List Row
  matches = all_rows (OfCheck path) rows

  options_are : options_checked matches ≡ checked
  options_are =
      ap₂ (λ (l p : ℕ). options_with l None (flag_of (codes "merge") matches) true (keys_of_profile p))
      (lanes_held (OfCheck path) given rows agrees c.lanes c.lanes_are) (profile_held (OfCheck path) given rows agrees c.profile c.profile_is)
      ∙ ap (λ (m : Bool). options_with c.lanes None m true (keys_of_profile c.profile)) (merge_is (OfCheck path) given rows agrees)
      ∙ sym c.checked_are

  path_is : first_of (codes "path") matches ≡ Some path
  path_is = ap (option_and_then (λ (r : Row). slice_get r.values 0)) (kept_at (OfCheck path) (codes "path") rows refl refl ∙ agrees.path)

  mode_is : check_held matches ≡ Some (Check path checked)
  mode_is = ap₂ (λ (options : Options) (o : Option Text). option_map (λ p. Check p options) o) options_are path_is

-- ---- the words

options_read : (path : Text) (words : List Text) (options checked : Options) → is_path path ≡ true
    → run_options (take_words nothing_given NoValue words).given (take_words nothing_given NoValue words).awaited ≡ Some options → checked_options options ≡ Some checked
    → check_words (path ∷ words) ≡ Some (Check path checked)
options_read path words options checked is e said =
    let taken = take_words nothing_given NoValue words in
    let value = path_is_value path is in
    let c = checked_by taken.given taken.awaited options checked e said in
    let behind = plain_walks (OfCheck path) words options (e, (c.no_order, c.no_trace)) in
    let w = more_walked (OfCheck path) path words first _ taken.given (path_turn path value) (path_walk path value) behind in
    let now = settled_rows (rules (OfCheck path)) w.pending w.rows in
    ap (λ (k : Kinds). held_without k (check_held (matches_of check_command (path ∷ words)))) (no_fault (OfCheck path) (path ∷ words) taken.given w)
    ∙ ap (λ (h : Held). check_held (finished (rules (OfCheck path)) h)) w.ends
    ∙ ap check_held (rows_are (OfCheck path) now)
    ∙ mode_is path taken.given now w.stands.agrees checked c

-- the mode that plain words give is the one that clap's matches hold
pub check_is_read : (words : List Text) (mode : Mode) → check_mode words ≡ Some mode → check_words words ≡ Some mode
check_is_read [] mode e = cc e
check_is_read (path ∷ words) mode e = by (is_path path) refl (run_options taken.given taken.awaited) refl e
  where
    taken : Taken
    taken = take_words nothing_given NoValue words

    with_options : (options : Options) (o : Option Options) → is_path path ≡ true → run_options taken.given taken.awaited ≡ Some options → checked_options options ≡ o
        → option_map (Check path) o ≡ Some mode → check_words (path ∷ words) ≡ Some mode
    with_options options None is said checked e = cc e
    with_options options (Some found) is said checked e = options_read path words options found is said checked ∙ e

    by : (b : Bool) → is_path path ≡ b → (o : Option Options) → run_options taken.given taken.awaited ≡ o
        → cond b (option_map (Check path) (option_and_then checked_options o)) None ≡ Some mode → check_words (path ∷ words) ≡ Some mode
    by false is o said e = cc e
    by true is None said e = cc e
    by true is (Some options) said e = with_options options (checked_options options) is said refl e
