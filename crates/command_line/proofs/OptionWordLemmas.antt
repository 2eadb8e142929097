-- How clap walks over the options after `run`, and after the path that follows `check`.
use Rattle.std.proofs.Common.{◌≡◌, refl, ap, ap₂, ◌∙◌, ℕ, List, [], ◌∷◌, ◌++◌, Bool, true, false, ◌&&◌, cond, codes, Option, Some, None, is_some, option_map}
use Rattle.clap.specs.Faults.{settle_fault, turn_fault}
use Rattle.clap.specs.Kinds.{Kinds, or_else}
use Rattle.clap.specs.Simple.{App, Shape, built, filled}
use Rattle.clap.specs.ValueTests.{accepts}
use Rattle.clap.specs.Walk.{Held, Row, Rule, Text, Waiting, Walk, has_row, idle, option, settled_rows, used, walked}
use Rattle.clap.specs.declared.builder.value_parser.Reading.TheVariants as reading
use Rattle.clap.specs.declared.error.kind.ErrorKind.TheVariants as kind
use Rattle.clap.specs.declared.parser.matches.ValueSource.TheVariants.{CommandLine}
use Rattle.clap.proofs.OnLiterals.{clap_on_literals}
use Rattle.option_model.specs.Plain.{Given, nothing_given}
use Rattle.command_line.specs.Words.{between as range, check_command, flag_option, run_command}
use Rattle.command_line.proofs.NumberLemmas.{IsValue, not_short}
use Rattle.command_line.proofs.RowLemmas.{found_before, found_behind, has_row_is, row_at, row_with, used_once}

-- what the options are read for: a run, or the check of the trace at a path
pub data Reader : Type 0 where
  OfRun : Reader
  OfCheck : (path : Text) → Reader

abbrev pub command : Reader → App
command OfRun = run_command
command (OfCheck path) = check_command

-- the command as it is built
abbrev pub top : Reader → Shape
top reader = (built (command reader)).top

abbrev pub rules : Reader → List Rule
rules reader = (top reader).rules

-- the position of the next word that is no option: the path was at the first
abbrev pub position : Reader → ℕ
position OfRun = 1
position (OfCheck path) = 2

abbrev pub Pending : Type 0
Pending = Option (Text × List Text)

-- what is pending before the options
abbrev pub pending_first : Reader → Pending
pending_first OfRun = None
pending_first (OfCheck path) = Some (codes "path", path ∷ [])

abbrev pub held : List Row → Pending → Held
held rows pending = record { rows = rows; pending = pending; skip = 0 }

-- the walk before the word at a position
abbrev pub before : List Row → Pending → ℕ → Waiting → Walk
before rows pending position waiting = record { held = held rows pending; waiting = waiting; position = position; is_trailing = false; stopped = None }

-- where the walk is between two words
abbrev pub between : Reader → List Row → Pending → Waiting → Walk
between reader rows pending waiting = before rows pending (position reader) waiting

-- ---- the rows of what the words gave

abbrev pub lanes_row : Text → Row
lanes_row text = row_with (codes "lanes") reading.WithoutMinus CommandLine (text ∷ [])

abbrev pub order_row : Text → Row
order_row text = row_with (codes "order") reading.AsWritten CommandLine (text ∷ [])

abbrev pub profile_row : Text → Row
profile_row text = row_with (codes "profile") reading.WithoutMinus CommandLine (text ∷ [])

abbrev pub flag_row : Text → Row
flag_row id = row_with id reading.AsWritten CommandLine (codes "true" ∷ [])

abbrev pub path_row : Reader → Option Row
path_row OfRun = None
path_row (OfCheck path) = Some (row_with (codes "path") reading.AsWritten CommandLine (path ∷ []))

abbrev pub flag_if : Text → Bool → Option Row
flag_if id b = cond b (Some (flag_row id)) None

pub record Agrees (reader : Reader) (given : Given) (rows : List Row) : Type 0 where
  pub path : row_at (codes "path") rows ≡ path_row reader
  pub lanes : row_at (codes "lanes") rows ≡ option_map lanes_row given.lanes
  pub order : row_at (codes "order") rows ≡ option_map order_row given.order
  pub merge : row_at (codes "merge") rows ≡ flag_if (codes "merge") given.merge
  pub trace : row_at (codes "trace") rows ≡ flag_if (codes "trace") given.trace
  pub profile : row_at (codes "profile") rows ≡ option_map profile_row given.profile

-- what is pending is no fault, and with it the rows are those of what was given
pub record Stands (reader : Reader) (given : Given) (rows : List Row) (pending : Pending) : Type 0 where
  pub settles : settle_fault (rules reader) false (held rows pending) ≡ []
  pub agrees : Agrees reader given (settled_rows (rules reader) pending rows)

pub stands_first : (reader : Reader) → Stands reader nothing_given [] (pending_first reader)
stands_first OfRun = record { settles = refl; agrees = record { path = refl; lanes = refl; order = refl; merge = refl; trace = refl; profile = refl } }
stands_first (OfCheck path) = record { settles = refl; agrees = record { path = refl; lanes = refl; order = refl; merge = refl; trace = refl; profile = refl } }

module _ (reader : Reader) (given : Given) (rows : List Row) (agrees : Agrees reader given rows) where
  pub no_lanes : given.lanes ≡ None → has_row (codes "lanes") rows ≡ false
  no_lanes none = has_row_is (codes "lanes") rows ∙ ap is_some (agrees.lanes ∙ ap (option_map lanes_row) none)

  pub no_order : given.order ≡ None → has_row (codes "order") rows ≡ false
  no_order none = has_row_is (codes "order") rows ∙ ap is_some (agrees.order ∙ ap (option_map order_row) none)

  pub no_merge : given.merge ≡ false → has_row (codes "merge") rows ≡ false
  no_merge off = has_row_is (codes "merge") rows ∙ ap is_some (agrees.merge ∙ ap (flag_if (codes "merge")) off)

  pub no_trace : given.trace ≡ false → has_row (codes "trace") rows ≡ false
  no_trace off = has_row_is (codes "trace") rows ∙ ap is_some (agrees.trace ∙ ap (flag_if (codes "trace")) off)

  pub no_profile : given.profile ≡ None → has_row (codes "profile") rows ≡ false
  no_profile none = has_row_is (codes "profile") rows ∙ ap is_some (agrees.profile ∙ ap (option_map profile_row) none)

  pub more_lanes : (text : Text) → given.lanes ≡ None → Agrees reader (record given { lanes = Some text }) (rows ++ lanes_row text ∷ [])
  more_lanes text none = record {
    path = found_before (codes "path") rows (lanes_row text) refl ∙ agrees.path;
    lanes = found_behind (codes "lanes") rows (lanes_row text) (agrees.lanes ∙ ap (option_map lanes_row) none) refl;
    order = found_before (codes "order") rows (lanes_row text) refl ∙ agrees.order;
    merge = found_before (codes "merge") rows (lanes_row text) refl ∙ agrees.merge;
    trace = found_before (codes "trace") rows (lanes_row text) refl ∙ agrees.trace;
    profile = found_before (codes "profile") rows (lanes_row text) refl ∙ agrees.profile;
  }

  pub more_order : (text : Text) → given.order ≡ None → Agrees reader (record given { order = Some text }) (rows ++ order_row text ∷ [])
  more_order text none = record {
    path = found_before (codes "path") rows (order_row text) refl ∙ agrees.path;
    lanes = found_before (codes "lanes") rows (order_row text) refl ∙ agrees.lanes;
    order = found_behind (codes "order") rows (order_row text) (agrees.order ∙ ap (option_map order_row) none) refl;
    merge = found_before (codes "merge") rows (order_row text) refl ∙ agrees.merge;
    trace = found_before (codes "trace") rows (order_row text) refl ∙ agrees.trace;
    profile = found_before (codes "profile") rows (order_row text) refl ∙ agrees.profile;
  }

  pub more_merge : given.merge ≡ false → Agrees reader (record given { merge = true }) (rows ++ flag_row (codes "merge") ∷ [])
  more_merge off = record {
    path = found_before (codes "path") rows (flag_row (codes "merge")) refl ∙ agrees.path;
    lanes = found_before (codes "lanes") rows (flag_row (codes "merge")) refl ∙ agrees.lanes;
    order = found_before (codes "order") rows (flag_row (codes "merge")) refl ∙ agrees.order;
    merge = found_behind (codes "merge") rows (flag_row (codes "merge")) (agrees.merge ∙ ap (flag_if (codes "merge")) off) refl;
    trace = found_before (codes "trace") rows (flag_row (codes "merge")) refl ∙ agrees.trace;
    profile = found_before (codes "profile") rows (flag_row (codes "merge")) refl ∙ agrees.profile;
  }

  pub more_trace : given.trace ≡ false → Agrees reader (record given { trace = true }) (rows ++ flag_row (codes "trace") ∷ [])
  more_trace off = record {
    path = found_before (codes "path") rows (flag_row (codes "trace")) refl ∙ agrees.path;
    lanes = found_before (codes "lanes") rows (flag_row (codes "trace")) refl ∙ agrees.lanes;
    order = found_before (codes "order") rows (flag_row (codes "trace")) refl ∙ agrees.order;
    merge = found_before (codes "merge") rows (flag_row (codes "trace")) refl ∙ agrees.merge;
    trace = found_behind (codes "trace") rows (flag_row (codes "trace")) (agrees.trace ∙ ap (flag_if (codes "trace")) off) refl;
    profile = found_before (codes "profile") rows (flag_row (codes "trace")) refl ∙ agrees.profile;
  }

  pub more_profile : (text : Text) → given.profile ≡ None → Agrees reader (record given { profile = Some text }) (rows ++ profile_row text ∷ [])
  more_profile text none = record {
    path = found_before (codes "path") rows (profile_row text) refl ∙ agrees.path;
    lanes = found_before (codes "lanes") rows (profile_row text) refl ∙ agrees.lanes;
    order = found_before (codes "order") rows (profile_row text) refl ∙ agrees.order;
    merge = found_before (codes "merge") rows (profile_row text) refl ∙ agrees.merge;
    trace = found_before (codes "trace") rows (profile_row text) refl ∙ agrees.trace;
    profile = found_behind (codes "profile") rows (profile_row text) (agrees.profile ∙ ap (option_map profile_row) none) refl;
  }

-- ---- one use of each argument

repeated : (has : Bool) (rest : Kinds) → has ≡ false → rest ≡ [] → or_else (cond (has && true) (kind.ArgumentConflict ∷ []) []) rest ≡ []
repeated has rest none fine = ap₂ (λ (h : Bool) (k : Kinds). or_else (cond (h && true) (kind.ArgumentConflict ∷ []) []) k) none fine

pub passed : (fits : Bool) → fits ≡ true → or_else (cond fits [] (kind.ValueValidation ∷ [])) [] ≡ []
passed fits e = ap (λ (b : Bool). or_else (cond b [] (kind.ValueValidation ∷ [])) []) e

module _ (rows : List Row) where
  pub lanes_settle : (reader : Reader) (text : Text) → has_row (codes "lanes") rows ≡ false → accepts false (range 1 16) text ≡ true
      → settle_fault (rules reader) false (held rows (Some (codes "lanes", text ∷ []))) ≡ []
  lanes_settle OfRun text none fits = repeated _ _ none (passed _ fits)
  lanes_settle (OfCheck path) text none fits = repeated _ _ none (passed _ fits)

  pub order_settle : (text : Text) → has_row (codes "order") rows ≡ false → settle_fault (rules OfRun) false (held rows (Some (codes "order", text ∷ []))) ≡ []
  order_settle text none = repeated _ _ none refl

  pub profile_settle : (reader : Reader) (text : Text) → has_row (codes "profile") rows ≡ false → accepts false (range 1 2) text ≡ true
      → settle_fault (rules reader) false (held rows (Some (codes "profile", text ∷ []))) ≡ []
  profile_settle OfRun text none fits = repeated _ _ none (passed _ fits)
  profile_settle (OfCheck path) text none fits = repeated _ _ none (passed _ fits)

  pub lanes_used : (reader : Reader) (text : Text) → has_row (codes "lanes") rows ≡ false
      → settled_rows (rules reader) (Some (codes "lanes", text ∷ [])) rows ≡ rows ++ lanes_row text ∷ []
  lanes_used OfRun text none = used_once (codes "lanes") reading.WithoutMinus CommandLine (text ∷ []) rows none
  lanes_used (OfCheck path) text none = used_once (codes "lanes") reading.WithoutMinus CommandLine (text ∷ []) rows none

  pub order_used : (text : Text) → has_row (codes "order") rows ≡ false → settled_rows (rules OfRun) (Some (codes "order", text ∷ [])) rows ≡ rows ++ order_row text ∷ []
  order_used text none = used_once (codes "order") reading.AsWritten CommandLine (text ∷ []) rows none

  pub profile_used : (reader : Reader) (text : Text) → has_row (codes "profile") rows ≡ false
      → settled_rows (rules reader) (Some (codes "profile", text ∷ [])) rows ≡ rows ++ profile_row text ∷ []
  profile_used OfRun text none = used_once (codes "profile") reading.WithoutMinus CommandLine (text ∷ []) rows none
  profile_used (OfCheck path) text none = used_once (codes "profile") reading.WithoutMinus CommandLine (text ∷ []) rows none

  pub merge_used : has_row (codes "merge") rows ≡ false → used (filled (flag_option (codes "merge"))) [] rows ≡ rows ++ flag_row (codes "merge") ∷ []
  merge_used none = used_once (codes "merge") reading.AsWritten CommandLine (codes "true" ∷ []) rows none

  pub trace_used : has_row (codes "trace") rows ≡ false → used (filled (flag_option (codes "trace"))) [] rows ≡ rows ++ flag_row (codes "trace") ∷ []
  trace_used none = used_once (codes "trace") reading.AsWritten CommandLine (codes "true" ∷ []) rows none

-- ---- the turn of one word

module _ (rows : List Row) (pending : Pending) where
  abbrev pub after : Reader → List Row
  after reader = settled_rows (rules reader) pending rows

  pub lanes_walk : (reader : Reader) → walked (rules reader) [] (between reader rows pending idle) (codes "--lanes") ≡ between reader (after reader) (Some (codes "lanes", [])) (option (codes "lanes"))
  unfolding clap_on_literals
  lanes_walk OfRun = refl
  lanes_walk (OfCheck path) = refl

  pub profile_walk : (reader : Reader) → walked (rules reader) [] (between reader rows pending idle) (codes "--profile") ≡ between reader (after reader) (Some (codes "profile", [])) (option (codes "profile"))
  unfolding clap_on_literals
  profile_walk OfRun = refl
  profile_walk (OfCheck path) = refl

  pub order_walk : walked (rules OfRun) [] (between OfRun rows pending idle) (codes "--order") ≡ between OfRun (after OfRun) (Some (codes "order", [])) (option (codes "order"))
  unfolding clap_on_literals
  order_walk = refl

  pub merge_walk : (reader : Reader) → walked (rules reader) [] (between reader rows pending idle) (codes "--merge")
      ≡ between reader (used (filled (flag_option (codes "merge"))) [] (after reader)) None idle
  unfolding clap_on_literals
  merge_walk OfRun = refl
  merge_walk (OfCheck path) = refl

  pub trace_walk : walked (rules OfRun) [] (between OfRun rows pending idle) (codes "--trace") ≡ between OfRun (used (filled (flag_option (codes "trace"))) [] (after OfRun)) None idle
  unfolding clap_on_literals
  trace_walk = refl

  pub lanes_turn : (reader : Reader) → settle_fault (rules reader) false (held rows pending) ≡ [] → turn_fault (top reader) [] (between reader rows pending idle) (codes "--lanes") ≡ []
  unfolding clap_on_literals
  lanes_turn OfRun settles = ap (λ (k : Kinds). or_else k []) settles
  lanes_turn (OfCheck path) settles = ap (λ (k : Kinds). or_else k []) settles

  pub profile_turn : (reader : Reader) → settle_fault (rules reader) false (held rows pending) ≡ [] → turn_fault (top reader) [] (between reader rows pending idle) (codes "--profile") ≡ []
  unfolding clap_on_literals
  profile_turn OfRun settles = ap (λ (k : Kinds). or_else k []) settles
  profile_turn (OfCheck path) settles = ap (λ (k : Kinds). or_else k []) settles

  pub order_turn : settle_fault (rules OfRun) false (held rows pending) ≡ [] → turn_fault (top OfRun) [] (between OfRun rows pending idle) (codes "--order") ≡ []
  unfolding clap_on_literals
  order_turn settles = ap (λ (k : Kinds). or_else k []) settles

  pub merge_turn : (reader : Reader) → settle_fault (rules reader) false (held rows pending) ≡ [] → has_row (codes "merge") (after reader) ≡ false
      → turn_fault (top reader) [] (between reader rows pending idle) (codes "--merge") ≡ []
  unfolding clap_on_literals
  merge_turn OfRun settles none = ap₂ (λ (k l : Kinds). or_else (or_else k l) []) settles (repeated (has_row (codes "merge") (after OfRun)) [] none refl)
  merge_turn (OfCheck path) settles none = ap₂ (λ (k l : Kinds). or_else (or_else k l) []) settles (repeated (has_row (codes "merge") (after (OfCheck path))) [] none refl)

  pub trace_turn : settle_fault (rules OfRun) false (held rows pending) ≡ [] → has_row (codes "trace") (after OfRun) ≡ false
      → turn_fault (top OfRun) [] (between OfRun rows pending idle) (codes "--trace") ≡ []
  unfolding clap_on_literals
  trace_turn settles none = ap₂ (λ (k l : Kinds). or_else (or_else k l) []) settles (repeated (has_row (codes "trace") (after OfRun)) [] none refl)

-- the word is the value of the option that waits for it
module _ (rows : List Row) where
  pub lanes_value : (reader : Reader) (text : Text) → IsValue text
      → walked (rules reader) [] (between reader rows (Some (codes "lanes", [])) (option (codes "lanes"))) text ≡ between reader rows (Some (codes "lanes", text ∷ [])) idle
  unfolding clap_on_literals
  lanes_value reader [] value = absurd value
  lanes_value OfRun (byte ∷ bytes) value = rw (value, not_short byte bytes value) refl
  lanes_value (OfCheck path) (byte ∷ bytes) value = rw (value, not_short byte bytes value) refl

  pub profile_value : (reader : Reader) (text : Text) → IsValue text
      → walked (rules reader) [] (between reader rows (Some (codes "profile", [])) (option (codes "profile"))) text ≡ between reader rows (Some (codes "profile", text ∷ [])) idle
  unfolding clap_on_literals
  profile_value reader [] value = absurd value
  profile_value OfRun (byte ∷ bytes) value = rw (value, not_short byte bytes value) refl
  profile_value (OfCheck path) (byte ∷ bytes) value = rw (value, not_short byte bytes value) refl

  pub order_value : (text : Text) → IsValue text
      → walked (rules OfRun) [] (between OfRun rows (Some (codes "order", [])) (option (codes "order"))) text ≡ between OfRun rows (Some (codes "order", text ∷ [])) idle
  unfolding clap_on_literals
  order_value [] value = absurd value
  order_value (byte ∷ bytes) value = rw (value, not_short byte bytes value) refl

  pub lanes_value_turn : (reader : Reader) (text : Text) → IsValue text
      → turn_fault (top reader) [] (between reader rows (Some (codes "lanes", [])) (option (codes "lanes"))) text ≡ []
  unfolding clap_on_literals
  lanes_value_turn reader [] value = absurd value
  lanes_value_turn OfRun (byte ∷ bytes) value = rw (value, not_short byte bytes value) refl
  lanes_value_turn (OfCheck path) (byte ∷ bytes) value = rw (value, not_short byte bytes value) refl

  pub profile_value_turn : (reader : Reader) (text : Text) → IsValue text
      → turn_fault (top reader) [] (between reader rows (Some (codes "profile", [])) (option (codes "profile"))) text ≡ []
  unfolding clap_on_literals
  profile_value_turn reader [] value = absurd value
  profile_value_turn OfRun (byte ∷ bytes) value = rw (value, not_short byte bytes value) refl
  profile_value_turn (OfCheck path) (byte ∷ bytes) value = rw (value, not_short byte bytes value) refl

  pub order_value_turn : (text : Text) → IsValue text → turn_fault (top OfRun) [] (between OfRun rows (Some (codes "order", [])) (option (codes "order"))) text ≡ []
  unfolding clap_on_literals
  order_value_turn [] value = absurd value
  order_value_turn (byte ∷ bytes) value = rw (value, not_short byte bytes value) refl

-- ---- the path before the options

pub path_walk : (path : Text) → IsValue path → walked (rules (OfCheck path)) [] (before [] None 1 idle) path ≡ between (OfCheck path) [] (pending_first (OfCheck path)) idle
unfolding clap_on_literals
path_walk [] value = absurd value
path_walk (byte ∷ bytes) value = rw (value, not_short byte bytes value) refl

pub path_turn : (path : Text) → IsValue path → turn_fault (top (OfCheck path)) [] (before [] None 1 idle) path ≡ []
unfolding clap_on_literals
path_turn [] value = absurd value
path_turn (byte ∷ bytes) value = rw (value, not_short byte bytes value) refl
