-- The plain words of a command line, after the program's name, and the mode that they state.
use Rattle.std.specs.Prelude.{ℕ, ◌==◌, Bool, true, false, ◌&&◌, ◌||◌, not, if◌then◌else◌, List, [], ◌∷◌, length, map, bytes_eq, codes, nat_le, Option, Some, None, option_and_then, option_map, is_some}
use Rattle.std.specs.List.{list_all, slice_split}
use Rattle.lake_model.specs.Texts.{Text}
use Rattle.lake_model.specs.declared.Keys.{Keys}
use Rattle.lake_model.specs.declared.Keys.TheVariants.{Canonical, Compatibility}
use Rattle.script_model.specs.Words.{number, number_or_zero}
use Rattle.script_model.specs.Options.{Options, options_with}

-- a script is run with these options; or a lake is made from a seed, with this number of tables and of rows in each; or
-- the first k rows of the queries in these files are watched while a script changes a lake; or the trace in a file is
-- checked as that of a run of a script with these options
pub data Mode : Type 0 where
  Run : (options : Options) → Mode
  Make : (seed tables rows : ℕ) → Mode
  Watch : (k : ℕ) (paths : List Text) → Mode
  Check : (trace : Text) (options : Options) → Mode

-- all of them, if each is there
abbrev pub all_there : {X : Type 0} → List (Option X) → Option (List X)
all_there [] = Some []
all_there (None ∷ others) = None
all_there (Some x ∷ others) = option_map (λ xs. x ∷ xs) (all_there others)

-- ---- a stated order: pieces separated by `/`, each of them empty, or lane numbers separated by `,`

-- 0 is the merger, if there is one
abbrev pub lane_number : ℕ → Bool → Text → Option ℕ
lane_number lanes merge text = if merge then number_or_zero lanes text else number lanes text

abbrev pub piece_of : ℕ → Bool → Text → Option (List ℕ)
piece_of lanes merge [] = Some []
piece_of lanes merge (byte ∷ bytes) = all_there (map (lane_number lanes merge) (slice_split (λ b. b == 0x2C) (byte ∷ bytes)))

abbrev pub order_of : ℕ → Bool → Text → Option (List (List ℕ))
order_of lanes merge text = all_there (map (piece_of lanes merge) (slice_split (λ b. b == 0x2F) text))

-- ---- the words after `run`

-- what the words so far gave
pub record Given : Type 0 where
  pub lanes : Option Text
  pub order : Option Text
  pub merge : Bool
  pub trace : Bool
  pub profile : Option Text

abbrev pub nothing_given : Given
nothing_given = record { lanes = None; order = None; merge = false; trace = false; profile = None }

-- the arguments, each at most once
pub data Argument : Type 0 where
  LanesValue OrderValue MergeFlag TraceFlag ProfileValue NoArgument : Argument

abbrev pub argument_of : Given → Text → Argument
argument_of given word =
    if bytes_eq word (codes "--lanes") && not (is_some given.lanes) then LanesValue
    else if bytes_eq word (codes "--order") && not (is_some given.order) then OrderValue
    else if bytes_eq word (codes "--merge") && not given.merge then MergeFlag
    else if bytes_eq word (codes "--trace") && not given.trace then TraceFlag
    else if bytes_eq word (codes "--profile") && not (is_some given.profile) then ProfileValue
    else NoArgument

-- whether an argument's value has to come next; a word that is no argument refuses the whole line
pub data Awaited : Type 0 where
  NoValue LanesNext OrderNext ProfileNext Refused : Awaited

pub record Taken : Type 0 where
  pub given : Given
  pub awaited : Awaited

abbrev pub taken : Given → Awaited → Taken
taken given awaited = record { given = given; awaited = awaited }

abbrev pub take_argument : Given → Argument → Taken
take_argument given LanesValue = taken given LanesNext
take_argument given OrderValue = taken given OrderNext
take_argument given MergeFlag = taken (record given { merge = true }) NoValue
take_argument given TraceFlag = taken (record given { trace = true }) NoValue
take_argument given ProfileValue = taken given ProfileNext
take_argument given NoArgument = taken given Refused

abbrev pub take_word : Given → Awaited → Text → Taken
take_word given NoValue word = take_argument given (argument_of given word)
take_word given LanesNext word = taken (record given { lanes = Some word }) NoValue
take_word given OrderNext word = taken (record given { order = Some word }) NoValue
take_word given ProfileNext word = taken (record given { profile = Some word }) NoValue
take_word given Refused word = taken given Refused

abbrev pub take_words : Given → Awaited → List Text → Taken
take_words given awaited [] = taken given awaited
take_words given awaited (word ∷ words) = let next = take_word given awaited word in take_words next.given next.awaited words

-- 1 to 16 lanes, and 1 if no word gives a number
abbrev pub lanes_said : Option Text → Option ℕ
lanes_said None = Some 1
lanes_said (Some text) = number 16 text

-- a stated order is not the empty word
abbrev pub order_said : ℕ → Bool → Option Text → Option (Option (List (List ℕ)))
order_said lanes merge None = Some None
order_said lanes merge (Some []) = None
order_said lanes merge (Some (byte ∷ bytes)) = option_map Some (order_of lanes merge (byte ∷ bytes))

-- profile 2 compares values by their compatibility forms
abbrev pub keys_of_profile : ℕ → Keys
keys_of_profile profile = if profile == 2 then Compatibility else Canonical

-- profile 1 or 2, and 1 if no word gives one
abbrev pub profile_said : Option Text → Option ℕ
profile_said None = Some 1
profile_said (Some text) = number 2 text

abbrev pub options_of : Given → Option ℕ → Option ℕ → Option Options
options_of given None profile = None
options_of given (Some lanes) None = None
options_of given (Some lanes) (Some profile) = option_map (λ order. options_with lanes order given.merge given.trace (keys_of_profile profile)) (order_said lanes given.merge given.order)

abbrev pub run_options : Given → Awaited → Option Options
run_options given NoValue = options_of given (lanes_said given.lanes) (profile_said given.profile)
run_options given LanesNext = None
run_options given OrderNext = None
run_options given ProfileNext = None
run_options given Refused = None

-- ---- the words after `make`: a seed, a number of tables, and a number of rows

abbrev pub make_with : Option ℕ → Option ℕ → Option ℕ → Option Mode
make_with (Some seed) (Some tables) (Some rows) = Some (Make seed tables rows)
make_with seed tables rows = None

abbrev pub make_mode : List Text → Option Mode
make_mode (seed ∷ tables ∷ rows ∷ []) = make_with (number_or_zero 4294967295 seed) (number 1000 tables) (number 5000 rows)
make_mode words = None

-- ---- the words after `watch`: the number of rows watched of each query, and the paths of the files with the queries

-- a path is not empty, and does not begin with `-`
abbrev pub is_path : Text → Bool
is_path [] = false
is_path (byte ∷ bytes) = not (byte == 0x2D)

abbrev pub watch_with : List Text → Option ℕ → Option Mode
watch_with paths None = None
watch_with paths (Some k) = if list_all is_path paths && nat_le (length paths) 16 then Some (Watch k paths) else None

-- 1 to 10,000 rows, and 1 to 16 paths
abbrev pub watch_mode : List Text → Option Mode
watch_mode (k ∷ path ∷ paths) = watch_with (path ∷ paths) (number 10000 k)
watch_mode words = None

-- ---- the words after `check`: the path of the file with the trace, then options, but neither an order nor a trace

-- the options of a run whose trace is checked: it had no stated order, and wrote a trace
abbrev pub checked_options : Options → Option Options
checked_options options = if is_some options.order || options.trace then None else Some (record options { trace = true })

abbrev pub check_with : Text → Option Options → Option Mode
check_with trace options = if is_path trace then option_map (Check trace) (option_and_then checked_options options) else None

abbrev pub check_mode : List Text → Option Mode
check_mode (trace ∷ words) = let taken = take_words nothing_given NoValue words in check_with trace (run_options taken.given taken.awaited)
check_mode words = None

-- ---- the mode

abbrev pub run_mode : Taken → Option Mode
run_mode taken = option_map Run (run_options taken.given taken.awaited)

-- the mode of plain words; none if the words are not plain
abbrev pub plain_mode : List Text → Option Mode
plain_mode [] = None
plain_mode (word ∷ words) =
    if bytes_eq word (codes "run") then run_mode (take_words nothing_given NoValue words)
    else if bytes_eq word (codes "make") then make_mode words
    else if bytes_eq word (codes "watch") then watch_mode words
    else if bytes_eq word (codes "check") then check_mode words
    else None
