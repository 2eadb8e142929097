-- What the words of a command line mean, as clap reads them.
use Rattle.std.specs.Prelude.{ℕ, ◌^◌, ◌≡◌, ◌<◌, ◌≤◌, ◌&&◌, pos, Bool, true, false, if◌then◌else◌, List, [], ◌∷◌, bytes_eq, codes, length, map, nat_le, nat_lt, string_bytes, Option, Some, None, option_and_then, option_map, unwrap_or}
use Rattle.std.specs.Option.{option_map_or}
use Rattle.std.specs.Str.Parse.{digits_value, without_leading_plus}
use Rattle.clap.specs.Walk.{Row, Rule, all_of, first_of, one_of}
use Rattle.clap.specs.Simple.{App, matches_of, new_app, new_rule, on_top, with_rule}
use Rattle.clap.specs.Faults.{fault_of}
use Rattle.clap.specs.Kinds.{Kinds}
use Rattle.clap.specs.ValueTests.{is_numeral}
use Rattle.clap.specs.declared.builder.action.ArgAction.TheVariants.{Append, Set, SetTrue}
use Rattle.clap.specs.declared.builder.value_parser.ValueParser.{ValueParser}
use Rattle.clap.specs.declared.builder.value_parser.ValueParser.TheVariants.{Signed}
use Rattle.clap.specs.declared.error.kind.ErrorKind.{ErrorKind}
use Rattle.clap.specs.declared.error.kind.ErrorKind.TheVariants as kind
use Rattle.lake_model.specs.Texts.{Text}
use Rattle.lake_model.specs.declared.Keys.{Keys}
use Rattle.script_model.specs.Options.{Options, options_with}
use Rattle.option_model.specs.Ranges.{AreInRange}
use Rattle.option_model.specs.Plain as model
use Rattle.command_line.specs.declared.words.Mode.{Mode}
use Rattle.command_line.specs.declared.words.Mode.TheVariants.{Run, Make, Watch, Check}
use Rattle.command_line.specs.declared.words.WordsRefused.{WordsRefused}
use Rattle.command_line.specs.declared.words.WordsRefused.TheVariants as refused

abbrev pub mode_of : Mode → model.Mode
mode_of (Run options) = model.Run options
mode_of (Make seed tables rows) = model.Make seed tables rows
mode_of (Watch k paths) = model.Watch k (map string_bytes paths.items)
mode_of (Check trace options) = model.Check (string_bytes trace) options

abbrev pub IsModeInRange : model.Mode → Type 0
IsModeInRange (model.Run options) = AreInRange options
IsModeInRange (model.Make seed tables rows) = (seed < 2 ^ 32) × (1 ≤ tables) × (tables ≤ 1000) × (1 ≤ rows) × (rows ≤ 5000)
IsModeInRange (model.Watch k paths) = (1 ≤ k) × (k ≤ 10000) × (1 ≤ length paths) × (length paths ≤ 16)
IsModeInRange (model.Check trace options) = AreInRange options × (options.trace ≡ true)

abbrev pub refusal_by : ErrorKind → WordsRefused
refusal_by kind.OutOfMemory = refused.NoMemory
refusal_by _ = refused.Usage

-- ---- the commands with which clap reads the words after a mode

-- a number in a range
abbrev pub between : ℕ → ℕ → ValueParser
between least most = Signed (pos least) (pos most)

abbrev pub lanes_option : Rule
lanes_option = record (new_rule (codes "lanes")) { long = Some (codes "lanes"); action = Some Set; parser = Some (between 1 16) }

abbrev pub order_option : Rule
order_option = record (new_rule (codes "order")) { long = Some (codes "order"); action = Some Set }

abbrev pub profile_option : Rule
profile_option = record (new_rule (codes "profile")) { long = Some (codes "profile"); action = Some Set; parser = Some (between 1 2) }

abbrev pub flag_option : Text → Rule
flag_option name = record (new_rule name) { long = Some name; action = Some SetTrue }

-- a required argument without a name before it
abbrev pub number_word : Text → ValueParser → Rule
number_word name parser = record (new_rule name) { required = true; action = Some Set; parser = Some parser }

-- the words at the end, at least one of them, each a path
abbrev pub path_words : Rule
path_words = record (new_rule (codes "path")) { required = true; action = Some Append }

-- one required word, a path
abbrev pub path_word : Rule
path_word = record (new_rule (codes "path")) { required = true; action = Some Set }

-- all words are arguments, and neither help nor a version is among them
abbrev pub bare : Text → App
bare name = on_top (λ shape. record shape { no_binary_name = true; disable_help_flag = true; disable_version_flag = true }) (new_app name)

abbrev pub run_command : App
run_command = with_rule (with_rule (with_rule (with_rule (with_rule (bare (codes "run"))
    lanes_option) order_option) (flag_option (codes "merge"))) (flag_option (codes "trace"))) profile_option

abbrev pub make_command : App
make_command = with_rule (with_rule (with_rule (bare (codes "make"))
    (number_word (codes "seed") (between 0 4294967295))) (number_word (codes "tables") (between 1 1000))) (number_word (codes "rows") (between 1 5000))

abbrev pub watch_command : App
watch_command = with_rule (with_rule (bare (codes "watch")) (number_word (codes "k") (between 1 10000))) path_words

-- the path of the trace, and the options of `run` without an order and a trace
abbrev pub check_command : App
check_command = with_rule (with_rule (with_rule (with_rule (bare (codes "check"))
    path_word) lanes_option) (flag_option (codes "merge"))) profile_option

-- ---- what clap's matches hold

abbrev pub flag_of : Text → List Row → Bool
flag_of id matches = option_map_or (λ text. bytes_eq text (codes "true")) (one_of id matches) false

-- the 32-bit number that the text is read as
abbrev pub number_read : Text → Option ℕ
number_read text =
    let digits = without_leading_plus text in
    if is_numeral digits && nat_lt (digits_value 10 digits) (2 ^ 32) then Some (digits_value 10 digits) else None

abbrev pub number_held : Text → List Row → Option ℕ
number_held id matches = option_and_then number_read (one_of id matches)

-- the order that the text states, if there is one; none if it breaks the rule of orders
abbrev pub order_stated : ℕ → Bool → Option Text → Option (Option (List (List ℕ)))
order_stated lanes merge None = Some None
order_stated lanes merge (Some text) = option_map Some (model.order_of lanes merge text)

-- the kind of keys of the profile, which is 1 if none is given
abbrev pub keys_held : List Row → Keys
keys_held matches = model.keys_of_profile (unwrap_or (number_held (codes "profile") matches) 1)

abbrev pub options_held : List Row → Option Options
options_held matches =
    let lanes = unwrap_or (number_held (codes "lanes") matches) 1 in
    let merge = flag_of (codes "merge") matches in
    option_map (λ order. options_with lanes order merge (flag_of (codes "trace") matches) (keys_held matches))
    (order_stated lanes merge (first_of (codes "order") matches))

-- none if clap reports a fault
abbrev pub held_without : {X : Type 0} → Kinds → Option X → Option X
held_without [] held = held
held_without (fault ∷ faults) held = None

abbrev pub run_words : List Text → Option Options
run_words words = held_without (fault_of run_command words) (options_held (matches_of run_command words))

abbrev pub make_held : List Row → Option model.Mode
make_held matches = model.make_with (number_held (codes "seed") matches) (number_held (codes "tables") matches) (number_held (codes "rows") matches)

abbrev pub make_words : List Text → Option model.Mode
make_words words = held_without (fault_of make_command words) (make_held (matches_of make_command words))

-- the paths, if there are 1 to 16
abbrev pub paths_held : List Row → Option (List Text)
paths_held matches =
    let paths = unwrap_or (all_of (codes "path") matches) [] in
    if nat_le 1 (length paths) && nat_le (length paths) 16 then Some paths else None

abbrev pub watch_of : Option ℕ → Option (List Text) → Option model.Mode
watch_of None paths = None
watch_of (Some k) None = None
watch_of (Some k) (Some paths) = Some (model.Watch k paths)

abbrev pub watch_held : List Row → Option model.Mode
watch_held matches = watch_of (number_held (codes "k") matches) (paths_held matches)

abbrev pub watch_words : List Text → Option model.Mode
watch_words words = held_without (fault_of watch_command words) (watch_held (matches_of watch_command words))

-- the options of the run whose trace is checked: it had no stated order, and wrote a trace
abbrev pub options_checked : List Row → Options
options_checked matches = options_with (unwrap_or (number_held (codes "lanes") matches) 1) None (flag_of (codes "merge") matches) true (keys_held matches)

abbrev pub check_held : List Row → Option model.Mode
check_held matches = option_map (λ path. model.Check path (options_checked matches)) (first_of (codes "path") matches)

abbrev pub check_words : List Text → Option model.Mode
check_words words = held_without (fault_of check_command words) (check_held (matches_of check_command words))

-- whether the first word is a mode
abbrev pub names_mode : List Text → Bool
names_mode [] = false
names_mode (word ∷ words) =
    if bytes_eq word (codes "run") then true
    else if bytes_eq word (codes "make") then true
    else if bytes_eq word (codes "watch") then true
    else bytes_eq word (codes "check")

-- the mode of the words: none if the first is no mode, clap refuses the words after it, the order breaks its rule, or
-- there are more than 16 paths
abbrev pub mode_read : List Text → Option model.Mode
mode_read [] = None
mode_read (word ∷ words) =
    if bytes_eq word (codes "run") then option_map model.Run (run_words words)
    else if bytes_eq word (codes "make") then make_words words
    else if bytes_eq word (codes "watch") then watch_words words
    else if bytes_eq word (codes "check") then check_words words
    else None
