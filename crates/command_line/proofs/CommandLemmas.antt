-- The results of clap's calls for the commands of the modes.
use Rattle.std.proofs.Common.{◌≡◌, ◌⊎◌, ◌≤◌, ◌∙◌, ap, ap₂, refl, sym, subst, inl, inr, ℕ, List, [], ◌∷◌, Bool, true, false, ◌&&◌, cond, codes, length, map, Option, Some, None, option_map, Result, Ok, Err, IfOk, arith}
use Rattle.std.specs.Prelude.{⊤, IfErr, MatchOption, nat_le, ok_or, unwrap_or}
use Rattle.std.specs.Borrow.{Bor}
use Rattle.std.specs.List.{AllByRecursion}
use Rattle.std.proofs.lemmas.Bool.{and_parts, leb-true}
use Rattle.std.proofs.lemmas.List.{length-map}
use Rattle.clap.specs.Built.{AddsArg, IsParsedFrom}
use Rattle.clap.specs.Faults.{fault_of, is_free_app, is_simple_and_free}
use Rattle.clap.specs.Kinds.{IsAmong, Kinds}
use Rattle.clap.specs.Matches.{found_of}
use Rattle.clap.specs.Simple.{App, app_of, built, is_simple, matches_of, with_rule}
use Rattle.clap.specs.Walk.{Row, Rule, Text, all_of, first_of, rows_of, rule_of}
use Rattle.clap.specs.declared.builder.arg.Arg.{Arg}
use Rattle.clap.specs.declared.builder.command.Command.{Command}
use Rattle.clap.specs.declared.error.kind.ErrorKind.{ErrorKind}
use Rattle.clap.specs.declared.error.kind.ErrorKind.TheVariants as kind
use Rattle.clap.specs.declared.parser.matches.ArgMatches.{ArgMatches}
use Rattle.clap.proofs.OnLiterals.{clap_on_literals}
use Rattle.lake_model.specs.declared.Keys.{Keys}
use Rattle.script_model.specs.Options.{Options, options_with}
use Rattle.option_model.specs.Plain as model
use Rattle.option_model.specs.Plain.{order_of}
use Rattle.option_model.specs.Ranges.{AreInRange, IsPieceOf}
use Rattle.command_line.specs.Words.{between, check_command, check_held, flag_of, held_without, keys_held, lanes_option, IsModeInRange, make_command, make_held, mode_of, number_held, number_word, options_checked, options_held, order_stated, paths_held, refusal_by, run_command, watch_command, watch_held, watch_of}
use Rattle.command_line.specs.declared.words.Mode.{Mode}
use Rattle.command_line.specs.declared.words.WordsRefused.{WordsRefused}
use Rattle.command_line.specs.declared.words.WordsRefused.TheVariants as refused
use Rattle.command_line.proofs.OrderLemmas.{order_in_range}
use Rattle.command_line.proofs.ParsedLemmas.{number_in_range}

-- ---- the commands

-- a command with one more argument
pub with_arg : (old new : Command) (arg : Arg) (app : App) (rule : Rule) → AddsArg old arg new → app_of old ≡ app → arg.global ≡ false → rule_of arg ≡ rule
    → app_of new ≡ with_rule app rule
with_arg old new arg app rule adds is local rule_is = adds.shape local ∙ ap₂ with_rule is rule_is

pub run_is_free : is_simple_and_free run_command ≡ true
unfolding clap_on_literals
run_is_free = refl

pub make_is_free : is_simple_and_free make_command ≡ true
unfolding clap_on_literals
make_is_free = refl

pub watch_is_free : is_simple_and_free watch_command ≡ true
unfolding clap_on_literals
watch_is_free = refl

pub check_is_free : is_simple_and_free check_command ≡ true
unfolding clap_on_literals
check_is_free = refl

-- ---- what a parse gives

-- what the matches hold is what the words state
pub said_by : {X Y : Type 0} (command app : App) (held : List Row → Option X) (words : List Text) (matches : List Row) → is_simple_and_free command ≡ true → app ≡ command
    → (is_simple app ≡ true → (matches ≡ matches_of app words) × Y) → (is_simple_and_free app ≡ true → fault_of app words ≡ [])
    → held matches ≡ held_without (fault_of command words) (held (matches_of command words))
said_by {X} {Y} command app held words matches free is found taken =
    let no_fault : fault_of command words ≡ [] = subst (λ (a : App). is_simple_and_free a ≡ true → fault_of a words ≡ []) is taken free in
    let simple : is_simple command ≡ true = (and_parts (is_simple command) (is_free_app (built command)) free).0 in
    let rows : matches ≡ matches_of command words = (subst (λ (a : App). is_simple a ≡ true → (matches ≡ matches_of a words) × Y) is found simple).0 in
    ap held rows ∙ ap (λ (k : Kinds). held_without k (held (matches_of command words))) (sym no_fault)

refused_by : {X : Type 0} (faults : Kinds) (held : Option X) (what : ErrorKind) → (what ≡ kind.OutOfMemory) ⊎ IsAmong what faults
    → (refusal_by what ≡ refused.NoMemory) ⊎ (held_without faults held ≡ None)
refused_by [] held what (inl e) = inl (ap refusal_by e)
refused_by [] held what (inr none) = absurd none
refused_by (fault ∷ faults) held what e = inr refl

-- an error other than that memory runs out is returned only if there is a fault
pub refused_for : {X : Type 0} (command app : App) (held : List Row → Option X) (words : List Text) (what : ErrorKind) → is_simple_and_free command ≡ true → app ≡ command
    → (is_simple_and_free app ≡ true → (what ≡ kind.OutOfMemory) ⊎ IsAmong what (fault_of app words))
    → (refusal_by what ≡ refused.NoMemory) ⊎ (held_without (fault_of command words) (held (matches_of command words)) ≡ None)
refused_for command app held words what free is given = refused_by (fault_of command words) (held (matches_of command words)) what
    (subst (λ (a : App). is_simple_and_free a ≡ true → (what ≡ kind.OutOfMemory) ⊎ IsAmong what (fault_of a words)) is given free)

-- ---- the options of matches

pub options_are : (matches : List Row) (lanes : ℕ) (merge trace : Bool) (keys : Keys) (text : Option Text) → lanes ≡ unwrap_or (number_held (codes "lanes") matches) 1
    → merge ≡ flag_of (codes "merge") matches → trace ≡ flag_of (codes "trace") matches → keys ≡ keys_held matches → text ≡ first_of (codes "order") matches
    → option_map (λ order. options_with lanes order merge trace keys) (order_stated lanes merge text) ≡ options_held matches
options_are matches lanes merge trace keys text lanes_is merge_is trace_is keys_are text_is =
    let f = λ (l : ℕ) (m t : Bool) (k : Keys) (o : Option Text). option_map (λ order. options_with l order m t k) (order_stated l m o) in
    ap₂ (λ (l : ℕ) (m : Bool). f l m trace keys text) lanes_is merge_is
    ∙ ap₂ (λ (t : Bool) (k : Keys). f (unwrap_or (number_held (codes "lanes") matches) 1) (flag_of (codes "merge") matches) t k text) trace_is keys_are
    ∙ ap (λ (o : Option Text). f (unwrap_or (number_held (codes "lanes") matches) 1) (flag_of (codes "merge") matches) (flag_of (codes "trace") matches) (keys_held matches) o) text_is

-- if the order breaks its rule there are no options
pub no_options : (matches : List Row) (lanes : ℕ) (merge : Bool) (text : Option Text) (e : WordsRefused) → lanes ≡ unwrap_or (number_held (codes "lanes") matches) 1
    → merge ≡ flag_of (codes "merge") matches → text ≡ first_of (codes "order") matches
    → (e ≡ refused.NoMemory) ⊎ (order_stated lanes merge text ≡ None) → (e ≡ refused.NoMemory) ⊎ (options_held matches ≡ None)
no_options matches lanes merge text e lanes_is merge_is text_is (inl memory) = inl memory
no_options matches lanes merge text e lanes_is merge_is text_is (inr none) =
    let trace = flag_of (codes "trace") matches in
    inr (sym (options_are matches lanes merge trace (keys_held matches) text lanes_is merge_is refl refl text_is)
    ∙ ap (option_map (λ order. options_with lanes order merge trace (keys_held matches))) none)

-- ---- ranges

order_keeps : (lanes : ℕ) (merge : Bool) (text : Option Text) (order : Option (List (List ℕ))) → order_stated lanes merge text ≡ Some order
    → MatchOption order ⊤ (λ pieces. AllByRecursion (IsPieceOf lanes merge) pieces)
order_keeps lanes merge text None e = tt
order_keeps lanes merge None (Some pieces) e = cc e
order_keeps lanes merge (Some text) (Some pieces) e = by (order_of lanes merge text) refl e
  where
    by : (o : Option (List (List ℕ))) → order_of lanes merge text ≡ o → option_map Some o ≡ Some (Some pieces) → AllByRecursion (IsPieceOf lanes merge) pieces
    by None is e = cc e
    by (Some found) is e =
        let same : found ≡ pieces = cc e in
        subst (AllByRecursion (IsPieceOf lanes merge)) same (order_in_range lanes merge text found is)

options_keep : (lanes : ℕ) (merge trace : Bool) (keys : Keys) (text : Option Text) (options : Options) → (1 ≤ lanes) × (lanes ≤ 16)
    → option_map (λ order. options_with lanes order merge trace keys) (order_stated lanes merge text) ≡ Some options → AreInRange options
options_keep lanes merge trace keys text options bounds e = by (order_stated lanes merge text) refl e
  where
    by : (o : Option (Option (List (List ℕ)))) → order_stated lanes merge text ≡ o → option_map (λ order. options_with lanes order merge trace keys) o ≡ Some options → AreInRange options
    by None is e = cc e
    by (Some order) is e =
        let same : options_with lanes order merge trace keys ≡ options = cc e in
        subst AreInRange same (record { low = bounds.0; high = bounds.1; order = order_keeps lanes merge text order is })

one_or_more : (number : Option ℕ) → ((n : ℕ) → number ≡ Some n → (1 ≤ n) × (n ≤ 16)) → (1 ≤ unwrap_or number 1) × (unwrap_or number 1 ≤ 16)
one_or_more None bounds = (omega arith, omega arith)
one_or_more (Some n) bounds = bounds n refl

-- the options that a parse gives are in range
pub options_in_range : (cmd : Command) (m : ArgMatches) → IsParsedFrom cmd m → app_of cmd ≡ run_command → (options : Options)
    → options_held (rows_of (found_of m)) ≡ Some options → AreInRange options
options_in_range cmd m p is options e =
    let matches = rows_of (found_of m) in
    let lanes = one_or_more (number_held (codes "lanes") matches) (number_in_range cmd m p run_command is refl 0 lanes_option refl refl refl 1 16 refl (omega arith)) in
    options_keep (unwrap_or (number_held (codes "lanes") matches) 1) (flag_of (codes "merge") matches) (flag_of (codes "trace") matches) (keys_held matches) (first_of (codes "order") matches) options lanes e

pub ok_more : {X E : Type 0} (r : Result X E) (P Q : X → Type 0) → ((x : X) → P x → Q x) → IfOk r P → IfOk r Q
ok_more (Ok x) P Q more p = more x p
ok_more (Err e) P Q more p = tt

-- and so are the numbers of `make`
make_keeps : (seed tables rows : Option ℕ) (mode : model.Mode) → ((n : ℕ) → seed ≡ Some n → (0 ≤ n) × (n ≤ 4294967295)) → ((n : ℕ) → tables ≡ Some n → (1 ≤ n) × (n ≤ 1000))
    → ((n : ℕ) → rows ≡ Some n → (1 ≤ n) × (n ≤ 5000)) → model.make_with seed tables rows ≡ Some mode → IsModeInRange mode
make_keeps None tables rows mode a b c e = cc e
make_keeps (Some s) None rows mode a b c e = cc e
make_keeps (Some s) (Some t) None mode a b c e = cc e
make_keeps (Some s) (Some t) (Some r) mode a b c e =
    let same : model.Make s t r ≡ mode = cc e in
    subst IsModeInRange same (omega (arith, a s refl), (b t refl).0, (b t refl).1, (c r refl).0, (c r refl).1)

make_in_range : (cmd : Command) (m : ArgMatches) → IsParsedFrom cmd m → app_of cmd ≡ make_command → (mode : model.Mode) → make_held (rows_of (found_of m)) ≡ Some mode → IsModeInRange mode
make_in_range cmd m p is mode e =
    let matches = rows_of (found_of m) in
    make_keeps (number_held (codes "seed") matches) (number_held (codes "tables") matches) (number_held (codes "rows") matches) mode
    (number_in_range cmd m p make_command is refl 0 (number_word (codes "seed") (between 0 4294967295)) refl refl refl 0 4294967295 refl (omega arith))
    (number_in_range cmd m p make_command is refl 1 (number_word (codes "tables") (between 1 1000)) refl refl refl 1 1000 refl (omega arith))
    (number_in_range cmd m p make_command is refl 2 (number_word (codes "rows") (between 1 5000)) refl refl refl 1 5000 refl (omega arith)) e

-- ---- the mode of `make`

pub made_read : (made : Option Mode) (held words : Option model.Mode) → option_map mode_of made ≡ held → held ≡ words → IfOk (ok_or made refused.Usage) (λ mode. words ≡ Some (mode_of mode))
made_read None held words is same = tt
made_read (Some mode) held words is same = sym (is ∙ same)

pub made_refused : (made : Option Mode) (held words : Option model.Mode) → option_map mode_of made ≡ held → held ≡ words
    → IfErr (ok_or made refused.Usage) (λ e. (e ≡ refused.NoMemory) ⊎ (words ≡ None))
made_refused None held words is same = inr (sym (is ∙ same))
made_refused (Some mode) held words is same = tt

pub made_in_range : (cmd : Command) (m : ArgMatches) → IsParsedFrom cmd m → app_of cmd ≡ make_command → (made : Option Mode)
    → option_map mode_of made ≡ make_held (rows_of (found_of m)) → IfOk (ok_or made refused.Usage) (λ mode. IsModeInRange (mode_of mode))
made_in_range cmd m p is None held = tt
made_in_range cmd m p is (Some mode) held = make_in_range cmd m p is (mode_of mode) (sym held)

-- ---- the mode of `watch`

-- the texts of an argument, or none
pub texts_or_none : (texts : Option (Bor (List (Bor Text)))) (none : Bor (List (Bor Text))) → none.now ≡ []
    → map (λ text. text.now) (unwrap_or texts none).now ≡ unwrap_or (option_map (λ s. map (λ text. text.now) s.now) texts) []
texts_or_none None none e = ap (map (λ text. text.now)) e
texts_or_none (Some texts) none e = refl

-- the paths, by the test of how many there are
pub paths_by : (matches : List Row) (texts : List (Bor Text)) (fits : Bool) → map (λ text. text.now) texts ≡ unwrap_or (all_of (codes "path") matches) []
    → (nat_le 1 (length texts) && nat_le (length texts) 16) ≡ fits → paths_held matches ≡ cond fits (Some (map (λ text. text.now) texts)) None
paths_by matches texts fits are test =
    let paths = map (λ (text : Bor Text). text.now) texts in
    ap (λ (ts : List Text). cond (nat_le 1 (length ts) && nat_le (length ts) 16) (Some ts) None) (sym are)
    ∙ ap (λ (n : ℕ). cond (nat_le 1 n && nat_le n 16) (Some paths) None) (length-map texts (λ text. text.now))
    ∙ ap (λ (b : Bool). cond b (Some paths) None) test

no_path : (o : Option ℕ) → watch_of o None ≡ None
no_path None = refl
no_path (Some k) = refl

-- without 1 to 16 paths there is no mode
pub no_paths : (matches : List Row) (e : WordsRefused) → (e ≡ refused.NoMemory) ⊎ (paths_held matches ≡ None) → (e ≡ refused.NoMemory) ⊎ (watch_held matches ≡ None)
no_paths matches e (inl memory) = inl memory
no_paths matches e (inr none) = inr (ap (watch_of (number_held (codes "k") matches)) none ∙ no_path (number_held (codes "k") matches))

watch_keeps : (number : Option ℕ) (paths : List Text) (fits : Bool) (mode : model.Mode) → (nat_le 1 (length paths) && nat_le (length paths) 16) ≡ fits
    → ((n : ℕ) → number ≡ Some n → (1 ≤ n) × (n ≤ 10000)) → watch_of number (cond fits (Some paths) None) ≡ Some mode → IsModeInRange mode
watch_keeps None paths fits mode test bounds e = cc e
watch_keeps (Some k) paths false mode test bounds e = cc e
watch_keeps (Some k) paths true mode test bounds e =
    let same : model.Watch k paths ≡ mode = cc e in
    let parts = and_parts (nat_le 1 (length paths)) (nat_le (length paths) 16) test in
    subst IsModeInRange same ((bounds k refl).0, (bounds k refl).1, leb-true 1 (length paths) parts.0, leb-true (length paths) 16 parts.1)

-- the mode that a parse gives is in range
pub watch_in_range : (cmd : Command) (m : ArgMatches) → IsParsedFrom cmd m → app_of cmd ≡ watch_command → (mode : model.Mode) → watch_held (rows_of (found_of m)) ≡ Some mode → IsModeInRange mode
watch_in_range cmd m p is mode e =
    let matches = rows_of (found_of m) in
    watch_keeps (number_held (codes "k") matches) (unwrap_or (all_of (codes "path") matches) []) _ mode refl
    (number_in_range cmd m p watch_command is refl 0 (number_word (codes "k") (between 1 10000)) refl refl refl 1 10000 refl (omega arith)) e

-- ---- the mode of `check`

-- the mode, by the text of the path
pub check_by : (matches : List Row) (path : Option Text) (options : Options) → path ≡ first_of (codes "path") matches → options ≡ options_checked matches
    → option_map (λ p. model.Check p options) path ≡ check_held matches
check_by matches path options path_is options_are = ap₂ (λ (o : Option Text) (options : Options). option_map (λ p. model.Check p options) o) path_is options_are

check_keeps : (path : Option Text) (options : Options) (mode : model.Mode) → AreInRange options → options.trace ≡ true
    → option_map (λ p. model.Check p options) path ≡ Some mode → IsModeInRange mode
check_keeps None options mode keep on e = cc e
check_keeps (Some path) options mode keep on e =
    let same : model.Check path options ≡ mode = cc e in
    subst IsModeInRange same (keep, on)

-- the mode that a parse gives is in range
pub check_in_range : (cmd : Command) (m : ArgMatches) → IsParsedFrom cmd m → app_of cmd ≡ check_command → (mode : model.Mode) → check_held (rows_of (found_of m)) ≡ Some mode → IsModeInRange mode
check_in_range cmd m p is mode e =
    let matches = rows_of (found_of m) in
    let lanes = one_or_more (number_held (codes "lanes") matches) (number_in_range cmd m p check_command is refl 1 lanes_option refl refl refl 1 16 refl (omega arith)) in
    check_keeps (first_of (codes "path") matches) (options_checked matches) mode (record { low = lanes.0; high = lanes.1; order = tt }) refl e
