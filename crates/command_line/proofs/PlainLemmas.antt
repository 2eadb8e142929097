-- Clap walks over plain words, of a run or after the path of a trace, without a fault.
use Rattle.std.proofs.Common.{◌≡◌, refl, ap, ap₂, sym, ◌∙◌, subst, ℕ, List, [], ◌∷◌, Bool, true, false, not, ◌&&◌, cond, codes, Option, Some, None, is_some, option_map, true≢false, arith, map}
use Rattle.std.specs.Prelude.{⊤, ◌==◌, bytes_eq, fold}
use Rattle.std.specs.List.{onto_first, slice_split}
use Rattle.std.proofs.lemmas.Bool.{and_parts, eqb-true, not-true}
use Rattle.std.proofs.lemmas.Slice.Eq.{bytes_eq-Decides}
use Rattle.clap.specs.Faults.{turn_fault, walk_fault}
use Rattle.clap.specs.Kinds.{Kinds, or_else}
use Rattle.clap.specs.Simple.{filled}
use Rattle.clap.specs.Walk.{Row, Text, Walk, idle, settled_rows, used, walked}
use Rattle.script_model.specs.Words.{number}
use Rattle.script_model.specs.Options.{Options, options_with}
use Rattle.option_model.specs.Plain.{Argument, Awaited, Given, LanesNext, LanesValue, MergeFlag, NoArgument, NoValue, OrderNext, OrderValue, ProfileNext, ProfileValue, Refused, Taken, TraceFlag, all_there, argument_of, keys_of_profile, lane_number, lanes_said, nothing_given, options_of, order_of, order_said, piece_of, profile_said, run_options, take_argument, take_word, take_words}
use Rattle.command_line.specs.Words.{flag_option}
use Rattle.command_line.proofs.NumberLemmas.{IsValue, number_is_read}
use Rattle.command_line.proofs.OptionWordLemmas.{Agrees, OfCheck, OfRun, Pending, Reader, Stands, between, held, lanes_settle, lanes_turn, lanes_used, lanes_value, lanes_value_turn, lanes_walk, merge_turn, merge_used, merge_walk, more_lanes, more_merge, more_order, more_profile, more_trace, no_lanes, no_merge, no_order, no_profile, no_trace, order_settle, order_turn, order_used, order_value, order_value_turn, order_walk, pending_first, profile_settle, profile_turn, profile_used, profile_value, profile_value_turn, profile_walk, rules, stands_first, top, trace_turn, trace_used, trace_walk}

-- ---- the values that plain words have

-- what may be given: anything for a run, but neither an order nor a trace after the path of a trace
abbrev pub Allows : Reader → Given → Type 0
Allows OfRun given = ⊤
Allows (OfCheck path) given = (given.order ≡ None) × (given.trace ≡ false)

-- the options of all that was taken are these
abbrev pub GivesOptions : Reader → Options → Taken → Type 0
GivesOptions reader options taken = (run_options taken.given taken.awaited ≡ Some options) × Allows reader taken.given

pub no_value : {X : Type 0} (options : Options) → None ≡ Some options → X
no_value options e = absurd (cc e)

refused_gives_none : (given : Given) (words : List Text) → run_options (take_words given Refused words).given (take_words given Refused words).awaited ≡ None
refused_gives_none given [] = refl
refused_gives_none given (word ∷ words) = refused_gives_none given words

abbrev is_lanes_value : Argument → Bool
is_lanes_value LanesValue = true
is_lanes_value _ = false

abbrev is_order_value : Argument → Bool
is_order_value OrderValue = true
is_order_value _ = false

abbrev is_profile_value : Argument → Bool
is_profile_value ProfileValue = true
is_profile_value _ = false

-- the argument that the word names, by the tests of its names
abbrev chosen : (lanes order merge trace profile : Bool) → Argument
chosen lanes order merge trace profile =
    cond lanes LanesValue (cond order OrderValue (cond merge MergeFlag (cond trace TraceFlag (cond profile ProfileValue NoArgument))))

lanes_chosen : (b c d e f : Bool) → is_lanes_value (chosen b c d e f) ≡ b
lanes_chosen true c d e f = refl
lanes_chosen false true d e f = refl
lanes_chosen false false true e f = refl
lanes_chosen false false false true f = refl
lanes_chosen false false false false true = refl
lanes_chosen false false false false false = refl

order_chosen : (b c d e f : Bool) → c ≡ false → is_order_value (chosen b c d e f) ≡ false
order_chosen true c d e f off = refl
order_chosen false true d e f off = absurd (true≢false off)
order_chosen false false true e f off = refl
order_chosen false false false true f off = refl
order_chosen false false false false true off = refl
order_chosen false false false false false off = refl

profile_chosen : (b c d e f : Bool) → f ≡ false → is_profile_value (chosen b c d e f) ≡ false
profile_chosen true c d e f off = refl
profile_chosen false true d e f off = refl
profile_chosen false false true e f off = refl
profile_chosen false false false true f off = refl
profile_chosen false false false false true off = absurd (true≢false off)
profile_chosen false false false false false off = refl

and_false : (b : Bool) → (b && false) ≡ false
and_false true = refl
and_false false = refl

abbrev awaits_lanes : Awaited → Bool
awaits_lanes LanesNext = true
awaits_lanes _ = false

abbrev awaits_order : Awaited → Bool
awaits_order OrderNext = true
awaits_order _ = false

abbrev awaits_profile : Awaited → Bool
awaits_profile ProfileNext = true
awaits_profile _ = false

-- a value that was given stays
lanes_kept : (given : Given) (argument : Argument) → is_lanes_value argument ≡ false
    → ((take_argument given argument).given.lanes ≡ given.lanes) × (awaits_lanes (take_argument given argument).awaited ≡ false)
lanes_kept given LanesValue e = absurd (true≢false e)
lanes_kept given OrderValue e = (refl, refl)
lanes_kept given MergeFlag e = (refl, refl)
lanes_kept given TraceFlag e = (refl, refl)
lanes_kept given ProfileValue e = (refl, refl)
lanes_kept given NoArgument e = (refl, refl)

order_kept : (given : Given) (argument : Argument) → is_order_value argument ≡ false
    → ((take_argument given argument).given.order ≡ given.order) × (awaits_order (take_argument given argument).awaited ≡ false)
order_kept given LanesValue e = (refl, refl)
order_kept given OrderValue e = absurd (true≢false e)
order_kept given MergeFlag e = (refl, refl)
order_kept given TraceFlag e = (refl, refl)
order_kept given ProfileValue e = (refl, refl)
order_kept given NoArgument e = (refl, refl)

profile_kept : (given : Given) (argument : Argument) → is_profile_value argument ≡ false
    → ((take_argument given argument).given.profile ≡ given.profile) × (awaits_profile (take_argument given argument).awaited ≡ false)
profile_kept given LanesValue e = (refl, refl)
profile_kept given OrderValue e = (refl, refl)
profile_kept given MergeFlag e = (refl, refl)
profile_kept given TraceFlag e = (refl, refl)
profile_kept given ProfileValue e = absurd (true≢false e)
profile_kept given NoArgument e = (refl, refl)

-- one word keeps the value of an argument that has one, if the next word is not awaited as that value
abbrev KeepsByWord : (Given → Option Text) → (Awaited → Bool) → Type 0
KeepsByWord value awaits = (given : Given) (awaited : Awaited) (word text : Text) → value given ≡ Some text → awaits awaited ≡ false
    → (value (take_word given awaited word).given ≡ Some text) × (awaits (take_word given awaited word).awaited ≡ false)

-- the name of an argument that has a value is no argument
named_again : (word name text : Text) (value : Option Text) → value ≡ Some text → (bytes_eq word name && not (is_some value)) ≡ false
named_again word name text value has = ap (λ (o : Option Text). bytes_eq word name && not (is_some o)) has ∙ and_false (bytes_eq word name)

lanes_by_word : KeepsByWord (λ given. given.lanes) awaits_lanes
lanes_by_word given NoValue word text has other =
    let kept = lanes_kept given (argument_of given word)
    (lanes_chosen (bytes_eq word (codes "--lanes") && not (is_some given.lanes)) _ _ _ _ ∙ named_again word (codes "--lanes") text given.lanes has) in
    (kept.0 ∙ has, kept.1)
lanes_by_word given LanesNext word text has other = absurd (true≢false other)
lanes_by_word given OrderNext word text has other = (has, refl)
lanes_by_word given ProfileNext word text has other = (has, refl)
lanes_by_word given Refused word text has other = (has, refl)

order_by_word : KeepsByWord (λ given. given.order) awaits_order
order_by_word given NoValue word text has other =
    let kept = order_kept given (argument_of given word)
    (order_chosen _ (bytes_eq word (codes "--order") && not (is_some given.order)) _ _ _ (named_again word (codes "--order") text given.order has)) in
    (kept.0 ∙ has, kept.1)
order_by_word given LanesNext word text has other = (has, refl)
order_by_word given OrderNext word text has other = absurd (true≢false other)
order_by_word given ProfileNext word text has other = (has, refl)
order_by_word given Refused word text has other = (has, refl)

profile_by_word : KeepsByWord (λ given. given.profile) awaits_profile
profile_by_word given NoValue word text has other =
    let kept = profile_kept given (argument_of given word)
    (profile_chosen _ _ _ _ (bytes_eq word (codes "--profile") && not (is_some given.profile)) (named_again word (codes "--profile") text given.profile has)) in
    (kept.0 ∙ has, kept.1)
profile_by_word given LanesNext word text has other = (has, refl)
profile_by_word given OrderNext word text has other = (has, refl)
profile_by_word given ProfileNext word text has other = absurd (true≢false other)
profile_by_word given Refused word text has other = (has, refl)

value_stays : (value : Given → Option Text) (awaits : Awaited → Bool) → KeepsByWord value awaits → (words : List Text) (given : Given) (awaited : Awaited) (text : Text)
    → value given ≡ Some text → awaits awaited ≡ false → value (take_words given awaited words).given ≡ Some text
value_stays value awaits keeps [] given awaited text has other = has
value_stays value awaits keeps (word ∷ words) given awaited text has other =
    let next = take_word given awaited word in
    let kept = keeps given awaited word text has other in
    value_stays value awaits keeps words next.given next.awaited text kept.0 kept.1

lanes_stay : (words : List Text) (given : Given) (text : Text) → given.lanes ≡ Some text → (take_words given NoValue words).given.lanes ≡ Some text
lanes_stay words given text has = value_stays (λ given. given.lanes) awaits_lanes lanes_by_word words given NoValue text has refl

order_stays : (words : List Text) (given : Given) (text : Text) → given.order ≡ Some text → (take_words given NoValue words).given.order ≡ Some text
order_stays words given text has = value_stays (λ given. given.order) awaits_order order_by_word words given NoValue text has refl

profile_stays : (words : List Text) (given : Given) (text : Text) → given.profile ≡ Some text → (take_words given NoValue words).given.profile ≡ Some text
profile_stays words given text has = value_stays (λ given. given.profile) awaits_profile profile_by_word words given NoValue text has refl

trace_by_argument : (given : Given) (argument : Argument) → given.trace ≡ true → (take_argument given argument).given.trace ≡ true
trace_by_argument given LanesValue has = has
trace_by_argument given OrderValue has = has
trace_by_argument given MergeFlag has = has
trace_by_argument given TraceFlag has = refl
trace_by_argument given ProfileValue has = has
trace_by_argument given NoArgument has = has

trace_by_word : (given : Given) (awaited : Awaited) (word : Text) → given.trace ≡ true → (take_word given awaited word).given.trace ≡ true
trace_by_word given NoValue word has = trace_by_argument given (argument_of given word) has
trace_by_word given LanesNext word has = has
trace_by_word given OrderNext word has = has
trace_by_word given ProfileNext word has = has
trace_by_word given Refused word has = has

trace_stays : (words : List Text) (given : Given) (awaited : Awaited) → given.trace ≡ true → (take_words given awaited words).given.trace ≡ true
trace_stays [] given awaited has = has
trace_stays (word ∷ words) given awaited has =
    let next = take_word given awaited word in
    trace_stays words next.given next.awaited (trace_by_word given awaited word has)

-- ---- a value of plain words is no flag

lanes_fit : (given : Given) (awaited : Awaited) (text : Text) (options : Options) → given.lanes ≡ Some text → run_options given awaited ≡ Some options
    → (n : ℕ) × (number 16 text ≡ Some n)
lanes_fit given LanesNext text options has e = no_value options e
lanes_fit given OrderNext text options has e = no_value options e
lanes_fit given ProfileNext text options has e = no_value options e
lanes_fit given Refused text options has e = no_value options e
lanes_fit given NoValue text options has e = by (number 16 text) (ap (λ (o : Option Text). options_of given (lanes_said o) (profile_said given.profile)) (sym has) ∙ e)
  where
    by : (o : Option ℕ) → options_of given o (profile_said given.profile) ≡ Some options → (n : ℕ) × (o ≡ Some n)
    by None e = no_value options e
    by (Some n) e = (n, refl)

profile_fits : (given : Given) (awaited : Awaited) (text : Text) (options : Options) → given.profile ≡ Some text → run_options given awaited ≡ Some options
    → (n : ℕ) × (number 2 text ≡ Some n)
profile_fits given LanesNext text options has e = no_value options e
profile_fits given OrderNext text options has e = no_value options e
profile_fits given ProfileNext text options has e = no_value options e
profile_fits given Refused text options has e = no_value options e
profile_fits given NoValue text options has e =
    by (lanes_said given.lanes) (number 2 text) (ap (λ (o : Option Text). options_of given (lanes_said given.lanes) (profile_said o)) (sym has) ∙ e)
  where
    by : (lanes o : Option ℕ) → options_of given lanes o ≡ Some options → (n : ℕ) × (o ≡ Some n)
    by None o e = no_value options e
    by (Some lanes) None e = no_value options e
    by (Some lanes) (Some n) e = (n, refl)

no_lane : (lanes : ℕ) (merge : Bool) (rest : Text) → lane_number lanes merge (45 ∷ rest) ≡ None
no_lane lanes true rest = refl
no_lane lanes false rest = refl

no_lanes_from : (lanes : ℕ) (merge : Bool) (parts : List Text) → all_there (map (lane_number lanes merge) (onto_first 45 parts)) ≡ None
no_lanes_from lanes merge [] = ap (λ (o : Option ℕ). all_there (o ∷ [])) (no_lane lanes merge [])
no_lanes_from lanes merge (part ∷ parts) = ap (λ (o : Option ℕ). all_there (o ∷ map (lane_number lanes merge) parts)) (no_lane lanes merge part)

no_piece : (lanes : ℕ) (merge : Bool) (rest : Text) → piece_of lanes merge (45 ∷ rest) ≡ None
no_piece lanes merge rest = no_lanes_from lanes merge (slice_split (λ b. b == 0x2C) rest)

no_pieces_from : (lanes : ℕ) (merge : Bool) (parts : List Text) → all_there (map (piece_of lanes merge) (onto_first 45 parts)) ≡ None
no_pieces_from lanes merge [] = ap (λ (o : Option (List ℕ)). all_there (o ∷ [])) (no_piece lanes merge [])
no_pieces_from lanes merge (part ∷ parts) = ap (λ (o : Option (List ℕ)). all_there (o ∷ map (piece_of lanes merge) parts)) (no_piece lanes merge part)

no_order_from : (lanes : ℕ) (merge : Bool) (byte : ℕ) (rest : Text) → byte ≡ 45 → order_of lanes merge (byte ∷ rest) ≡ None
no_order_from lanes merge byte rest is =
    ap (λ (b : ℕ). order_of lanes merge (b ∷ rest)) is ∙ no_pieces_from lanes merge (slice_split (λ b. b == 0x2F) rest)

order_fits : (given : Given) (awaited : Awaited) (text : Text) (options : Options) → given.order ≡ Some text → run_options given awaited ≡ Some options → IsValue text
order_fits given LanesNext text options has e = no_value options e
order_fits given OrderNext text options has e = no_value options e
order_fits given ProfileNext text options has e = no_value options e
order_fits given Refused text options has e = no_value options e
order_fits given NoValue text options has e = by (lanes_said given.lanes) (profile_said given.profile) e
  where
    said : (lanes : ℕ) (merge : Bool) (t : Text) (f : Option (List (List ℕ)) → Options) → option_map f (order_said lanes merge (Some t)) ≡ Some options → IsValue t
    said lanes merge [] f e = no_value options e
    said lanes merge (byte ∷ bytes) f e = at_first (byte == 45) refl
      where
        at_first : (b : Bool) → (byte == 45) ≡ b → (byte == 45) ≡ false
        at_first false is = is
        at_first true is =
            no_value options (ap (λ (o : Option (List (List ℕ))). option_map f (option_map Some o)) (sym (no_order_from lanes merge byte bytes (eqb-true byte 45 is))) ∙ e)

    by : (o p : Option ℕ) → options_of given o p ≡ Some options → IsValue text
    by None p e = no_value options e
    by (Some lanes) None e = no_value options e
    by (Some lanes) (Some profile) e =
        let with_order = λ (order : Option (List (List ℕ))). options_with lanes order given.merge given.trace (keys_of_profile profile) in
        said lanes given.merge text with_order (ap (λ (o : Option Text). option_map with_order (order_said lanes given.merge o)) (sym has) ∙ e)

-- ---- the walk over plain words

-- clap walks over the words without a fault, and then holds what was given
pub record Walks (reader : Reader) (words : List Text) (walk : Walk) (given : Given) : Type 0 where
  pub rows : List Row
  pub pending : Pending
  pub no_fault : walk_fault (top reader) [] walk words ≡ []
  pub ends : (fold (walked (rules reader) []) walk words).held ≡ held rows pending
  pub stands : Stands reader given rows pending

pub more_walked : (reader : Reader) (word : Text) (words : List Text) (walk next : Walk) (given : Given) → turn_fault (top reader) [] walk word ≡ []
    → walked (rules reader) [] walk word ≡ next → Walks reader words next given → Walks reader (word ∷ words) walk given
unfolding walk_fault
more_walked reader word words walk next given turn step w = record {
  rows = w.rows;
  pending = w.pending;
  no_fault = ap₂ (λ (k : Kinds) (v : Walk). or_else k (walk_fault (top reader) [] v words)) turn step ∙ w.no_fault;
  ends = ap (λ (v : Walk). (fold (walked (rules reader) []) v words).held) step ∙ w.ends;
  stands = w.stands;
}

-- words that give these options, after those that gave what is given
abbrev WalksAll : Reader → List Text → Type 0
WalksAll reader words = (given : Given) (rows : List Row) (pending : Pending) (options : Options) → Stands reader given rows pending
    → GivesOptions reader options (take_words given NoValue words) → Walks reader words (between reader rows pending idle) (take_words given NoValue words).given

-- the same for the words after a value
abbrev WalksBehind : Reader → List Text → Type 0
WalksBehind reader [] = ⊤
WalksBehind reader (text ∷ words) = WalksAll reader words

lanes_step : (reader : Reader) (words : List Text) → WalksBehind reader words → (given : Given) (rows : List Row) (pending : Pending) (options : Options) → Stands reader given rows pending
    → given.lanes ≡ None → GivesOptions reader options (take_words given LanesNext words)
    → Walks reader (codes "--lanes" ∷ words) (between reader rows pending idle) (take_words given LanesNext words).given
lanes_step reader [] more given rows pending options stands none e = no_value options e.0
lanes_step reader (text ∷ words) more given rows pending options stands none e =
    let now = settled_rows (rules reader) pending rows in
    let with_text : Given = record given { lanes = Some text } in
    let taken = take_words with_text NoValue words in
    let fits = lanes_fit taken.given taken.awaited text options (lanes_stay words with_text text refl) e.0 in
    let is = number_is_read 1 16 text fits.0 (omega arith) (omega arith) fits.1 in
    let new = no_lanes reader given now stands.agrees none in
    let later : Stands reader with_text now (Some (codes "lanes", text ∷ [])) = record {
      settles = lanes_settle now reader text new is.accepted;
      agrees = subst (Agrees reader with_text) (sym (lanes_used now reader text new)) (more_lanes reader given now stands.agrees text none);
    } in
    more_walked reader (codes "--lanes") (text ∷ words) _ _ _ (lanes_turn rows pending reader stands.settles) (lanes_walk rows pending reader)
    (more_walked reader text words _ _ _ (lanes_value_turn now reader text is.word) (lanes_value now reader text is.word)
    (more with_text now (Some (codes "lanes", text ∷ [])) options later e))

-- words after the path of a trace that state an order are not allowed
order_step : (reader : Reader) (words : List Text) → WalksBehind reader words → (given : Given) (rows : List Row) (pending : Pending) (options : Options) → Stands reader given rows pending
    → given.order ≡ None → GivesOptions reader options (take_words given OrderNext words)
    → Walks reader (codes "--order" ∷ words) (between reader rows pending idle) (take_words given OrderNext words).given
order_step reader [] more given rows pending options stands none e = no_value options e.0
order_step (OfCheck path) (text ∷ words) more given rows pending options stands none e =
    let stated : Some text ≡ None = sym (order_stays words (record given { order = Some text }) text refl) ∙ e.1.0 in
    cc stated
order_step OfRun (text ∷ words) more given rows pending options stands none e =
    let now = settled_rows (rules OfRun) pending rows in
    let with_text : Given = record given { order = Some text } in
    let taken = take_words with_text NoValue words in
    let word = order_fits taken.given taken.awaited text options (order_stays words with_text text refl) e.0 in
    let new = no_order OfRun given now stands.agrees none in
    let later : Stands OfRun with_text now (Some (codes "order", text ∷ [])) = record {
      settles = order_settle now text new;
      agrees = subst (Agrees OfRun with_text) (sym (order_used now text new)) (more_order OfRun given now stands.agrees text none);
    } in
    more_walked OfRun (codes "--order") (text ∷ words) _ _ _ (order_turn rows pending stands.settles) (order_walk rows pending)
    (more_walked OfRun text words _ _ _ (order_value_turn now text word) (order_value now text word) (more with_text now (Some (codes "order", text ∷ [])) options later e))

profile_step : (reader : Reader) (words : List Text) → WalksBehind reader words → (given : Given) (rows : List Row) (pending : Pending) (options : Options) → Stands reader given rows pending
    → given.profile ≡ None → GivesOptions reader options (take_words given ProfileNext words)
    → Walks reader (codes "--profile" ∷ words) (between reader rows pending idle) (take_words given ProfileNext words).given
profile_step reader [] more given rows pending options stands none e = no_value options e.0
profile_step reader (text ∷ words) more given rows pending options stands none e =
    let now = settled_rows (rules reader) pending rows in
    let with_text : Given = record given { profile = Some text } in
    let taken = take_words with_text NoValue words in
    let fits = profile_fits taken.given taken.awaited text options (profile_stays words with_text text refl) e.0 in
    let is = number_is_read 1 2 text fits.0 (omega arith) (omega arith) fits.1 in
    let new = no_profile reader given now stands.agrees none in
    let later : Stands reader with_text now (Some (codes "profile", text ∷ [])) = record {
      settles = profile_settle now reader text new is.accepted;
      agrees = subst (Agrees reader with_text) (sym (profile_used now reader text new)) (more_profile reader given now stands.agrees text none);
    } in
    more_walked reader (codes "--profile") (text ∷ words) _ _ _ (profile_turn rows pending reader stands.settles) (profile_walk rows pending reader)
    (more_walked reader text words _ _ _ (profile_value_turn now reader text is.word) (profile_value now reader text is.word)
    (more with_text now (Some (codes "profile", text ∷ [])) options later e))

merge_step : (reader : Reader) (words : List Text) → WalksAll reader words → (given : Given) (rows : List Row) (pending : Pending) (options : Options) → Stands reader given rows pending
    → given.merge ≡ false → GivesOptions reader options (take_words (record given { merge = true }) NoValue words)
    → Walks reader (codes "--merge" ∷ words) (between reader rows pending idle) (take_words (record given { merge = true }) NoValue words).given
merge_step reader words more given rows pending options stands off e =
    let now = settled_rows (rules reader) pending rows in
    let merging : Given = record given { merge = true } in
    let new = no_merge reader given now stands.agrees off in
    let later : Stands reader merging (used (filled (flag_option (codes "merge"))) [] now) None = record {
      settles = refl;
      agrees = subst (Agrees reader merging) (sym (merge_used now new)) (more_merge reader given now stands.agrees off);
    } in
    more_walked reader (codes "--merge") words _ _ _ (merge_turn rows pending reader stands.settles new) (merge_walk rows pending reader) (more merging _ None options later e)

-- nor are those that ask for a trace
trace_step : (reader : Reader) (words : List Text) → WalksAll reader words → (given : Given) (rows : List Row) (pending : Pending) (options : Options) → Stands reader given rows pending
    → given.trace ≡ false → GivesOptions reader options (take_words (record given { trace = true }) NoValue words)
    → Walks reader (codes "--trace" ∷ words) (between reader rows pending idle) (take_words (record given { trace = true }) NoValue words).given
trace_step (OfCheck path) words more given rows pending options stands off e =
    absurd (true≢false (sym (trace_stays words (record given { trace = true }) NoValue refl) ∙ e.1.1))
trace_step OfRun words more given rows pending options stands off e =
    let now = settled_rows (rules OfRun) pending rows in
    let tracing : Given = record given { trace = true } in
    let new = no_trace OfRun given now stands.agrees off in
    let later : Stands OfRun tracing (used (filled (flag_option (codes "trace"))) [] now) None = record {
      settles = refl;
      agrees = subst (Agrees OfRun tracing) (sym (trace_used now new)) (more_trace OfRun given now stands.agrees off);
    } in
    more_walked OfRun (codes "--trace") words _ _ _ (trace_turn rows pending stands.settles new) (trace_walk rows pending) (more tracing _ None options later e)

named : (word name : Text) (b : Bool) → (bytes_eq word name && b) ≡ true → (name ≡ word) × (b ≡ true)
named word name b e =
    let parts = and_parts (bytes_eq word name) b e in
    (sym ((bytes_eq-Decides word name).0 parts.0), parts.1)

absent : (o : Option Text) → not (is_some o) ≡ true → o ≡ None
absent None e = refl
absent (Some text) e = absurd (true≢false (sym e))

-- what the words take if the first is one of the arguments, or none
abbrev taken_by : Given → List Text → (lanes order merge trace profile : Bool) → Taken
taken_by given words lanes order merge trace profile =
    let next = take_argument given (chosen lanes order merge trace profile) in
    take_words next.given next.awaited words

one_step : (reader : Reader) (word : Text) (words : List Text) → WalksAll reader words → WalksBehind reader words → WalksAll reader (word ∷ words)
one_step reader word words more behind given rows pending options stands e =
    by (bytes_eq word (codes "--lanes") && not (is_some given.lanes)) refl (bytes_eq word (codes "--order") && not (is_some given.order)) refl
    (bytes_eq word (codes "--merge") && not given.merge) refl (bytes_eq word (codes "--trace") && not given.trace) refl
    (bytes_eq word (codes "--profile") && not (is_some given.profile)) refl e
  where
    by : (b : Bool) → (bytes_eq word (codes "--lanes") && not (is_some given.lanes)) ≡ b → (c : Bool) → (bytes_eq word (codes "--order") && not (is_some given.order)) ≡ c
        → (d : Bool) → (bytes_eq word (codes "--merge") && not given.merge) ≡ d → (f : Bool) → (bytes_eq word (codes "--trace") && not given.trace) ≡ f
        → (p : Bool) → (bytes_eq word (codes "--profile") && not (is_some given.profile)) ≡ p
        → GivesOptions reader options (taken_by given words b c d f p) → Walks reader (word ∷ words) (between reader rows pending idle) (taken_by given words b c d f p).given
    by true is c _ d _ f _ p _ e =
        let at = named word (codes "--lanes") _ is in
        subst (λ (w : Text). Walks reader (w ∷ words) (between reader rows pending idle) (take_words given LanesNext words).given) at.0
        (lanes_step reader words behind given rows pending options stands (absent given.lanes at.1) e)
    by false _ true is d _ f _ p _ e =
        let at = named word (codes "--order") _ is in
        subst (λ (w : Text). Walks reader (w ∷ words) (between reader rows pending idle) (take_words given OrderNext words).given) at.0
        (order_step reader words behind given rows pending options stands (absent given.order at.1) e)
    by false _ false _ true is f _ p _ e =
        let at = named word (codes "--merge") _ is in
        subst (λ (w : Text). Walks reader (w ∷ words) (between reader rows pending idle) (take_words (record given { merge = true }) NoValue words).given) at.0
        (merge_step reader words more given rows pending options stands (not-true given.merge at.1) e)
    by false _ false _ false _ true is p _ e =
        let at = named word (codes "--trace") _ is in
        subst (λ (w : Text). Walks reader (w ∷ words) (between reader rows pending idle) (take_words (record given { trace = true }) NoValue words).given) at.0
        (trace_step reader words more given rows pending options stands (not-true given.trace at.1) e)
    by false _ false _ false _ false _ true is e =
        let at = named word (codes "--profile") _ is in
        subst (λ (w : Text). Walks reader (w ∷ words) (between reader rows pending idle) (take_words given ProfileNext words).given) at.0
        (profile_step reader words behind given rows pending options stands (absent given.profile at.1) e)
    by false _ false _ false _ false _ false _ e = no_value options (sym (refused_gives_none given words) ∙ e.0)

all_walked : (reader : Reader) (words : List Text) → WalksAll reader words
unfolding walk_fault
all_walked reader [] = λ given rows pending options stands e. record { rows = rows; pending = pending; no_fault = refl; ends = refl; stands = stands }
all_walked reader (word ∷ []) = one_step reader word [] (all_walked reader []) tt
all_walked reader (word ∷ text ∷ words) = one_step reader word (text ∷ words) (all_walked reader (text ∷ words)) (all_walked reader words)

pub plain_walks : (reader : Reader) (words : List Text) (options : Options) → GivesOptions reader options (take_words nothing_given NoValue words)
    → Walks reader words (between reader [] (pending_first reader) idle) (take_words nothing_given NoValue words).given
plain_walks reader words options e = all_walked reader words nothing_given [] (pending_first reader) options (stands_first reader) e
