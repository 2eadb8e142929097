-- Clap reads the plain words after `watch` as they say.
use Rattle.std.proofs.Common.{◌≡◌, ◌≤◌, refl, ap, ap₂, ◌∙◌, subst, ℕ, List, [], ◌∷◌, ◌++◌, append_assoc, Bool, true, false, ◌&&◌, cond, codes, length, Option, Some, None, arith}
use Rattle.std.specs.Prelude.{fold, nat_le}
use Rattle.std.specs.List.{list_all}
use Rattle.std.proofs.lemmas.Bool.{and_parts, le-leb, leb-true}
use Rattle.clap.specs.Faults.{check_fault, defaults_fault, fault_of, settle_fault, turn_fault, walk_fault}
use Rattle.clap.specs.Kinds.{Kinds, or_else}
use Rattle.clap.specs.Simple.{Shape, built, matches_of}
use Rattle.clap.specs.ValueTests.{accepts}
use Rattle.clap.specs.Walk.{Held, Row, Text, Walk, idle, nothing_held, positional, settled, walked, with_default}
use Rattle.clap.specs.declared.builder.value_parser.Reading.TheVariants as reading
use Rattle.clap.specs.declared.parser.matches.ValueSource.TheVariants.{CommandLine}
use Rattle.clap.proofs.FaultLemmas.{leaf_fault}
use Rattle.clap.proofs.OnLiterals.{clap_on_literals}
use Rattle.script_model.specs.Words.{number}
use Rattle.option_model.specs.Plain.{Mode, Watch, is_path, watch_mode, watch_with}
use Rattle.command_line.specs.Words.{between as range, held_without, watch_command, watch_held, watch_of, watch_words}
use Rattle.command_line.proofs.NumberLemmas.{IsRead, IsValue, not_short, number_is_read, path_is_value}
use Rattle.command_line.proofs.RowLemmas.{row_with}
use Rattle.command_line.proofs.OptionWordLemmas.{before, passed}

-- the command as it is built
abbrev top : Shape
top = (built watch_command).top

abbrev path_rows : List Text → List Row
path_rows [] = []
path_rows (path ∷ paths) = row_with (codes "path") reading.AsWritten CommandLine (path ∷ paths) ∷ []

-- the rows of the number and of these paths
abbrev rows_with : Text → List Text → List Row
rows_with k paths = row_with (codes "k") reading.WithoutMinus CommandLine (k ∷ []) ∷ path_rows paths

-- after a path, which is pending; the paths before it have their row
abbrev behind : Text → List Text → Text → Walk
behind k paths last = before (rows_with k paths) (Some (codes "path", last ∷ [])) 2 positional

-- ---- one word

k_walk : (text : Text) → IsValue text → walked top.rules [] (before [] None 1 idle) text ≡ before [] (Some (codes "k", text ∷ [])) 2 idle
unfolding clap_on_literals
k_walk [] value = absurd value
k_walk (byte ∷ bytes) value = rw (value, not_short byte bytes value) refl

k_turn : (text : Text) → IsValue text → turn_fault top [] (before [] None 1 idle) text ≡ []
unfolding clap_on_literals
k_turn [] value = absurd value
k_turn (byte ∷ bytes) value = rw (value, not_short byte bytes value) refl

module _ (k : Text) where
  first_walk : (text : Text) → IsValue text → walked top.rules [] (before [] (Some (codes "k", k ∷ [])) 2 idle) text ≡ behind k [] text
  unfolding clap_on_literals
  first_walk [] value = absurd value
  first_walk (byte ∷ bytes) value = rw (value, not_short byte bytes value) refl

  first_turn : accepts false (range 1 10000) k ≡ true → (text : Text) → IsValue text → turn_fault top [] (before [] (Some (codes "k", k ∷ [])) 2 idle) text ≡ []
  unfolding clap_on_literals
  first_turn fits [] value = absurd value
  first_turn fits (byte ∷ bytes) value = rw (value, not_short byte bytes value) (passed _ fits)

  next_walk : (paths : List Text) (last text : Text) → IsValue text → walked top.rules [] (behind k paths last) text ≡ behind k (paths ++ last ∷ []) text
  unfolding clap_on_literals
  next_walk paths last [] value = absurd value
  next_walk [] last (byte ∷ bytes) value = rw (value, not_short byte bytes value) refl
  next_walk (path ∷ paths) last (byte ∷ bytes) value = rw (value, not_short byte bytes value) refl

  next_turn : (paths : List Text) (last text : Text) → IsValue text → turn_fault top [] (behind k paths last) text ≡ []
  unfolding clap_on_literals
  next_turn paths last [] value = absurd value
  next_turn [] last (byte ∷ bytes) value = rw (value, not_short byte bytes value) refl
  next_turn (path ∷ paths) last (byte ∷ bytes) value = rw (value, not_short byte bytes value) refl

-- ---- the paths

-- clap walks over the words without a fault, and then holds these rows
record Ends (words : List Text) (walk : Walk) (rows : List Row) : Type 0 where
  pub no_fault : walk_fault top [] walk words ≡ []
  pub settles : settle_fault top.rules false (fold (walked top.rules []) walk words).held ≡ []
  pub ends : (settled top.rules (fold (walked top.rules []) walk words).held).rows ≡ rows

one_more : (word : Text) (words : List Text) (walk next : Walk) (rows : List Row) → turn_fault top [] walk word ≡ [] → walked top.rules [] walk word ≡ next
    → Ends words next rows → Ends (word ∷ words) walk rows
unfolding walk_fault
one_more word words walk next rows turn step e = record {
  no_fault = ap₂ (λ (f : Kinds) (w : Walk). or_else f (walk_fault top [] w words)) turn step ∙ e.no_fault;
  settles = ap (λ (w : Walk). settle_fault top.rules false (fold (walked top.rules []) w words).held) step ∙ e.settles;
  ends = ap (λ (w : Walk). (settled top.rules (fold (walked top.rules []) w words).held).rows) step ∙ e.ends;
}

last_settled : (k : Text) (paths : List Text) (last : Text) → (settled top.rules (behind k paths last).held).rows ≡ rows_with k (paths ++ last ∷ [])
last_settled k [] last = refl
last_settled k (path ∷ paths) last = refl

-- the rest of the paths, after one that is pending
rest_walked : (k : Text) (words paths : List Text) (last : Text) → list_all is_path words ≡ true → Ends words (behind k paths last) (rows_with k (paths ++ last ∷ words))
unfolding walk_fault
rest_walked k [] paths last all = record { no_fault = refl; settles = refl; ends = last_settled k paths last }
rest_walked k (word ∷ words) paths last all =
    let parts = and_parts (is_path word) (list_all is_path words) all in
    let value = path_is_value word parts.0 in
    one_more word words (behind k paths last) (behind k (paths ++ last ∷ []) word) _ (next_turn k paths last word value) (next_walk k paths last word value)
    (subst (λ (all : List Text). Ends words (behind k (paths ++ last ∷ []) word) (rows_with k all)) (append_assoc paths (last ∷ []) (word ∷ words))
    (rest_walked k words (paths ++ last ∷ []) word parts.1))

-- ---- the words

module _ (k path : Text) (paths : List Text) (n : ℕ) (is : IsRead 1 10000 k n) (all : list_all is_path (path ∷ paths) ≡ true) where
  all_walked : Ends (k ∷ path ∷ paths) (before [] None 1 idle) (rows_with k (path ∷ paths))
  all_walked =
      let parts = and_parts (is_path path) (list_all is_path paths) all in
      let value = path_is_value path parts.0 in
      one_more k (path ∷ paths) _ _ _ (k_turn k is.word) (k_walk k is.word)
      (one_more path paths _ _ _ (first_turn k is.accepted path value) (first_walk k path value) (rest_walked k paths [] path parts.1))

  abbrev end : Held
  end = (fold (walked top.rules []) (before [] None 1 idle) (k ∷ path ∷ paths)).held

  abbrev faults_after : Kinds → Kinds → List Row → Kinds
  faults_after first settle rows =
      or_else first (or_else [] (or_else settle (or_else (defaults_fault rows top.rules) (check_fault top (fold with_default rows top.rules) false))))

  no_fault : fault_of watch_command (k ∷ path ∷ paths) ≡ []
  unfolding clap_on_literals
  no_fault = leaf_fault (built watch_command) nothing_held (k ∷ path ∷ paths) refl
      ∙ ap₂ (λ (first settle : Kinds). faults_after first settle (settled top.rules end).rows) all_walked.no_fault all_walked.settles
      ∙ ap (faults_after [] []) all_walked.ends

  words_read : length (path ∷ paths) ≤ 16 → watch_words (k ∷ path ∷ paths) ≡ Some (Watch n (path ∷ paths))
  words_read few =
      let least : nat_le 1 (length (path ∷ paths)) ≡ true = le-leb 1 (length (path ∷ paths)) (omega arith) in
      let most : nat_le (length (path ∷ paths)) 16 ≡ true = le-leb (length (path ∷ paths)) 16 few in
      ap (λ (f : Kinds). held_without f (watch_held (matches_of watch_command (k ∷ path ∷ paths)))) no_fault
      ∙ ap (λ (rows : List Row). watch_held (fold with_default rows top.rules)) all_walked.ends
      ∙ ap₂ (λ (number : Option ℕ) (fits : Bool). watch_of number (cond fits (Some (path ∷ paths)) None)) is.read (ap₂ (λ (a b : Bool). a && b) least most)

watch_by : (k path : Text) (paths : List Text) (mode : Mode) (number_is : Option ℕ) → number 10000 k ≡ number_is → watch_with (path ∷ paths) number_is ≡ Some mode
    → watch_words (k ∷ path ∷ paths) ≡ Some mode
watch_by k path paths mode None is e = cc e
watch_by k path paths mode (Some n) is e = by (list_all is_path (path ∷ paths)) refl (nat_le (length (path ∷ paths)) 16) refl e
  where
    by : (all : Bool) → list_all is_path (path ∷ paths) ≡ all → (few : Bool) → nat_le (length (path ∷ paths)) 16 ≡ few
        → cond (all && few) (Some (Watch n (path ∷ paths))) None ≡ Some mode → watch_words (k ∷ path ∷ paths) ≡ Some mode
    by true all true few e = words_read k path paths n (number_is_read 1 10000 k n (omega arith) (omega arith) is) all (leb-true _ _ few) ∙ e
    by true all false few e = cc e
    by false all few _ e = cc e

-- the mode that plain words give is the one that clap's matches hold
pub watch_is_read : (words : List Text) (mode : Mode) → watch_mode words ≡ Some mode → watch_words words ≡ Some mode
watch_is_read [] mode e = cc e
watch_is_read (k ∷ []) mode e = cc e
watch_is_read (k ∷ path ∷ paths) mode e = watch_by k path paths mode (number 10000 k) refl e
