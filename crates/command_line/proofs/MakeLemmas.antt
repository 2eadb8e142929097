-- Clap reads the plain words after `make` as they say.
use Rattle.std.proofs.Common.{◌≡◌, refl, ap, ap₂, ◌∙◌, ℕ, List, [], ◌∷◌, true, false, codes, Option, Some, None, arith}
use Rattle.std.specs.Prelude.{fold}
use Rattle.clap.specs.Faults.{check_fault, defaults_fault, fault_of, settle_fault, turn_fault, walk_fault}
use Rattle.clap.specs.Kinds.{Kinds, or_else}
use Rattle.clap.specs.Lexer.{without_minus}
use Rattle.clap.specs.Simple.{Shape, built, matches_of}
use Rattle.clap.specs.ValueTests.{accepts}
use Rattle.clap.specs.Walk.{Held, Row, Text, Walk, finished, idle, nothing_held, settled, walked}
use Rattle.clap.specs.declared.builder.value_parser.Reading.TheVariants as reading
use Rattle.clap.specs.declared.parser.matches.ValueSource.TheVariants.{CommandLine}
use Rattle.clap.proofs.FaultLemmas.{leaf_fault}
use Rattle.clap.proofs.OnLiterals.{clap_on_literals}
use Rattle.script_model.specs.Words.{number, number_or_zero}
use Rattle.option_model.specs.Plain.{Mode, make_mode, make_with}
use Rattle.command_line.specs.Words.{between as range, held_without, make_command, make_held, make_words, number_read}
use Rattle.command_line.proofs.NumberLemmas.{IsRead, IsValue, not_short, number_is_read, number_or_zero_is_read}
use Rattle.command_line.proofs.RowLemmas.{row_with}
use Rattle.command_line.proofs.OptionWordLemmas.{Pending, held, passed}

-- the command as it is built
abbrev top : Shape
top = (built make_command).top

-- the walk before the word at a position
abbrev before : List Row → Pending → ℕ → Walk
before rows pending position = record { held = held rows pending; waiting = idle; position = position; is_trailing = false; stopped = None }

abbrev number_row : Text → Text → Row
number_row id text = row_with id reading.WithoutMinus CommandLine (text ∷ [])

-- ---- the walk over three words

seed_walk : (text : Text) → IsValue text → walked top.rules [] (before [] None 1) text ≡ before [] (Some (codes "seed", text ∷ [])) 2
unfolding clap_on_literals
seed_walk [] value = absurd value
seed_walk (byte ∷ bytes) value = rw (value, not_short byte bytes value) refl

seed_turn : (text : Text) → IsValue text → turn_fault top [] (before [] None 1) text ≡ []
unfolding clap_on_literals
seed_turn [] value = absurd value
seed_turn (byte ∷ bytes) value = rw (value, not_short byte bytes value) refl

module _ (seed : Text) (seed_fits : accepts false (range 0 4294967295) seed ≡ true) where
  tables_walk : (text : Text) → IsValue text
      → walked top.rules [] (before [] (Some (codes "seed", seed ∷ [])) 2) text ≡ before (number_row (codes "seed") seed ∷ []) (Some (codes "tables", text ∷ [])) 3
  unfolding clap_on_literals
  tables_walk [] value = absurd value
  tables_walk (byte ∷ bytes) value = rw (value, not_short byte bytes value) refl

  tables_turn : (text : Text) → IsValue text → turn_fault top [] (before [] (Some (codes "seed", seed ∷ [])) 2) text ≡ []
  unfolding clap_on_literals
  tables_turn [] value = absurd value
  tables_turn (byte ∷ bytes) value = rw (value, not_short byte bytes value) (passed _ seed_fits)

  module _ (tables : Text) (tables_fit : accepts false (range 1 1000) tables ≡ true) where
    rows_walk : (text : Text) → IsValue text → walked top.rules [] (before (number_row (codes "seed") seed ∷ []) (Some (codes "tables", tables ∷ [])) 3) text
        ≡ before (number_row (codes "seed") seed ∷ number_row (codes "tables") tables ∷ []) (Some (codes "rows", text ∷ [])) 4
    unfolding clap_on_literals
    rows_walk [] value = absurd value
    rows_walk (byte ∷ bytes) value = rw (value, not_short byte bytes value) refl

    rows_turn : (text : Text) → IsValue text → turn_fault top [] (before (number_row (codes "seed") seed ∷ []) (Some (codes "tables", tables ∷ [])) 3) text ≡ []
    unfolding clap_on_literals
    rows_turn [] value = absurd value
    rows_turn (byte ∷ bytes) value = rw (value, not_short byte bytes value) (passed _ tables_fit)

-- ---- the three words

abbrev at_end : Text → Text → Text → Held
at_end seed tables rows = held (number_row (codes "seed") seed ∷ number_row (codes "tables") tables ∷ []) (Some (codes "rows", rows ∷ []))

module _ (seed tables rows : Text) (s t r : ℕ) (seed_is : IsRead 0 4294967295 seed s) (tables_are : IsRead 1 1000 tables t) (rows_are : IsRead 1 5000 rows r) where
  three_walked : (fold (walked top.rules []) (before [] None 1) (seed ∷ tables ∷ rows ∷ [])).held ≡ at_end seed tables rows
  three_walked = ap (λ (w : Walk). (walked top.rules [] (walked top.rules [] w tables) rows).held) (seed_walk seed seed_is.word)
      ∙ ap (λ (w : Walk). (walked top.rules [] w rows).held) (tables_walk seed seed_is.accepted tables tables_are.word)
      ∙ ap (λ (w : Walk). w.held) (rows_walk seed seed_is.accepted tables tables_are.accepted rows rows_are.word)

  no_walk_fault : walk_fault top [] (before [] None 1) (seed ∷ tables ∷ rows ∷ []) ≡ []
  unfolding walk_fault
  no_walk_fault = ap₂ (λ (k : Kinds) (w : Walk). or_else k (walk_fault top [] w (tables ∷ rows ∷ []))) (seed_turn seed seed_is.word) (seed_walk seed seed_is.word)
      ∙ ap₂ (λ (k : Kinds) (w : Walk). or_else k (walk_fault top [] w (rows ∷ []))) (tables_turn seed seed_is.accepted tables tables_are.word) (tables_walk seed seed_is.accepted tables tables_are.word)
      ∙ ap (λ (k : Kinds). or_else k []) (rows_turn seed seed_is.accepted tables tables_are.accepted rows rows_are.word)

  abbrev faults_after : Kinds → Held → Kinds
  faults_after first h = or_else first (or_else [] (or_else (settle_fault top.rules false h) (or_else (defaults_fault (settled top.rules h).rows top.rules) (check_fault top (finished top.rules h) false))))

  no_fault : fault_of make_command (seed ∷ tables ∷ rows ∷ []) ≡ []
  unfolding clap_on_literals
  no_fault = leaf_fault (built make_command) nothing_held (seed ∷ tables ∷ rows ∷ []) refl
      ∙ ap₂ faults_after no_walk_fault three_walked
      ∙ ap (λ (k : Kinds). or_else k []) (passed _ rows_are.accepted)

  three_read : make_words (seed ∷ tables ∷ rows ∷ []) ≡ make_with (Some s) (Some t) (Some r)
  three_read =
      ap (λ (k : Kinds). held_without k (make_held (matches_of make_command (seed ∷ tables ∷ rows ∷ [])))) no_fault
      ∙ ap (λ (h : Held). make_held (finished top.rules h)) three_walked
      ∙ ap (λ (o : Option ℕ). make_with o (number_read (without_minus tables)) (number_read (without_minus rows))) seed_is.read
      ∙ ap₂ (λ (o p : Option ℕ). make_with (Some s) o p) tables_are.read rows_are.read

make_by : (seed tables rows : Text) (mode : Mode) (s t r : Option ℕ) → number_or_zero 4294967295 seed ≡ s → number 1000 tables ≡ t → number 5000 rows ≡ r
    → make_with s t r ≡ Some mode → make_words (seed ∷ tables ∷ rows ∷ []) ≡ Some mode
make_by seed tables rows mode (Some s) (Some t) (Some r) seed_is tables_are rows_are e =
    three_read seed tables rows s t r (number_or_zero_is_read 4294967295 seed s (omega arith) seed_is) (number_is_read 1 1000 tables t (omega arith) (omega arith) tables_are)
    (number_is_read 1 5000 rows r (omega arith) (omega arith) rows_are) ∙ e
make_by seed tables rows mode None t r seed_is tables_are rows_are e = cc e
make_by seed tables rows mode (Some s) None r seed_is tables_are rows_are e = cc e
make_by seed tables rows mode (Some s) (Some t) None seed_is tables_are rows_are e = cc e

-- the mode that plain words give is the one that clap's matches hold
pub make_is_read : (words : List Text) (mode : Mode) → make_mode words ≡ Some mode → make_words words ≡ Some mode
make_is_read [] mode e = cc e
make_is_read (seed ∷ []) mode e = cc e
make_is_read (seed ∷ tables ∷ []) mode e = cc e
make_is_read (seed ∷ tables ∷ rows ∷ []) mode e =
    make_by seed tables rows mode (number_or_zero 4294967295 seed) (number 1000 tables) (number 5000 rows) refl refl refl e
make_is_read (seed ∷ tables ∷ rows ∷ more ∷ words) mode e = cc e
