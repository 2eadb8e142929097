-- What a line does, and what is fetched in it.
use Rattle.std.proofs.Common.{◌≡◌, refl, ap, sym, ◌∙◌, subst, ℕ, ◌+◌, ◌<◌, ◌≤◌, List, [], ◌∷◌, ◌++◌, true, false, length, append-nil, arith}
use Rattle.std.specs.Prelude.{◌==◌, Option, Some, None, IfSome, IsSome, is_some, Result, Ok, Err}
use Rattle.std.proofs.lemmas.Bool.{both_ways, eqb-true, cond-false, cond-true, le-leb, le-ltb, lt-leb, lt-ltb}
use Rattle.lake_io.specs.Files as shelf
use Rattle.lake_model.specs.Texts.{Text}
use Rattle.script_model.specs.declared.Reason.TheVariants as reason
use Rattle.script_model.specs.declared.ScriptLimits.{ScriptLimits}
use Rattle.script_model.specs.Commands.{Batch, File, LoadFile}
use Rattle.script_model.specs.Reading.{Grammar, Open, Reading, Stands, Turn, Goes, Fails, block_ended, is_end, line_fault, line_in, undotted, unless_fault, does, file_size, with_command}
use Rattle.script_model.specs.Saying.{Fetches, Said, Wrong}
use Rattle.script_model.specs.Script.{Commands, FaultAt, at_end, begun_fault, commands_with, end_turned, ended, grammar_of, last_turn, unless_begun_fault}
use Rattle.script_model.specs.Words.{without_return}
use Rattle.script_model.specs.declared.Reason.{Reason}
use Rattle.script_text.specs.declared.refused.ScriptEnd.{ScriptEnd}
use Rattle.script_text.specs.declared.refused.ScriptEnd.TheVariants.{NoMemory, ReadFault, Script}
use Rattle.script_text.specs.Endings.{Ends, EndsAs}
use Rattle.script_text.specs.Gathering.{reading_at}
use Rattle.script_text.specs.Outcomes.{CameOf}
use Rattle.script_text.specs.Readings.{GoesOn, Turned, Turns, added, batches_of}
use Rattle.script_text.proofs.ProgressLemmas.{fetched_by, none_so_far}

-- A turn in which nothing is fetched.
pub unfetched : (step : Reading → Turn) (result : Result (Option Batch) ScriptEnd) (line : ℕ) (before after : Reading) (files : Option (List shelf.File)) (faults : ℕ)
    → ((paths : List Text) (later : List File) → Turned result line after paths later (step (reading_at before paths later))) → Turns step result line before after files faults faults
unfetched step result line before after files faults turned = record {
  asked = [];
  outcomes = [];
  fetched = fetched_by result files faults faults [] [] refl;
  turned = λ paths later. subst (λ (ps : List Text). Turned result line after ps later (step (reading_at before paths later))) (sym (append-nil paths)) (turned paths later);
}

-- If memory ran out, nothing is claimed.
pub no_memory : (step : Reading → Turn) (line : ℕ) (before after : Reading) (files : Option (List shelf.File)) (first second : ℕ) → first ≤ second → Turns step (Err NoMemory) line before after files first second
no_memory step line before after files first second h = record { asked = []; outcomes = []; fetched = none_so_far files first second h; turned = λ paths later. tt }

-- ---- a file

module _ (limits : ScriptLimits) (lanes lane : ℕ) (name path : Text) (reading : Reading) where
  pub fetch_full : (paths : List Text) (later : List File) → limits.commands ≤ length reading.commands
      → does (grammar_of limits lanes) (Fetches lane name path) (reading_at reading paths later) ≡ Fails reason.BatchCommands paths
  fetch_full paths later h = cond-true _ _ _ (le-leb limits.commands (length reading.commands) h)

  pub fetch_passes : (file : File) (paths : List Text) (later : List File) → length reading.commands < limits.commands → limits.bytes < reading.bytes + file_size file
      → does (grammar_of limits lanes) (Fetches lane name path) (reading_at reading paths (file ∷ later)) ≡ Fails reason.BatchBytes (paths ++ path ∷ [])
  fetch_passes file paths later h k =
      cond-false _ _ _ (lt-leb limits.commands (length reading.commands) h) ∙ cond-true _ _ _ (lt-ltb limits.bytes (reading.bytes + file_size file) k)

  pub fetch_goes : (file : File) (paths : List Text) (later : List File) → length reading.commands < limits.commands → reading.bytes + file_size file ≤ limits.bytes
      → does (grammar_of limits lanes) (Fetches lane name path) (reading_at reading paths (file ∷ later)) ≡ Goes (reading_at (with_command lane (LoadFile name file) (file_size file) reading) (paths ++ path ∷ []) later)
  fetch_goes file paths later h k =
      cond-false _ _ _ (lt-leb limits.commands (length reading.commands) h) ∙ cond-false _ _ _ (le-ltb limits.bytes (reading.bytes + file_size file) k)

  -- A turn in which one file is fetched.
  pub fetched_one : (result : Result (Option Batch) ScriptEnd) (line : ℕ) (after : Reading) (files : Option (List shelf.File)) (first second : ℕ) (file : File)
      → CameOf files first second path file
      → ((paths : List Text) (later : List File) → Turned result line after (paths ++ path ∷ []) later (does (grammar_of limits lanes) (Fetches lane name path) (reading_at reading paths (file ∷ later))))
      → Turns (does (grammar_of limits lanes) (Fetches lane name path)) result line reading after files first second
  fetched_one result line after files first second file came turned = record {
    asked = path ∷ [];
    outcomes = file ∷ [];
    fetched = fetched_by result files first second (path ∷ []) (file ∷ []) (second, came, refl);
    turned = turned;
  }

-- ---- a line outside a block

pub line_too_long : (grammar : Grammar) (line : Text) (reading : Reading) (why : Reason) (paths : List Text) (later : List File) → line_fault grammar line ≡ Some why
    → line_in grammar None line (reading_at reading paths later) ≡ Fails why paths
line_too_long grammar line reading why paths later e =
    ap (λ (f : Option Reason). unless_fault f (reading_at reading paths later) (does grammar (grammar.says (without_return line)) (reading_at reading paths later))) e

pub line_wrong : (grammar : Grammar) (line : Text) (reading : Reading) (why : Reason) (paths : List Text) (later : List File) → line_fault grammar line ≡ None → grammar.says (without_return line) ≡ Wrong why
    → line_in grammar None line (reading_at reading paths later) ≡ Fails why paths
line_wrong grammar line reading why paths later e said =
    ap (λ (f : Option Reason). unless_fault f (reading_at reading paths later) (does grammar (grammar.says (without_return line)) (reading_at reading paths later))) e
    ∙ ap (λ (s : Said). does grammar s (reading_at reading paths later)) said

-- ---- a line of a block

pub block_end : (grammar : Grammar) (block : Option Open) (line : Text) (before after : Reading) (paths : List Text) (later : List File) → IsSome block → is_end line ≡ true → IfSome block (λ b. after ≡ block_ended b before)
    → line_in grammar block line (reading_at before paths later) ≡ Goes (reading_at after paths later)
block_end grammar None line before after paths later some e h = cc some
block_end grammar (Some block) line before after paths later some e h =
    cond-true (is_end line) (Goes (block_ended block (reading_at before paths later))) _ e ∙ ap (λ (r : Reading). Goes (reading_at r paths later)) (sym h)

pub block_more : (grammar : Grammar) (block : Option Open) (line text : Text) (before after : Reading) (result : Result Unit ScriptEnd) (number : ℕ) (paths : List Text) (later : List File) → IsSome block → is_end line ≡ false → text ≡ undotted line
    → IfSome block (λ b. GoesOn result number after paths later (added grammar b text (reading_at before paths later)))
    → GoesOn result number after paths later (line_in grammar block line (reading_at before paths later))
block_more grammar None line text before after result number paths later some e f h = cc some
block_more grammar (Some block) line text before after result number paths later some e f h =
    subst (GoesOn result number after paths later) (sym (cond-false (is_end line) (Goes (block_ended block (reading_at before paths later))) (added grammar block (undotted line) (reading_at before paths later)) e))
    (subst (λ (t : Text). GoesOn result number after paths later (added grammar block t (reading_at before paths later))) f h)

-- ---- the last line

some_length : (byte : ℕ) (bytes : Text) → (length (byte ∷ bytes) == 0) ≡ true → ⊥
some_length byte bytes e = let none : length (byte ∷ bytes) ≡ 0 = eqb-true (length (byte ∷ bytes)) 0 e in omega (arith, none)

pub last_empty : (grammar : Grammar) (block : Option Open) (line : Text) (reading : Reading) → (length line == 0) ≡ true → last_turn grammar block line reading ≡ Goes reading
last_empty grammar None [] reading e = refl
last_empty grammar (Some block) [] reading e = refl
last_empty grammar None (byte ∷ bytes) reading e = absurd (some_length byte bytes e)
last_empty grammar (Some block) (byte ∷ bytes) reading e = absurd (some_length byte bytes e)

pub last_open : (grammar : Grammar) (block : Option Open) (line : Text) (reading : Reading) → is_some block ≡ true → is_end line ≡ false → last_turn grammar block line reading ≡ Goes reading
last_open grammar None line reading some e = cc some
last_open grammar (Some block) [] reading some e = refl
last_open grammar (Some block) (byte ∷ bytes) reading some e = cond-false (is_end (byte ∷ bytes)) (Goes (block_ended block reading)) (Goes reading) e

pub last_end : (grammar : Grammar) (block : Option Open) (line : Text) (before after : Reading) (paths : List Text) (later : List File) → is_some block ≡ true → is_end line ≡ true → IfSome block (λ b. after ≡ block_ended b before)
    → last_turn grammar block line (reading_at before paths later) ≡ Goes (reading_at after paths later)
last_end grammar None line before after paths later some e h = cc some
last_end grammar (Some block) [] before after paths later some e h = absurd (both_ways (is_end []) refl e)
last_end grammar (Some block) (byte ∷ bytes) before after paths later some e h =
    cond-true (is_end (byte ∷ bytes)) (Goes (block_ended block (reading_at before paths later))) (Goes (reading_at before paths later)) e ∙ ap (λ (r : Reading). Goes (reading_at r paths later)) (sym h)

-- ---- what a step of the code means for the definition

-- A step is that of another function, on a reading in which the line was counted.
pub turns_by : (step other : Reading → Turn) (result : Result (Option Batch) ScriptEnd) (line number : ℕ) (before middle after : Reading) (files : Option (List shelf.File)) (first second : ℕ)
    → line ≡ number → ((paths : List Text) (later : List File) → other (reading_at before paths later) ≡ step (reading_at middle paths later))
    → Turns step result number middle after files first second → Turns other result line before after files first second
turns_by step other result line number before middle after files first second e same turns = record {
  asked = turns.asked;
  outcomes = turns.outcomes;
  fetched = turns.fetched;
  turned = λ paths later. subst (Turned result line after (paths ++ turns.asked) later) (sym (same paths (turns.outcomes ++ later)))
      (subst (λ (n : ℕ). Turned result n after (paths ++ turns.asked) later (step (reading_at middle paths (turns.outcomes ++ later)))) (sym e) (turns.turned paths later));
}

-- ---- the end

end_by : (last : Option Batch) (line : ℕ) (after : Reading) (asked : List Text) (later : List File) (turn : Turn) → Turned (Ok last) line after asked later turn
    → end_turned [] line turn ≡ at_end (batches_of last) after.block (reading_at after asked later)
end_by None line after asked later turn e = ap (end_turned [] line) e
end_by (Some batch) line after asked later turn e = ap (end_turned [] line) e

ended_by : (grammar : Grammar) (rest : Text) (reading : Reading) → begun_fault grammar reading.block reading.bytes rest ≡ None
    → ended grammar false rest [] (Stands reading) ≡ end_turned [] (reading.lines + 1) (last_turn grammar reading.block rest reading)
ended_by grammar rest reading e = ap (λ (f : Option Reason). unless_begun_fault f [] reading (end_turned [] (reading.lines + 1) (last_turn grammar reading.block rest reading))) e

module _ (grammar : Grammar) (rest : Text) (before : Reading) (files : Option (List shelf.File)) (first second : ℕ) where
  abbrev the_end : Reading → Commands
  the_end reading = ended grammar false rest [] (Stands reading)

  -- The last line has no fault.
  pub ends_by : (after : Reading) (last : Option Batch) (result : Result (Option Batch) ScriptEnd) → begun_fault grammar before.block before.bytes rest ≡ None
      → Turns (last_turn grammar before.block rest) (Ok last) (before.lines + 1) before after files first second
      → ((paths : List Text) (later : List File) → EndsAs result paths (at_end (batches_of last) after.block (reading_at after paths later)))
      → Ends the_end result before files first second
  ends_by after last result none turns ends = record {
    asked = turns.asked;
    outcomes = turns.outcomes;
    fetched = fetched_by result files first second turns.asked turns.outcomes turns.fetched;
    ended = λ paths later. subst (EndsAs result (paths ++ turns.asked))
        (sym (ended_by grammar rest (reading_at before paths (turns.outcomes ++ later)) none ∙ end_by last (before.lines + 1) after (paths ++ turns.asked) later (last_turn grammar before.block rest (reading_at before paths (turns.outcomes ++ later))) (turns.turned paths later)))
        (ends (paths ++ turns.asked) later);
  }

  -- The last line has a fault.
  pub ends_fail : (after : Reading) (e : ScriptEnd) → begun_fault grammar before.block before.bytes rest ≡ None
      → Turns (last_turn grammar before.block rest) (Err e) (before.lines + 1) before after files first second → Ends the_end (Err e) before files first second
  ends_fail after (Script at why) none turns = record {
    asked = turns.asked;
    outcomes = turns.outcomes;
    fetched = turns.fetched;
    ended = λ paths later.
        let t = turns.turned paths later in
        ended_by grammar rest (reading_at before paths (turns.outcomes ++ later)) none ∙ ap (end_turned [] (before.lines + 1)) t.1
        ∙ ap (λ (n : ℕ). commands_with [] (FaultAt n why) (paths ++ turns.asked)) (sym t.0);
  }
  ends_fail after ReadFault none turns = absurd (turns.turned [] [])
  ends_fail after NoMemory none turns = record { asked = turns.asked; outcomes = turns.outcomes; fetched = turns.fetched; ended = λ paths later. tt }

  -- The last line is at fault by its size.
  pub ends_begun : (why : Reason) → second ≡ first → begun_fault grammar before.block before.bytes rest ≡ Some why → Ends the_end (Err (Script (before.lines + 1) why)) before files first second
  ends_begun why same fault = record {
    asked = [];
    outcomes = [];
    fetched = same;
    ended = λ paths later. ap (λ (f : Option Reason). unless_begun_fault f [] (reading_at before paths later) (end_turned [] (before.lines + 1) (last_turn grammar before.block rest (reading_at before paths later)))) fault
        ∙ ap (commands_with [] (FaultAt (before.lines + 1) why)) (sym (append-nil paths));
  }
