-- How far a call of a gatherer is: by the bytes given, the paths asked for, and the lines read.
use Rattle.std.proofs.Common.{◌≡◌, refl, ap, sym, ◌∙◌, subst, ℕ, ◌+◌, ◌≤◌, List, [], ◌∷◌, ◌++◌, length, take, drop, arith, append_assoc, append-nil}
use Rattle.std.specs.Prelude.{Option, None, Result, Ok, Err}
use Rattle.std.specs.Io.KnownBytes.{Consumes}
use Rattle.std.specs.List.{AllByRecursion}
use Rattle.std.proofs.KnownBytes.{Consumes-nil, Consumes-trans}
use Rattle.std.proofs.lemmas.List.{length-take-le}
use Rattle.lake_io.specs.Files as shelf
use Rattle.lake_model.specs.Texts.{Text}
use Rattle.script_model.specs.Commands.{Batch, File}
use Rattle.script_model.specs.Reading.{Grammar, LinesRead, Reading, Stands, Turn, read, read_with, turn_of, turned}
use Rattle.script_model.specs.Script.{commands_from}
use Rattle.script_model.specs.Words.{line_text, NoFeed}
use Rattle.script_model.proofs.LinesLemmas.{commands_lines}
use Rattle.script_model.proofs.ScriptLemmas.{commands_line, read_on, after_turn}
use Rattle.script_text.specs.Gathering.{lines_text, reading_at}
use Rattle.script_text.specs.Inputs.{Came, EndsLine}
use Rattle.script_text.specs.declared.refused.ScriptEnd.{ScriptEnd}
use Rattle.script_text.specs.declared.refused.ScriptEnd.TheVariants.{NoMemory, ReadFault, Script}
use Rattle.script_text.specs.Outcomes.{AreFetched, AreFetchedSoFar, FetchedBy}
use Rattle.script_text.specs.Readings.{Turns}
use Rattle.script_text.specs.Runs.{LeadsOn}

-- the lines that were read, of the bytes held before and those given since, and what is held now
pub record Progress (from : Grammar) (before : Reading) (held_before : List ℕ) (left_before left_now : Option (List ℕ)) (files : Option (List shelf.File)) (faults_before faults_now : ℕ) (now : Reading) (held : List ℕ) : Type 0 where
  pub given : List ℕ
  pub asked : List Text
  pub outcomes : List File
  pub lines : List Text
  pub gave : Consumes left_before left_now given
  pub fetched : AreFetched files faults_before faults_now asked outcomes
  pub whole : AllByRecursion NoFeed lines
  pub cut : held_before ++ given ≡ lines_text lines ++ held
  pub reads : (later : List File) → read from (read_with [] (Stands (reading_at before [] (outcomes ++ later)))) lines ≡ read_with [] (Stands (reading_at now asked later))
  pub goes : (later : List File) (more : List ℕ) → commands_from from (reading_at before [] (outcomes ++ later)) (lines_text lines ++ more) ≡ commands_from from (reading_at now asked later) more

-- ---- small laws

pub fetched_join : (files : Option (List shelf.File)) (first second third : ℕ) (asked more_asked : List Text) (outcomes more : List File)
    → AreFetched files first second asked outcomes → AreFetched files second third more_asked more → AreFetched files first third (asked ++ more_asked) (outcomes ++ more)
fetched_join files first second third [] more_asked [] more h k = subst (λ (n : ℕ). AreFetched files n third more_asked more) h k
fetched_join files first second third [] more_asked (outcome ∷ outcomes) more h k = absurd h
fetched_join files first second third (path ∷ asked) more_asked [] more h k = absurd h
fetched_join files first second third (path ∷ asked) more_asked (outcome ∷ outcomes) more (between, came, others) k =
    (between, came, fetched_join files between second third asked more_asked outcomes more others k)

-- fetches, followed by those of a call
pub fetched_by_join : (result : Result (Option Batch) ScriptEnd) (files : Option (List shelf.File)) (first second third : ℕ) (asked more_asked : List Text) (outcomes more : List File)
    → AreFetched files first second asked outcomes → FetchedBy result files second third more_asked more → FetchedBy result files first third (asked ++ more_asked) (outcomes ++ more)
fetched_by_join (Ok found) files first second third asked more_asked outcomes more h k = fetched_join files first second third asked more_asked outcomes more h k
fetched_by_join (Err (Script line why)) files first second third asked more_asked outcomes more h k = fetched_join files first second third asked more_asked outcomes more h k
fetched_by_join (Err ReadFault) files first second third asked more_asked outcomes more h k = fetched_join files first second third asked more_asked outcomes more h k
fetched_by_join (Err NoMemory) files first second third asked more_asked outcomes more h k = record {
  between = k.between;
  fetched = fetched_join files first second k.between asked more_asked outcomes more h k.fetched;
  later = k.later;
}

-- such fetches, and no others
pub fetched_by : (result : Result (Option Batch) ScriptEnd) (files : Option (List shelf.File)) (first second : ℕ) (asked : List Text) (outcomes : List File)
    → AreFetched files first second asked outcomes → FetchedBy result files first second asked outcomes
fetched_by (Ok found) files first second asked outcomes h = h
fetched_by (Err (Script line why)) files first second asked outcomes h = h
fetched_by (Err ReadFault) files first second asked outcomes h = h
fetched_by (Err NoMemory) files first second asked outcomes h = record { between = second; fetched = h; later = omega arith }

-- no fetch with an outcome
pub none_so_far : (files : Option (List shelf.File)) (first second : ℕ) → first ≤ second → AreFetchedSoFar files first second [] []
none_so_far files first second h = record { between = first; fetched = refl; later = h }

pub text_push : (lines : List Text) (line : Text) (rest : List ℕ) → lines_text (lines ++ line ∷ []) ++ rest ≡ lines_text lines ++ (line ++ 0x0A ∷ rest)
text_push [] line rest = ap (λ (xs : List ℕ). xs ++ rest) (append-nil (line ++ 0x0A ∷ [])) ∙ append_assoc line (0x0A ∷ []) rest
text_push (first ∷ lines) line rest =
    append_assoc (line_text first) (lines_text (lines ++ line ∷ [])) rest ∙ ap (λ (xs : List ℕ). line_text first ++ xs) (text_push lines line rest)
    ∙ sym (append_assoc (line_text first) (lines_text lines) (line ++ 0x0A ∷ rest))

pub whole_push : (lines : List Text) (line : Text) → AllByRecursion NoFeed lines → NoFeed line → AllByRecursion NoFeed (lines ++ line ∷ [])
whole_push [] line h k = (k, tt)
whole_push (first ∷ lines) line h k = (h.0, whole_push lines line h.1 k)

pub text_join : (lines more : List Text) (rest : List ℕ) → lines_text (lines ++ more) ++ rest ≡ lines_text lines ++ (lines_text more ++ rest)
text_join [] more rest = refl
text_join (first ∷ lines) more rest =
    append_assoc (line_text first) (lines_text (lines ++ more)) rest ∙ ap (λ (xs : List ℕ). line_text first ++ xs) (text_join lines more rest)
    ∙ sym (append_assoc (line_text first) (lines_text lines) (lines_text more ++ rest))

pub whole_join : (lines more : List Text) → AllByRecursion NoFeed lines → AllByRecursion NoFeed more → AllByRecursion NoFeed (lines ++ more)
whole_join [] more h k = k
whole_join (first ∷ lines) more h k = (h.0, whole_join lines more h.1 k)

-- ---- the beginning, and a read

unfoldable pub begins : (from : Grammar) (before : Reading) (held : List ℕ) (left : Option (List ℕ)) (files : Option (List shelf.File)) (faults : ℕ)
    → Progress from before held left left files faults faults before held
unfolding read
begins from before held left files faults = record {
  given = [];
  asked = [];
  outcomes = [];
  lines = [];
  gave = Consumes-nil left;
  fetched = refl;
  whole = tt;
  cut = append-nil held;
  reads = λ later. refl;
  goes = λ later more. refl;
}

module _ (from : Grammar) (before : Reading) (held_before : List ℕ) (left_before : Option (List ℕ)) (files : Option (List shelf.File)) (faults_before : ℕ) where
  unfoldable pub reads_more : (left_now left_next : Option (List ℕ)) (faults : ℕ) (now next : Reading) (held held_next : List ℕ) (count : ℕ) → next ≡ now
      → Progress from before held_before left_before left_now files faults_before faults now held → Came left_now left_next held held_next count
      → Progress from before held_before left_before left_next files faults_before faults next held_next
  reads_more left_now left_next faults now next held held_next count same p came = record {
    given = p.given ++ came.piece;
    asked = p.asked;
    outcomes = p.outcomes;
    lines = p.lines;
    gave = Consumes-trans left_before left_now left_next p.given came.piece p.gave came.gave;
    fetched = p.fetched;
    whole = p.whole;
    cut = sym (append_assoc held_before p.given came.piece) ∙ ap (λ (xs : List ℕ). xs ++ came.piece) p.cut ∙ append_assoc (lines_text p.lines) held came.piece
        ∙ ap (λ (xs : List ℕ). lines_text p.lines ++ xs) (sym came.held);
    reads = λ later. p.reads later ∙ ap (λ (r : Reading). read_with [] (Stands (reading_at r p.asked later))) (sym same);
    goes = λ later more. p.goes later more ∙ ap (λ (r : Reading). commands_from from (reading_at r p.asked later) more) (sym same);
  }

  -- ---- a line

  -- the lines with one more
  pub read_push : (now : Reading) (faults left_faults : ℕ) (left : Option (List ℕ)) (held : List ℕ) (p : Progress from before held_before left_before left files faults_before faults now held) (line : Text) (more later : List File)
      → read from (read_with [] (Stands (reading_at before [] ((p.outcomes ++ more) ++ later)))) (p.lines ++ line ∷ [])
      ≡ turned [] (now.lines + 1) (turn_of from line (reading_at now p.asked (more ++ later)))
  unfolding read
  read_push now faults left_faults left held p line more later =
      ap (λ (files : List File). read from (read_with [] (Stands (reading_at before [] files))) (p.lines ++ line ∷ [])) (append_assoc p.outcomes more later)
      ∙ read_on from (read_with [] (Stands (reading_at before [] (p.outcomes ++ (more ++ later))))) p.lines (line ∷ [])
      ∙ ap (λ (made : LinesRead). read from made (line ∷ [])) (p.reads (more ++ later))

  -- what the input gives from a line on that is within the limit
  pub goes_line : (now : Reading) (faults : ℕ) (left : Option (List ℕ)) (held : List ℕ) (p : Progress from before held_before left_before left files faults_before faults now held) (line : Text) (more later : List File) (rest : List ℕ)
      → NoFeed line → now.used + (length line + 1) ≤ from.input
      → commands_from from (reading_at before [] ((p.outcomes ++ more) ++ later)) (lines_text p.lines ++ (line ++ 0x0A ∷ rest))
      ≡ after_turn from (now.lines + 1) (turn_of from line (reading_at now p.asked (more ++ later))) rest
  goes_line now faults left held p line more later rest whole fits =
      ap (λ (files : List File). commands_from from (reading_at before [] files) (lines_text p.lines ++ (line ++ 0x0A ∷ rest))) (append_assoc p.outcomes more later)
      ∙ p.goes (more ++ later) (line ++ 0x0A ∷ rest)
      ∙ commands_line from (reading_at now p.asked (more ++ later)) line rest whole fits

  pub cut_push : (now : Reading) (faults : ℕ) (left : Option (List ℕ)) (held : List ℕ) (p : Progress from before held_before left_before left files faults_before faults now held) (at : ℕ) (line : EndsLine held at)
      → held_before ++ p.given ≡ lines_text (p.lines ++ take at held ∷ []) ++ drop (at + 1) held
  cut_push now faults left held p at line =
      p.cut ∙ ap (λ (xs : List ℕ). lines_text p.lines ++ xs) line.cut ∙ sym (text_push p.lines (take at held) (drop (at + 1) held))

  pub size_of_line : (now : Reading) (held : Text) (at : ℕ) → EndsLine held at → now.used + (at + 1) ≤ from.input → now.used + (length (take at held) + 1) ≤ from.input
  size_of_line now held at line fits = subst (λ (n : ℕ). now.used + (n + 1) ≤ from.input) (sym (length-take-le at held (omega (arith, line.within)))) fits

  -- The line only goes on.
  unfoldable pub line_goes : (left : Option (List ℕ)) (faults faults_next : ℕ) (now next : Reading) (held held_next : List ℕ) (at : ℕ)
      → Progress from before held_before left_before left files faults_before faults now held → EndsLine held at → now.used + (at + 1) ≤ from.input
      → Turns (turn_of from (take at held)) (Ok None) (now.lines + 1) now next files faults faults_next → held_next ≡ drop (at + 1) held
      → Progress from before held_before left_before left files faults_before faults_next next held_next
  line_goes left faults faults_next now next held held_next at p line fits turn e = record {
    given = p.given;
    asked = p.asked ++ turn.asked;
    outcomes = p.outcomes ++ turn.outcomes;
    lines = p.lines ++ take at held ∷ [];
    gave = p.gave;
    fetched = fetched_join files faults_before faults faults_next p.asked turn.asked p.outcomes turn.outcomes p.fetched turn.fetched;
    whole = whole_push p.lines (take at held) p.whole line.whole;
    cut = cut_push now faults left held p at line ∙ ap (λ (xs : List ℕ). lines_text (p.lines ++ take at held ∷ []) ++ xs) (sym e);
    reads = λ later. read_push now faults faults left held p (take at held) turn.outcomes later ∙ ap (turned [] (now.lines + 1)) (turn.turned p.asked later);
    goes = λ later more.
        ap (commands_from from (reading_at before [] ((p.outcomes ++ turn.outcomes) ++ later))) (text_push p.lines (take at held) more)
        ∙ goes_line now faults left held p (take at held) turn.outcomes later more line.whole (size_of_line now held at line fits)
        ∙ ap (λ (t : Turn). after_turn from (now.lines + 1) t more) (turn.turned p.asked later);
  }

  -- Lines that are held lead on.
  unfoldable pub lines_lead : (left : Option (List ℕ)) (faults : ℕ) (now next : Reading) (held held_next : List ℕ) → Progress from before held_before left_before left files faults_before faults now held
      → LeadsOn from now next held held_next → next.used ≤ from.input → Progress from before held_before left_before left files faults_before faults next held_next
  lines_lead left faults now next held held_next p on within = record {
    given = p.given;
    asked = p.asked;
    outcomes = p.outcomes;
    lines = p.lines ++ on.lines;
    gave = p.gave;
    fetched = p.fetched;
    whole = whole_join p.lines on.lines p.whole on.whole;
    cut = p.cut ∙ ap (λ (xs : List ℕ). lines_text p.lines ++ xs) on.cut ∙ sym (text_join p.lines on.lines held_next);
    reads = λ later. read_on from (read_with [] (Stands (reading_at before [] (p.outcomes ++ later)))) p.lines on.lines ∙ ap (λ (made : LinesRead). read from made on.lines) (p.reads later) ∙ on.leads p.asked later;
    goes = λ later more.
        ap (commands_from from (reading_at before [] (p.outcomes ++ later))) (text_join p.lines on.lines more) ∙ p.goes later (lines_text on.lines ++ more)
        ∙ commands_lines from on.lines (reading_at now p.asked later) [] (reading_at next p.asked later) more on.whole (on.leads p.asked later) within;
  }
