-- What a call of a gatherer returns.
use Rattle.std.proofs.Common.{◌≡◌, refl, ap, sym, ◌∙◌, subst, ℕ, ◌+◌, ◌≤◌, List, [], ◌∷◌, ◌++◌, true, false, length, take, drop, arith, append_assoc, append-nil, ◌⊎◌, inl, inr}
use Rattle.std.specs.Prelude.{Option, Some, None, Ok, Err, OnOk, Result}
use Rattle.std.specs.Io.KnownBytes.{IsAtEnd, Keeps}
use Rattle.std.proofs.KnownBytes.{Consumes-kept}
use Rattle.lake_io.specs.Files as shelf
use Rattle.lake_model.specs.Texts.{Text}
use Rattle.script_model.specs.declared.Reason.{Reason}
use Rattle.script_model.specs.declared.ScriptLimits.{ScriptLimits}
use Rattle.script_model.specs.Commands.{Batch, File}
use Rattle.script_model.specs.Reading.{Grammar, Reading, Stands, Turn, read, read_with, turn_of, turned}
use Rattle.script_model.specs.Script.{Commands, FaultAt, commands_from, commands_with, ended, grammar_of, left_of}
use Rattle.script_model.specs.Words.{NoFeed}
use Rattle.script_text.specs.declared.refused.ScriptEnd.{ScriptEnd}
use Rattle.script_text.specs.declared.refused.ScriptEnd.TheVariants.{NoMemory, ReadFault, Script}
use Rattle.script_text.specs.Endings.{Ends}
use Rattle.script_text.specs.Gathering.{Gathering, IsLate, IsUnfinished, grammar, lines_text, reading_at}
use Rattle.script_text.specs.Gathers.{Gathers, Taken}
use Rattle.script_text.specs.Inputs.{Came, EndsLine}
use Rattle.script_text.specs.Outcomes.{AreFetchedSoFar, FetchedBy}
use Rattle.script_text.specs.Parts.{HasSameRules, IsFaultOf, IsHeldFault}
use Rattle.script_text.specs.Readings.{Turns}
use Rattle.script_text.specs.Runs.{LeadsOn}
use Rattle.script_text.proofs.EndLemmas.{commands_end}
use Rattle.script_text.proofs.ProgressLemmas.{Progress, cut_push, fetched_by_join, goes_line, line_goes, lines_lead, none_so_far, reads_more, read_push, size_of_line, whole_push}
use Rattle.script_model.proofs.ScriptLemmas.{after_turn}

-- the source was not read and is unchanged, or it was read late
abbrev pub ReadsLate : Type 0 → Gathering → List ℕ → List File → Type 0
ReadsLate Idle before given outcomes = (Idle × (given ≡ [])) ⊎ IsLate before given outcomes

-- a result, by what was given and fetched
abbrev pub Answers : Type 0 → Result (Option Batch) ScriptEnd → Gathering → Gathering → Option (List ℕ) → Option (List ℕ) → Option (List shelf.File) → ℕ → ℕ → Type 0
Answers Idle result before now left_before left files first last =
    (taken : Taken result left_before left files first last) × Gathers result before now left taken.given taken.asked taken.outcomes × OnOk result (ReadsLate Idle before taken.given taken.outcomes)

-- further outcomes, for bytes that were at hand
later_outcomes : (Idle : Type 0) (before : Gathering) (given : List ℕ) (outcomes more : List File) → ReadsLate Idle before given outcomes → ReadsLate Idle before given (outcomes ++ more)
later_outcomes Idle before given outcomes more (inl idle) = inl idle
later_outcomes Idle before given outcomes more (inr late) = inr (record {
  first = late.first;
  last = late.last;
  asked = late.asked;
  came = late.came;
  later = late.later ++ more;
  given_is = late.given_is;
  few = late.few;
  outcomes_are = ap (λ (os : List File). os ++ more) late.outcomes_are ∙ append_assoc late.came late.later more;
  unfinished = late.unfinished;
})

left_none : (left : Option (List ℕ)) → IsAtEnd left → left_of left ≡ []
left_none None h = refl
left_none (Some bytes) h = h

module _ (Idle : Type 0) (before now : Gathering) (left_before left : Option (List ℕ)) (files : Option (List shelf.File)) (first middle : ℕ) (reading : Reading) (held : List ℕ) (p : Progress (grammar before) before.reading before.held left_before left files first middle reading held) where
  abbrev by : Grammar
  by = grammar before

  abbrev taken_with : (result : Result (Option Batch) ScriptEnd) (last : ℕ) (asked : List Text) (outcomes : List File) → FetchedBy result files middle last asked outcomes → Taken result left_before left files first last
  taken_with result last asked outcomes fetched = record {
    given = p.given;
    asked = p.asked ++ asked;
    outcomes = p.outcomes ++ outcomes;
    gave = p.gave;
    fetched = fetched_by_join result files first middle last p.asked asked p.outcomes outcomes p.fetched fetched;
  }

  -- The line gave a batch.
  pub synced : (last at : ℕ) (batch : Batch) → ReadsLate Idle before p.given p.outcomes → EndsLine held at → reading.used + (at + 1) ≤ before.limits.input
      → Turns (turn_of by (take at held)) (Ok (Some batch)) (reading.lines + 1) reading now.reading files middle last → now.held ≡ drop (at + 1) held → now.ended ≡ false
      → Answers Idle (Ok (Some batch)) before now left_before left files first last
  synced last at batch late line fits turns e goes_on = (
    taken_with (Ok (Some batch)) last turns.asked turns.outcomes turns.fetched,
    inl (record {
      lines_read = record {
        lines = p.lines ++ take at held ∷ [];
        whole = whole_push p.lines (take at held) p.whole line.whole;
        cut = cut_push by before.reading before.held left_before files first reading middle left held p at line ∙ ap (λ (xs : List ℕ). lines_text (p.lines ++ take at held ∷ []) ++ xs) (sym e);
        reads = λ later. read_push by before.reading before.held left_before files first reading middle middle left held p (take at held) turns.outcomes later ∙ ap (turned [] (reading.lines + 1)) (turns.turned p.asked later);
      };
      goes_on = goes_on;
    }),
    later_outcomes Idle before p.given p.outcomes turns.outcomes late,
  )

  -- the bytes from what was held before, with what the source has left
  bytes_are : (before.held ++ p.given) ++ left_of left ≡ lines_text p.lines ++ (held ++ left_of left)
  bytes_are = ap (λ (xs : List ℕ). xs ++ left_of left) p.cut ∙ append_assoc (lines_text p.lines) held (left_of left)

  -- The line is at fault.
  pub line_faulty : (last at number : ℕ) (why : Reason) → EndsLine held at → reading.used + (at + 1) ≤ before.limits.input
      → Turns (turn_of by (take at held)) (Err (Script number why)) (reading.lines + 1) reading now.reading files middle last → Answers Idle (Err (Script number why)) before now left_before left files first last
  line_faulty last at number why line fits turns =
      let t = turns.turned p.asked [] in
      let outcomes : List File = p.outcomes ++ turns.outcomes in
      let rest : List ℕ = drop (at + 1) held ++ left_of left in
      let held_is : held ++ left_of left ≡ take at held ++ 0x0A ∷ (drop (at + 1) held ++ left_of left) =
      ap (λ (xs : List ℕ). xs ++ left_of left) line.cut ∙ append_assoc (take at held) (0x0A ∷ drop (at + 1) held) (left_of left) in (
        taken_with (Err (Script number why)) last turns.asked turns.outcomes turns.fetched,
        record {
          commands = ap (commands_from by (reading_at before.reading [] (p.outcomes ++ turns.outcomes))) (bytes_are ∙ ap (λ (xs : List ℕ). lines_text p.lines ++ xs) held_is)
              ∙ ap (λ (os : List File). commands_from by (reading_at before.reading [] os) (lines_text p.lines ++ (take at held ++ 0x0A ∷ (drop (at + 1) held ++ left_of left)))) (sym (append-nil (p.outcomes ++ turns.outcomes)))
              ∙ goes_line by before.reading before.held left_before files first reading middle left held p (take at held) turns.outcomes [] (drop (at + 1) held ++ left_of left) line.whole (size_of_line by before.reading before.held left_before files first reading held at line fits)
              ∙ ap (λ (turn : Turn). after_turn by (reading.lines + 1) turn (drop (at + 1) held ++ left_of left)) t.1
              ∙ ap (λ (n : ℕ). commands_with [] (FaultAt n why) (p.asked ++ turns.asked)) (sym t.0);
        },
        tt,
      )

  -- What is held is at fault, however the script goes on.
  pub held_faulty : (number : ℕ) (why : Reason)
      → ((paths : List Text) (later : List File) (more : List ℕ) → IsFaultOf (Script number why) paths (commands_from by (reading_at reading paths later) (held ++ more)))
      → Answers Idle (Err (Script number why)) before now left_before left files first middle
  held_faulty number why fault = (
    taken_with (Err (Script number why)) middle [] [] refl,
    record {
      commands = ap (commands_from by (reading_at before.reading [] (p.outcomes ++ []))) bytes_are
          ∙ p.goes [] (held ++ left_of left) ∙ fault p.asked [] (left_of left) ∙ ap (commands_with [] (FaultAt number why)) (sym (append-nil p.asked));
    },
    tt,
  )

  -- what the end gives
  at_end_is : (asked : List Text) (outcomes : List File) → NoFeed held → reading.used + length held ≤ before.limits.input
      → commands_from by (reading_at before.reading [] (p.outcomes ++ outcomes)) (before.held ++ p.given) ≡ ended by false held [] (Stands (reading_at reading p.asked (outcomes ++ [])))
  at_end_is asked outcomes whole fits =
      ap (commands_from by (reading_at before.reading [] (p.outcomes ++ outcomes))) p.cut ∙ p.goes outcomes held
      ∙ ap (λ (os : List File). commands_from by (reading_at reading p.asked os) held) (sym (append-nil outcomes))
      ∙ commands_end by (reading_at reading p.asked (outcomes ++ [])) held whole fits

  -- The input is at its end.
  pub finished : (last : ℕ) (result : Result (Option Batch) ScriptEnd) → ReadsLate Idle before p.given p.outcomes → NoFeed held → reading.used + length held ≤ before.limits.input → IsAtEnd left → now.ended ≡ true
      → Ends (λ r. ended by false held [] (Stands r)) result reading files middle last → Answers Idle result before now left_before left files first last
  finished last (Ok None) late whole fits end stopped ends = (
    taken_with (Ok None) last ends.asked ends.outcomes ends.fetched,
    record { at_end = end; commands = at_end_is ends.asked ends.outcomes whole fits ∙ ends.ended p.asked []; ended = stopped },
    later_outcomes Idle before p.given p.outcomes ends.outcomes late,
  )
  finished last (Ok (Some batch)) late whole fits end stopped ends = (
    taken_with (Ok (Some batch)) last ends.asked ends.outcomes ends.fetched,
    inr (record { at_end = end; commands = at_end_is ends.asked ends.outcomes whole fits ∙ ends.ended p.asked []; ended = stopped }),
    later_outcomes Idle before p.given p.outcomes ends.outcomes late,
  )
  finished last (Err (Script number why)) late whole fits end stopped ends = (
    taken_with (Err (Script number why)) last ends.asked ends.outcomes ends.fetched,
    record {
      commands = ap (λ (xs : List ℕ). commands_from by (reading_at before.reading [] (p.outcomes ++ ends.outcomes)) ((before.held ++ p.given) ++ xs)) (left_none left end)
          ∙ ap (commands_from by (reading_at before.reading [] (p.outcomes ++ ends.outcomes))) (append-nil (before.held ++ p.given))
          ∙ at_end_is ends.asked ends.outcomes whole fits ∙ ends.ended p.asked [];
    },
    tt,
  )
  finished last (Err ReadFault) late whole fits end stopped ends = absurd (ends.ended [] [])
  finished last (Err NoMemory) late whole fits end stopped ends = (taken_with (Err NoMemory) last ends.asked ends.outcomes ends.fetched, tt, tt)

  -- Memory ran out.
  pub out_of_memory : (last : ℕ) (asked : List Text) (outcomes : List File) → AreFetchedSoFar files middle last asked outcomes → Answers Idle (Err NoMemory) before now left_before left files first last
  out_of_memory last asked outcomes fetched = (taken_with (Err NoMemory) last asked outcomes fetched, tt, tt)

  -- the lines that were read in full have no fault and no `sync`
  unfinished_now : NoFeed held → IsUnfinished before p.given p.asked p.outcomes
  unfinished_now whole = record {
    reading = reading;
    held = held;
    lines_read = record { lines = p.lines; whole = p.whole; cut = p.cut; reads = p.reads };
    rest = whole;
  }

  -- The source failed.
  pub unfinished : NoFeed held → Answers Idle (Err ReadFault) before now left_before left files first middle
  unfinished whole = (
    taken_with (Err ReadFault) middle [] [] refl,
    record {
      reading = reading;
      held = held;
      lines_read = record {
        lines = p.lines;
        whole = p.whole;
        cut = p.cut;
        reads = λ later.
            ap (λ (os : List File). read by (read_with [] (Stands (reading_at before.reading [] os))) p.lines) (append_assoc p.outcomes [] later) ∙ p.reads later
            ∙ ap (λ (paths : List Text). read_with [] (Stands (reading_at reading paths later))) (sym (append-nil p.asked));
      };
      rest = whole;
    },
    tt,
  )

-- ---- during a call

pub record IsUnder (Idle : Type 0) (before now : Gathering) (left_before left : Option (List ℕ)) (files_before files : Option (List shelf.File)) (first last source_first source_last : ℕ) : Type 0 where
  pub progress : Progress (grammar before) before.reading before.held left_before left files_before first last now.reading now.held
  pub limits : now.limits ≡ before.limits
  pub lanes : now.lanes ≡ before.lanes
  pub ended : now.ended ≡ true
  pub used : before.reading.used + length now.reading.commands ≤ now.reading.used
  pub same_files : files ≡ files_before
  pub later : (source_first ≤ source_last) × (first ≤ last)
  pub late : ReadsLate Idle before progress.given progress.outcomes

module _ (Idle : Type 0) (before now : Gathering) (left_before left : Option (List ℕ)) (files_before files : Option (List shelf.File)) (first middle source_first source : ℕ) (u : IsUnder Idle before now left_before left files_before files first middle source_first source) where
  same_grammar : grammar now ≡ grammar before
  same_grammar = ap (λ (limits : ScriptLimits). grammar_of limits now.lanes) u.limits ∙ ap (grammar_of before.limits) u.lanes

  turns_before : (line : Text) (result : Result (Option Batch) ScriptEnd) (after : Reading) (last : ℕ) → Turns (turn_of (grammar now) line) result (now.reading.lines + 1) now.reading after files middle last
      → Turns (turn_of (grammar before) line) result (now.reading.lines + 1) now.reading after files_before middle last
  turns_before line result after last turns =
      subst (λ (from : Grammar). Turns (turn_of from line) result (now.reading.lines + 1) now.reading after files_before middle last) same_grammar
      (subst (λ (fs : Option (List shelf.File)). Turns (turn_of (grammar now) line) result (now.reading.lines + 1) now.reading after fs middle last) u.same_files turns)

  fits_before : (n : ℕ) → n ≤ now.limits.input → n ≤ before.limits.input
  fits_before n h = subst (λ (limits : ScriptLimits). n ≤ limits.input) u.limits h

  pub step_read : (Other : Type 0) (next : Gathering) (left_next : Option (List ℕ)) (source_next count : ℕ) → NoFeed now.held → count ≤ 65536 → Came left left_next now.held next.held count → next.reading ≡ now.reading → HasSameRules now next → source ≤ source_next
      → IsUnder Other before next left_before left_next files_before files first middle source_first source_next
  unfolding reads_more
  step_read Other next left_next source_next count whole few came e same h = record {
    progress = reads_more (grammar before) before.reading before.held left_before files_before first left left_next middle now.reading next.reading now.held next.held count e u.progress came;
    limits = same.limits ∙ u.limits;
    lanes = same.lanes ∙ u.lanes;
    ended = same.ended ∙ u.ended;
    used = subst (λ (r : Reading). before.reading.used + length r.commands ≤ r.used) (sym e) u.used;
    same_files = u.same_files;
    later = (omega (arith, u.later.0, h), u.later.1);
    late = inr (record {
      first = u.progress.given;
      last = came.piece;
      asked = u.progress.asked;
      came = u.progress.outcomes;
      later = [];
      given_is = refl;
      few = omega (arith, came.size, few);
      outcomes_are = sym (append-nil u.progress.outcomes);
      unfinished = unfinished_now Idle before now left_before left files_before first middle now.reading now.held u.progress whole;
    });
  }

  pub step_line : (next : Gathering) (files_next : Option (List shelf.File)) (last at : ℕ) → EndsLine now.held at → now.reading.used + (at + 1) ≤ now.limits.input
      → Turns (turn_of (grammar now) (take at now.held)) (Ok None) (now.reading.lines + 1) now.reading next.reading files middle last → next.held ≡ drop (at + 1) now.held
      → next.reading.used ≡ now.reading.used + (at + 1) → length next.reading.commands ≤ length now.reading.commands + 1 → HasSameRules now next → middle ≤ last → files_next ≡ files
      → IsUnder Idle before next left_before left files_before files_next first last source_first source
  unfolding line_goes
  step_line next files_next last at line fits turns held used grows same h files_same = record {
    progress = line_goes (grammar before) before.reading before.held left_before files_before first left middle last now.reading next.reading now.held next.held at u.progress line (fits_before (now.reading.used + (at + 1)) fits)
        (turns_before (take at now.held) (Ok None) next.reading last turns) held;
    limits = same.limits ∙ u.limits;
    lanes = same.lanes ∙ u.lanes;
    ended = same.ended ∙ u.ended;
    used = omega (arith, u.used, used, grows);
    same_files = files_same ∙ u.same_files;
    later = (u.later.0, omega (arith, u.later.1, h));
    late = later_outcomes Idle before u.progress.given u.progress.outcomes (turns_before (take at now.held) (Ok None) next.reading last turns).outcomes u.late;
  }

  pub step_lines : (next : Gathering) → LeadsOn (grammar now) now.reading next.reading now.held next.held → next.reading.used + length next.held ≡ now.reading.used + length now.held → length next.held ≤ length now.held
      → next.reading.commands ≡ now.reading.commands → next.reading.used ≤ next.limits.input → HasSameRules now next → IsUnder Idle before next left_before left files_before files first middle source_first source
  unfolding lines_lead
  step_lines next leads used less commands within same = record {
    progress = lines_lead (grammar before) before.reading before.held left_before files_before first left middle now.reading next.reading now.held next.held u.progress
        (subst (λ (from : Grammar). LeadsOn from now.reading next.reading now.held next.held) same_grammar leads)
        (fits_before next.reading.used (subst (λ (limits : ScriptLimits). next.reading.used ≤ limits.input) same.limits within));
    limits = same.limits ∙ u.limits;
    lanes = same.lanes ∙ u.lanes;
    ended = same.ended ∙ u.ended;
    used = omega (arith, u.used, used, less, ap length commands);
    same_files = u.same_files;
    later = u.later;
    late = u.late;
  }

  pub answer_memory : (next : Gathering) → Answers Idle (Err NoMemory) before next left_before left files_before first middle
  answer_memory next = out_of_memory Idle before next left_before left files_before first middle now.reading now.held u.progress middle [] [] (none_so_far files_before middle middle (omega arith))

  pub answer_sync : (next given : Gathering) (last at : ℕ) (batch : Batch) → EndsLine now.held at → now.reading.used + (at + 1) ≤ now.limits.input
      → Turns (turn_of (grammar now) (take at now.held)) (Ok (Some batch)) (now.reading.lines + 1) now.reading next.reading files middle last → next.held ≡ drop (at + 1) now.held → given ≡ record next { ended = false }
      → Answers Idle (Ok (Some batch)) before given left_before left files_before first last
  answer_sync next given last at batch line fits turns held e =
      subst (λ (g : Gathering). Answers Idle (Ok (Some batch)) before g left_before left files_before first last) (sym e)
      (synced Idle before (record next { ended = false }) left_before left files_before first middle now.reading now.held u.progress last at batch u.late line (fits_before (now.reading.used + (at + 1)) fits)
      (turns_before (take at now.held) (Ok (Some batch)) next.reading last turns) held refl)

  pub answer_line : (next : Gathering) (last at : ℕ) (e : ScriptEnd) → EndsLine now.held at → now.reading.used + (at + 1) ≤ now.limits.input
      → Turns (turn_of (grammar now) (take at now.held)) (Err e) (now.reading.lines + 1) now.reading next.reading files middle last → Answers Idle (Err e) before next left_before left files_before first last
  answer_line next last at (Script number why) line fits turns =
      line_faulty Idle before next left_before left files_before first middle now.reading now.held u.progress last at number why line (fits_before (now.reading.used + (at + 1)) fits)
      (turns_before (take at now.held) (Err (Script number why)) next.reading last turns)
  answer_line next last at ReadFault line fits turns = absurd (turns.turned [] [])
  answer_line next last at NoMemory line fits turns =
      let t = turns_before (take at now.held) (Err NoMemory) next.reading last turns in
      out_of_memory Idle before next left_before left files_before first middle now.reading now.held u.progress last t.asked t.outcomes t.fetched

  progress_kept : (left_next : Option (List ℕ)) → Keeps left left_next → Progress (grammar before) before.reading before.held left_before left_next files_before first middle now.reading now.held
  progress_kept left_next kept = record {
    given = u.progress.given;
    asked = u.progress.asked;
    outcomes = u.progress.outcomes;
    lines = u.progress.lines;
    gave = Consumes-kept left_before left left_next u.progress.given u.progress.gave kept;
    fetched = u.progress.fetched;
    whole = u.progress.whole;
    cut = u.progress.cut;
    reads = u.progress.reads;
    goes = u.progress.goes;
  }

  pub answer_held : (next : Gathering) (left_next : Option (List ℕ)) (e : ScriptEnd) → Keeps left left_next → IsHeldFault now e → (e ≡ ReadFault → NoFeed now.held) → Answers Idle (Err e) before next left_before left_next files_before first middle
  answer_held next left_next (Script number why) kept fault whole =
      held_faulty Idle before next left_before left_next files_before first middle now.reading now.held (progress_kept left_next kept) number why
      (subst (λ (from : Grammar). (paths : List Text) (later : List File) (more : List ℕ) → IsFaultOf (Script number why) paths (commands_from from (reading_at now.reading paths later) (now.held ++ more))) same_grammar fault)
  answer_held next left_next ReadFault kept fault whole = unfinished Idle before next left_before left_next files_before first middle now.reading now.held (progress_kept left_next kept) (whole refl)
  answer_held next left_next NoMemory kept fault whole =
      out_of_memory Idle before next left_before left_next files_before first middle now.reading now.held (progress_kept left_next kept) middle [] [] (none_so_far files_before middle middle (omega arith))

  pub answer_end : (next : Gathering) (last : ℕ) (result : Result (Option Batch) ScriptEnd) → NoFeed now.held → now.reading.used + length now.held ≤ now.limits.input → IsAtEnd left → HasSameRules now next
      → Ends (λ r. ended (grammar now) false now.held [] (Stands r)) result now.reading files middle last → Answers Idle result before next left_before left files_before first last
  answer_end next last result whole fits end same ends =
      finished Idle before next left_before left files_before first middle now.reading now.held u.progress last result u.late whole (fits_before (now.reading.used + length now.held) fits) end (same.ended ∙ u.ended)
      (subst (λ (from : Grammar). Ends (λ r. ended from false now.held [] (Stands r)) result now.reading files_before middle last) same_grammar
      (subst (λ (fs : Option (List shelf.File)). Ends (λ r. ended (grammar now) false now.held [] (Stands r)) result now.reading fs middle last) u.same_files ends))

pub no_read_fault : (end : Reading → Commands) (result : Result (Option Batch) ScriptEnd) (before : Reading) (files : Option (List shelf.File)) (first last : ℕ) → Ends end result before files first last → result ≡ Err ReadFault → ⊥
no_read_fault end (Ok found) before files first last ends e = cc e
no_read_fault end (Err (Script number why)) before files first last ends e = cc e
no_read_fault end (Err ReadFault) before files first last ends e = ends.ended [] []
no_read_fault end (Err NoMemory) before files first last ends e = cc e

pub no_line_fault : (step : Reading → Turn) (e : ScriptEnd) (line : ℕ) (before after : Reading) (files : Option (List shelf.File)) (first last : ℕ) → Turns step (Err e) line before after files first last → e ≡ ReadFault → ⊥
no_line_fault step (Script number why) line before after files first last turns e = cc e
no_line_fault step ReadFault line before after files first last turns e = turns.turned [] []
no_line_fault step NoMemory line before after files first last turns e = cc e

no_bytes : (bytes : List ℕ) → length bytes ≡ 0 → bytes ≡ []
no_bytes [] h = refl
no_bytes (byte ∷ bytes) h = absurd (omega (arith, h))

-- If no byte was read, what is held is as before.
pub nothing_came : (left left_next : Option (List ℕ)) (held held_next : List ℕ) (count : ℕ) → Came left left_next held held_next count → count ≡ 0 → held_next ≡ held
nothing_came left left_next held held_next count came none =
    came.held ∙ ap (λ (xs : List ℕ). held ++ xs) (no_bytes came.piece (came.size ∙ none)) ∙ append-nil held
