-- The rows of the table of statuses, from how far a run is.
use Rattle.std.proofs.Common.{◌≡◌, refl, ap, sym, ◌∙◌, subst, ℕ, ◌-◌, ◌<◌, ◌≤◌, inl, inr, sum_by, List, [], ◌∷◌, ◌++◌, append_assoc, true, false, length, take, arith, length-append, flat_map}
use Rattle.std.specs.Prelude.{Option, Some, None}
use Rattle.std.specs.Io.KnownBytes.{Appends, Consumes, IsAtEnd}
use Rattle.std.proofs.KnownBytes.{Consumes-trans}
use Rattle.std.proofs.lemmas.List.{append-nil}
use Rattle.std.proofs.Math.Seq.{take-append_seam}
use Rattle.lake_io.specs.Files as shelf
use Rattle.record_model.specs.Rules.{Rules}
use Rattle.lake_model.specs.Texts.{Text, Lines, lines_of}
use Rattle.script_model.specs.declared.Reason.{Reason}
use Rattle.script_model.specs.declared.ScriptLimits.{ScriptLimits}
use Rattle.record_model.specs.declared.Status.TheVariants as status
use Rattle.script_model.specs.Commands.{File, Batch, fetches}
use Rattle.script_model.specs.Words.{NoFeed, line_text}
use Rattle.script_model.specs.Reading.{Grammar, Reading, Stands, LinesRead, read, read_with}
use Rattle.script_model.specs.Script.{Commands, Whole, FaultAt, commands_with, commands_from, grammar_of, standard, start, left_of}
use Rattle.script_model.specs.Options.{Options}
use Rattle.record_model.specs.Record.{Answered, RunRecord, with_end}
use Rattle.record_model.specs.Statuses.{script_of, begun, answer_count, IsPrefix, IsRecordOf, IsDone, IsRefused, IsBrokenOff, IsCutOff}
use Rattle.record_model.specs.Texts.{answers_text, text, text_behind}
use Rattle.script_model.proofs.ScriptLemmas.{lines_none}
use Rattle.script_model.proofs.LinesLemmas.{lines_whole}
use Rattle.script_text.specs.Outcomes.{AreFetched, AreFetchedSoFar}
use Rattle.script_text.specs.Gathering.{Gathering, ReadsOn, IsSynced, IsWhole, IsFaulty, IsUnfinished, reading_at, grammar}
use Rattle.script_text.proofs.BatchLemmas.{ReadsLate}
use Rattle.script_text.proofs.ProgressLemmas.{fetched_join}
use Rattle.josie_top.specs.Meets.{IsReadLate, Meets}
use Rattle.josie_top.specs.World.{HasMoved, World}
use Rattle.josie_top.specs.Progress.{AreRead, AreWritten, IsGoingOn, IsLateSoFar, IsMade}
use Rattle.script_laws.proofs.FetchFacts.{reads_fetches}
use Rattle.josie_top.proofs.ReadFacts.{given_before, reads_more, reads_commands, outcomes_size, fetched_so_far}
use Rattle.josie_top.proofs.MadeFacts.{made_record, made_record_now, record_count}
use Rattle.josie_top.proofs.TextFacts.{text_unended, text_more, text_ended, whole_prefix, prefix_more, prefix_behind, answers_prefix}

-- ---- the script

pub grammar_is : (options : Options) (gathering : Gathering) → IsGoingOn options gathering → grammar gathering ≡ grammar_of standard options.lanes
grammar_is options gathering goes = ap (λ (l : ScriptLimits). grammar_of l gathering.lanes) goes.limits_are ∙ ap (grammar_of standard) goes.lanes_are

used_within : (options : Options) (gathering : Gathering) → IsGoingOn options gathering → gathering.reading.used ≤ (grammar_of standard options.lanes).input
used_within options gathering goes = subst (λ (l : ScriptLimits). gathering.reading.used ≤ l.input) goes.limits_are goes.within

-- The whole script: the batches that were read, and what the rest of the bytes gives.
pub script_front : (options : Options) (before now : World) (left : Option (List ℕ)) (gathering : Gathering) (batches : List Batch)
    → (been : AreRead options before now gathering batches) → IsGoingOn options gathering → (more : List ℕ) (later : List File)
    → script_of options (been.outcomes ++ later) (been.given ++ more) left ≡ given_before batches been.asked (commands_from (grammar_of standard options.lanes) (reading_at gathering.reading [] later) ((gathering.held ++ more) ++ left_of left))
script_front options before now left gathering batches been goes more later =
    ap (commands_from (grammar_of standard options.lanes) (start (been.outcomes ++ later))) (append_assoc been.given more (left_of left))
    ∙ reads_commands (grammar_of standard options.lanes) (start []) gathering.reading been.given gathering.held been.outcomes batches been.asked later (more ++ left_of left) been.lines_read (used_within options gathering goes)
    ∙ ap (λ (bytes : List ℕ). given_before batches been.asked (commands_from (grammar_of standard options.lanes) (reading_at gathering.reading [] later) bytes)) (sym (append_assoc gathering.held more (left_of left)))

-- ---- cut

front_batches : (script rest : Commands) (batches : List Batch) (asked : List Text) → script ≡ given_before batches asked rest → take (length batches) script.batches ≡ batches
front_batches script rest batches asked is = ap (λ (s : Commands). take (length batches) s.batches) is ∙ take-append_seam batches rest.batches

front_asked : (script rest : Commands) (batches : List Batch) (asked : List Text) (outcomes : List File) → script ≡ given_before batches asked rest → length outcomes ≡ length asked → take (length outcomes) script.asked ≡ asked
front_asked script rest batches asked outcomes is size =
    ap (λ (n : ℕ). take n script.asked) size ∙ ap (λ (s : Commands). take (length asked) s.asked) is ∙ take-append_seam asked rest.asked

front_fetches : (script rest : Commands) (batches : List Batch) (asked : List Text) (outcomes : List File) → script ≡ given_before batches asked rest → length outcomes ≡ length asked → sum_by fetches batches ≤ length asked
    → sum_by fetches (take (length batches) script.batches) ≤ length outcomes
front_fetches script rest batches asked outcomes is size few =
    subst (λ (b : List Batch). sum_by fetches b ≤ length outcomes) (sym (front_batches script rest batches asked is)) (subst (λ (n : ℕ). sum_by fetches batches ≤ n) (sym size) few)

-- a run that ends after some batches, whose source may have more
pub cut : (rules : Rules) (options : Options) (outcomes : List File) (came : List Text → Type 0) (script rest : Commands) (left : Option (List ℕ)) (taken : List ℕ) (made : RunRecord) (batches : List Batch) (asked : List Text)
    → script ≡ given_before batches asked rest → length outcomes ≡ length asked → sum_by fetches batches ≤ length asked → came asked → IsRecordOf rules options batches made → made.ended ≡ false
    → IsPrefix taken (text made) → IsPrefix (answers_text options.trace (take (answer_count options.merge (take (length batches - 1) script.batches)) made.answers)) taken
    → IsCutOff rules options outcomes came script left taken made
cut rules options outcomes came script rest left taken made batches asked is size few fetched record_of not_ended beginning holds = record {
  count = length batches;
  fetched = subst came (sym (front_asked script rest batches asked outcomes is size)) fetched;
  asked = front_fetches script rest batches asked outcomes is size few;
  record_of = subst (λ (b : List Batch). IsRecordOf rules options b made) (sym (front_batches script rest batches asked is)) record_of;
  ended = λ e. absurd (let no : true ≡ false = sym e ∙ not_ended in cc);
  beginning = beginning;
  holds = holds;
}

-- the files stay the same, so what was fetched later follows what was fetched before
pub fetched_on : (before mid now : World) (asked paths : List Text) (outcomes others : List File) → HasMoved before mid
    → AreFetched before.files before.fetch_faults mid.fetch_faults asked outcomes → AreFetched mid.files mid.fetch_faults now.fetch_faults paths others
    → AreFetched before.files before.fetch_faults now.fetch_faults (asked ++ paths) (outcomes ++ others)
fetched_on before mid now asked paths outcomes others moved first second =
    fetched_join before.files before.fetch_faults mid.fetch_faults now.fetch_faults asked paths outcomes others first
    (subst (λ (files : Option (List shelf.File)). AreFetched files mid.fetch_faults now.fetch_faults paths others) moved.files second)

-- a run that ends between two batches, all of whose text is written
pub meets_between : (rules : Rules) (options : Options) (before mid now : World) (gathering : Gathering) (batches : List Batch) (made : RunRecord) (more : List ℕ)
    → (been : AreRead options before mid gathering batches) → IsGoingOn options gathering → IsMade rules options batches made → (writ : AreWritten options before mid made)
    → Consumes mid.left now.left more → mid.fetch_faults ≤ now.fetch_faults → now.written ≡ mid.written → Meets rules options status.NoMemory before now made
meets_between rules options before mid now gathering batches made more been goes is writ gave later unwritten =
    let not_ended = is.unended in
    let front = script_front options before mid now.left gathering batches been goes more [] in
    let same : been.outcomes ++ [] ≡ been.outcomes = append-nil been.outcomes in
    let script : script_of options been.outcomes (been.given ++ more) now.left ≡ given_before batches been.asked _ = ap (λ (o : List File). script_of options o (been.given ++ more) now.left) (sym same) ∙ front in
    let all : writ.taken ≡ text made = writ.text_is ∙ sym (text_unended options made is.options_are not_ended) in
    let row : IsCutOff rules options been.outcomes (λ asked. AreFetchedSoFar before.files before.fetch_faults now.fetch_faults asked been.outcomes) (script_of options been.outcomes (been.given ++ more) now.left) now.left writ.taken made =
    cut rules options been.outcomes (λ asked. AreFetchedSoFar before.files before.fetch_faults now.fetch_faults asked been.outcomes) _ _ now.left writ.taken made batches been.asked script (outcomes_size before.files before.fetch_faults mid.fetch_faults been.asked been.outcomes been.fetched)
    (reads_fetches standard options.lanes gathering.reading been.given gathering.held been.outcomes batches been.asked been.lines_read)
    (fetched_so_far before.files before.fetch_faults mid.fetch_faults now.fetch_faults been.asked been.outcomes been.fetched later) (made_record_now rules options batches made is) not_ended
    (whole_prefix writ.taken (text made) all) (subst (IsPrefix _) (sym writ.text_is) (answers_prefix options.trace _ made.answers)) in
    record {
      given = been.given ++ more;
      taken = writ.taken;
      outcomes = been.outcomes;
      gave = Consumes-trans before.left mid.left now.left been.given more been.gave gave;
      took = subst (λ (w : Option (List ℕ)). Appends before.written w writ.taken) (sym unwritten) writ.took;
      row = inr row;
      late = tt;
    }

-- ---- a batch that was answered, and whose text was written only in part

-- the text of one batch more
batch_text : (options : Options) (before now : RunRecord) (new : List Answered) → now.options ≡ options → now.answers ≡ before.answers ++ new → now.ended ≡ false
    → text now ≡ answers_text options.trace before.answers ++ text_behind options.trace (length before.answers) now
batch_text options before now new options_are are not_ended = text_unended options now options_are not_ended ∙ text_more options.trace before now new are not_ended

-- the answers of the batches before the last
first_answers : (options : Options) (script rest : Commands) (batches : List Batch) (batch : Batch) (asked : List Text) (before now : RunRecord) (new : List Answered)
    → script ≡ given_before (batches ++ batch ∷ []) asked rest → length before.answers ≡ answer_count options.merge batches → now.answers ≡ before.answers ++ new
    → take (answer_count options.merge (take (length (batches ++ batch ∷ []) - 1) script.batches)) now.answers ≡ before.answers
first_answers options script rest batches batch asked before now new is count are =
    let many : length (batches ++ batch ∷ []) - 1 ≡ length batches = omega (arith, length-append batches (batch ∷ [])) in
    let there : take (length batches) script.batches ≡ batches =
    ap (λ (s : Commands). take (length batches) s.batches) is ∙ ap (take (length batches)) (append_assoc batches (batch ∷ []) rest.batches) ∙ take-append_seam batches (batch ∷ rest.batches) in
    ap (λ (n : ℕ). take (answer_count options.merge (take n script.batches)) now.answers) many
    ∙ ap (λ (b : List Batch). take (answer_count options.merge b) now.answers) there
    ∙ ap (λ (n : ℕ). take n now.answers) (sym count) ∙ ap (take (length before.answers)) are ∙ take-append_seam before.answers new

-- The run ended while the text of a batch was being written.
pub cut_within : (rules : Rules) (options : Options) (outcomes : List File) (came : List Text → Type 0) (script rest : Commands) (left : Option (List ℕ)) (before now : RunRecord) (new : List Answered) (batches : List Batch) (batch : Batch) (asked : List Text) (taken part : List ℕ)
    → script ≡ given_before (batches ++ batch ∷ []) asked rest → length outcomes ≡ length asked → sum_by fetches (batches ++ batch ∷ []) ≤ length asked → came asked
    → IsMade rules options batches before → IsMade rules options (batches ++ batch ∷ []) now → now.answers ≡ before.answers ++ new
    → taken ≡ answers_text options.trace before.answers → IsPrefix part (text_behind options.trace (length before.answers) now)
    → IsCutOff rules options outcomes came script left (taken ++ part) now
cut_within rules options outcomes came script rest left before now new batches batch asked taken part is size few fetched made_before made_now are taken_is beginning =
    let not_ended = made_now.unended in
    let whole : text now ≡ taken ++ text_behind options.trace (length before.answers) now =
    batch_text options before now new made_now.options_are are not_ended ∙ ap (λ (t : List ℕ). t ++ text_behind options.trace (length before.answers) now) (sym taken_is) in
    let count : length before.answers ≡ answer_count options.merge batches = record_count rules options batches before (made_record_now rules options batches before made_before) in
    let first : answers_text options.trace (take (answer_count options.merge (take (length (batches ++ batch ∷ []) - 1) script.batches)) now.answers) ≡ taken =
    ap (answers_text options.trace) (first_answers options script rest batches batch asked before now new is count are) ∙ sym taken_is in
    cut rules options outcomes came script rest left (taken ++ part) now (batches ++ batch ∷ []) asked is size few fetched (made_record_now rules options (batches ++ batch ∷ []) now made_now) not_ended
    (subst (IsPrefix (taken ++ part)) (sym whole) (prefix_behind taken part _ beginning))
    (prefix_more _ taken part (whole_prefix _ taken first))

-- ---- the whole input

-- the script of an input that is at its end
pub script_whole : (options : Options) (first second : World) (left : Option (List ℕ)) (before now : Gathering) (batches later : List Batch) (more : List ℕ) (paths : List Text) (others : List File)
    → (been : AreRead options first second before batches) → IsGoingOn options before → IsWhole before now left more paths others later
    → script_of options (been.outcomes ++ others) (been.given ++ more) left ≡ commands_with (batches ++ later) Whole (been.asked ++ paths)
script_whole options first second left before now batches later more paths others been goes whole =
    let here : commands_from (grammar_of standard options.lanes) (reading_at before.reading [] others) (before.held ++ more) ≡ commands_with later Whole paths =
    subst (λ (g : Grammar). commands_from g (reading_at before.reading [] others) (before.held ++ more) ≡ commands_with later Whole paths) (grammar_is options before goes) whole.commands in
    script_front options first second left before batches been goes more others
    ∙ ap (λ (bytes : List ℕ). given_before batches been.asked (commands_from (grammar_of standard options.lanes) (reading_at before.reading [] others) bytes)) (end_of left (before.held ++ more) whole.at_end)
    ∙ ap (given_before batches been.asked) here
  where
    end_of : (left : Option (List ℕ)) (bytes : List ℕ) → IsAtEnd left → bytes ++ left_of left ≡ bytes
    end_of None bytes h = append-nil bytes
    end_of (Some more) bytes h = ap (λ (m : List ℕ). bytes ++ m) h ∙ append-nil bytes

-- such a script as its batches and then nothing
pub whole_front : (script : Commands) (batches : List Batch) (asked : List Text) → script ≡ commands_with batches Whole asked → script ≡ given_before batches asked (commands_with [] Whole [])
whole_front script batches asked is =
    is ∙ ap (λ (b : List Batch). commands_with b Whole asked) (sym (append-nil batches)) ∙ ap (λ (a : List Text). commands_with (batches ++ []) Whole a) (sym (append-nil asked))

-- All batches were answered, and all their text was written.
pub done : (rules : Rules) (options : Options) (came : List Text → Type 0) (script : Commands) (left : Option (List ℕ)) (batches : List Batch) (asked : List Text) (made : RunRecord) (taken : List ℕ)
    → script ≡ commands_with batches Whole asked → came asked → IsAtEnd left → IsMade rules options batches made
    → taken ≡ answers_text options.trace made.answers → IsDone rules options came script left (taken ++ text_behind options.trace (length made.answers) (with_end true made)) (with_end true made)
done rules options came script left batches asked made taken is fetched at_end is_made taken_is = record {
  read = at_end;
  whole = ap (λ (s : Commands). s.end) is;
  fetched = subst came (sym (ap (λ (s : Commands). s.asked) is)) fetched;
  ended = refl;
  record_of = subst (λ (b : List Batch). IsRecordOf rules options b (with_end true made)) (sym (ap (λ (s : Commands). s.batches) is)) (made_record rules options batches made true is_made);
  written = ap (λ (t : List ℕ). t ++ text_behind options.trace (length made.answers) (with_end true made)) taken_is ∙ sym (text_ended options made is_made.options_are);
}

-- All batches were answered and their text was written, but the text of the journal only in part.
pub cut_at_end : (rules : Rules) (options : Options) (outcomes : List File) (came : List Text → Type 0) (script : Commands) (left : Option (List ℕ)) (batches : List Batch) (asked : List Text) (made : RunRecord) (taken part : List ℕ)
    → script ≡ commands_with batches Whole asked → length outcomes ≡ length asked → sum_by fetches batches ≤ length asked → came asked → IsAtEnd left → IsMade rules options batches made
    → taken ≡ answers_text options.trace made.answers → IsPrefix part (text_behind options.trace (length made.answers) (with_end true made))
    → IsCutOff rules options outcomes came script left (taken ++ part) (with_end true made)
cut_at_end rules options outcomes came script left batches asked made taken part is size few fetched at_end is_made taken_is beginning =
    let front = whole_front script batches asked is in
    let all : take (length batches) script.batches ≡ script.batches = front_batches script (commands_with [] Whole []) batches asked front ∙ sym (ap (λ (s : Commands). s.batches) is) in
    let whole : text (with_end true made) ≡ taken ++ text_behind options.trace (length made.answers) (with_end true made) =
    text_ended options made is_made.options_are ∙ ap (λ (t : List ℕ). t ++ text_behind options.trace (length made.answers) (with_end true made)) (sym taken_is) in
    record {
      count = length batches;
      fetched = subst came (sym (front_asked script (commands_with [] Whole []) batches asked outcomes front size)) fetched;
      asked = front_fetches script (commands_with [] Whole []) batches asked outcomes front size few;
      record_of = subst (λ (b : List Batch). IsRecordOf rules options b (with_end true made)) (sym (front_batches script (commands_with [] Whole []) batches asked front)) (made_record rules options batches made true is_made);
      ended = λ e. (at_end, ap (λ (s : Commands). s.end) is, all);
      beginning = subst (IsPrefix (taken ++ part)) (sym whole) (prefix_behind taken part _ beginning);
      holds = prefix_more _ taken part (subst (IsPrefix _) (sym taken_is) (answers_prefix options.trace _ made.answers));
    }

-- ---- faults of the script and of the source

-- the script whose line is the first at fault
pub script_refused : (options : Options) (before mid : World) (left : Option (List ℕ)) (gathering : Gathering) (batches : List Batch) (more : List ℕ) (paths : List Text) (others : List File) (line : ℕ) (why : Reason)
    → (been : AreRead options before mid gathering batches) → IsGoingOn options gathering → IsFaulty gathering left more paths others line why
    → script_of options (been.outcomes ++ others) (been.given ++ more) left ≡ commands_with (batches ++ []) (FaultAt line why) (been.asked ++ paths)
script_refused options before mid left gathering batches more paths others line why been goes faulty =
    let here : commands_from (grammar_of standard options.lanes) (reading_at gathering.reading [] others) ((gathering.held ++ more) ++ left_of left) ≡ commands_with [] (FaultAt line why) paths =
    subst (λ (g : Grammar). commands_from g (reading_at gathering.reading [] others) ((gathering.held ++ more) ++ left_of left) ≡ commands_with [] (FaultAt line why) paths) (grammar_is options gathering goes) faulty.commands in
    script_front options before mid left gathering batches been goes more others ∙ ap (given_before batches been.asked) here

-- The line is the first at fault.
pub refused : (rules : Rules) (options : Options) (before mid now : World) (gathering : Gathering) (batches : List Batch) (made : RunRecord) (taken more : List ℕ) (paths : List Text) (others : List File) (line : ℕ) (why : Reason)
    → HasMoved before mid → (been : AreRead options before mid gathering batches) → IsGoingOn options gathering → IsMade rules options batches made → taken ≡ answers_text options.trace made.answers
    → AreFetched mid.files mid.fetch_faults now.fetch_faults paths others → IsFaulty gathering now.left more paths others line why
    → IsRefused rules options (λ asked. AreFetched before.files before.fetch_faults now.fetch_faults asked (been.outcomes ++ others)) (script_of options (been.outcomes ++ others) (been.given ++ more) now.left) line why taken made
refused rules options before mid now gathering batches made taken more paths others line why moved been goes is taken_is fetched faulty =
    let script = script_refused options before mid now.left gathering batches more paths others line why been goes faulty in
    let same : (script_of options (been.outcomes ++ others) (been.given ++ more) now.left).batches ≡ batches = ap (λ (s : Commands). s.batches) script ∙ append-nil batches in
    let not_ended = is.unended in
    record {
      fault = ap (λ (s : Commands). s.end) script;
      fetched = subst (λ (asked : List Text). AreFetched before.files before.fetch_faults now.fetch_faults asked (been.outcomes ++ others)) (sym (ap (λ (s : Commands). s.asked) script))
          (fetched_on before mid now been.asked paths been.outcomes others moved been.fetched fetched);
      ended = not_ended;
      record_of = subst (λ (b : List Batch). IsRecordOf rules options b made) (sym same) (made_record_now rules options batches made is);
      written = taken_is ∙ sym (text_unended options made is.options_are not_ended);
    }

-- the script so far, if these lines were read in full
begun_is : (options : Options) (outcomes : List File) (given held : List ℕ) (batches : List Batch) (after : Reading) (asked : List Text)
    → ReadsOn (grammar_of standard options.lanes) (start []) given outcomes batches after held asked → NoFeed held → (later : List File) → begun options (outcomes ++ later) given ≡ read_with batches (Stands (reading_at after asked later))
begun_is options outcomes given held batches after asked lines_read no_feed later =
    let lines : lines_of given ≡ lines_of (flat_map line_text lines_read.lines ++ held) = ap lines_of lines_read.cut in
    let whole = lines_whole lines_read.lines held lines_read.whole in
    let ends : (lines_of given).ended ≡ lines_read.lines =
    ap (λ (ls : Lines). ls.ended) (lines ∙ whole) ∙ ap (λ (ls : Lines). lines_read.lines ++ ls.ended) (lines_none held no_feed) ∙ append-nil lines_read.lines in
    ap (read (grammar_of standard options.lanes) (read_with [] (Stands (start (outcomes ++ later))))) ends ∙ lines_read.reads later

-- the script so far, if the source failed
pub begun_unfinished : (options : Options) (before mid : World) (gathering : Gathering) (batches : List Batch) (more : List ℕ) (paths : List Text) (others : List File)
    → (been : AreRead options before mid gathering batches) → IsGoingOn options gathering → (unfinished : IsUnfinished gathering more paths others)
    → begun options (been.outcomes ++ others) (been.given ++ more) ≡ read_with (batches ++ []) (Stands (reading_at unfinished.reading (been.asked ++ paths) []))
begun_unfinished options before mid gathering batches more paths others been goes unfinished =
    let here : ReadsOn (grammar_of standard options.lanes) gathering.reading (gathering.held ++ more) others [] unfinished.reading unfinished.held paths =
    subst (λ (g : Grammar). ReadsOn g gathering.reading (gathering.held ++ more) others [] unfinished.reading unfinished.held paths) (grammar_is options gathering goes) unfinished.lines_read in
    let all = reads_more (grammar_of standard options.lanes) (start []) gathering.reading unfinished.reading been.given more gathering.held unfinished.held been.outcomes others batches [] been.asked paths been.lines_read here in
    ap (λ (o : List File). begun options o (been.given ++ more)) (sym (append-nil (been.outcomes ++ others)))
    ∙ begun_is options (been.outcomes ++ others) (been.given ++ more) unfinished.held (batches ++ []) unfinished.reading (been.asked ++ paths) all unfinished.rest []

-- The source failed after these batches.
pub broken_off : (rules : Rules) (options : Options) (before mid now : World) (gathering : Gathering) (batches : List Batch) (made : RunRecord) (taken more : List ℕ) (paths : List Text) (others : List File)
    → HasMoved before mid → (been : AreRead options before mid gathering batches) → IsGoingOn options gathering → IsMade rules options batches made → taken ≡ answers_text options.trace made.answers
    → AreFetched mid.files mid.fetch_faults now.fetch_faults paths others → IsUnfinished gathering more paths others
    → IsBrokenOff rules options (λ asked. AreFetched before.files before.fetch_faults now.fetch_faults asked (been.outcomes ++ others)) (begun options (been.outcomes ++ others) (been.given ++ more)) taken made
broken_off rules options before mid now gathering batches made taken more paths others moved been goes is taken_is fetched unfinished =
    let begun_here = begun_unfinished options before mid gathering batches more paths others been goes unfinished in
    let not_ended = is.unended in
    let row : IsBrokenOff rules options (λ asked. AreFetched before.files before.fetch_faults now.fetch_faults asked (been.outcomes ++ others)) (read_with (batches ++ []) (Stands (reading_at unfinished.reading (been.asked ++ paths) []))) taken made =
    record {
      no_fault = tt;
      fetched = fetched_on before mid now been.asked paths been.outcomes others moved been.fetched fetched;
      ended = not_ended;
      record_of = subst (λ (b : List Batch). IsRecordOf rules options b made) (sym (append-nil batches)) (made_record_now rules options batches made is);
      written = taken_is ∙ sym (text_unended options made is.options_are not_ended);
    } in
    subst (λ (b : LinesRead). IsBrokenOff rules options (λ asked. AreFetched before.files before.fetch_faults now.fetch_faults asked (been.outcomes ++ others)) b taken made) (sym begun_here) row

-- ---- one batch more

-- what was read, up to one more `sync`
unfoldable pub read_synced : (options : Options) (first second third : World) (before now : Gathering) (batches : List Batch) (batch : Batch) (more : List ℕ) (paths : List Text) (others : List File)
    → HasMoved first second → (been : AreRead options first second before batches) → IsGoingOn options before → Consumes second.left third.left more
    → AreFetched second.files second.fetch_faults third.fetch_faults paths others → IsSynced before now more paths others batch → AreRead options first third now (batches ++ batch ∷ [])
read_synced options first second third before now batches batch more paths others moved been goes gave fetched synced =
    let here : ReadsOn (grammar_of standard options.lanes) before.reading (before.held ++ more) others (batch ∷ []) now.reading now.held paths =
    subst (λ (g : Grammar). ReadsOn g before.reading (before.held ++ more) others (batch ∷ []) now.reading now.held paths) (grammar_is options before goes) synced.lines_read in
    record {
      given = been.given ++ more;
      asked = been.asked ++ paths;
      outcomes = been.outcomes ++ others;
      gave = Consumes-trans first.left second.left third.left been.given more been.gave gave;
      fetched = fetched_on first second third been.asked paths been.outcomes others moved been.fetched fetched;
      lines_read = reads_more (grammar_of standard options.lanes) (start []) before.reading now.reading been.given more before.held now.held been.outcomes others batches (batch ∷ []) been.asked paths been.lines_read here;
    }

-- ---- the last read

-- Nothing was read.
pub late_start : (options : Options) → IsLateSoFar options [] [] 0
unfolding read
late_start options = record {
  first = [];
  last = [];
  came = [];
  later = [];
  asked = [];
  batches = [];
  reading = start [];
  held = [];
  given_is = refl;
  few = omega arith;
  outcomes_are = refl;
  lines_read = record { lines = []; whole = tt; cut = refl; reads = λ later. refl };
  rest = tt;
  fewer = omega arith;
}

-- One more batch was gathered, and the source was read late for it.
pub late_more : (options : Options) (before now : World) (gathering : Gathering) (batches : List Batch) (Idle : Type 0) (more : List ℕ) (others : List File)
    → (been : AreRead options before now gathering batches) → IsGoingOn options gathering → IsLateSoFar options been.given been.outcomes (length batches - 1) → ReadsLate Idle gathering more others
    → IsLateSoFar options (been.given ++ more) (been.outcomes ++ others) (length batches)
late_more options before now gathering batches Idle more others been goes late (inl (idle, none)) = record {
  first = late.first;
  last = late.last;
  came = late.came;
  later = late.later ++ others;
  asked = late.asked;
  batches = late.batches;
  reading = late.reading;
  held = late.held;
  given_is = ap (λ (bytes : List ℕ). been.given ++ bytes) none ∙ append-nil been.given ∙ late.given_is;
  few = late.few;
  outcomes_are = ap (λ (o : List File). o ++ others) late.outcomes_are ∙ append_assoc late.came late.later others;
  lines_read = late.lines_read;
  rest = late.rest;
  fewer = omega (arith, late.fewer);
}
late_more options before now gathering batches Idle more others been goes late (inr read_late) =
    let unfinished = read_late.unfinished in
    let here : ReadsOn (grammar_of standard options.lanes) gathering.reading (gathering.held ++ read_late.first) read_late.came [] unfinished.reading unfinished.held read_late.asked =
    subst (λ (g : Grammar). ReadsOn g gathering.reading (gathering.held ++ read_late.first) read_late.came [] unfinished.reading unfinished.held read_late.asked) (grammar_is options gathering goes) unfinished.lines_read in
    record {
      first = been.given ++ read_late.first;
      last = read_late.last;
      came = been.outcomes ++ read_late.came;
      later = read_late.later;
      asked = been.asked ++ read_late.asked;
      batches = batches ++ [];
      reading = unfinished.reading;
      held = unfinished.held;
      given_is = ap (λ (bytes : List ℕ). been.given ++ bytes) read_late.given_is ∙ sym (append_assoc been.given read_late.first read_late.last);
      few = read_late.few;
      outcomes_are = ap (λ (o : List File). been.outcomes ++ o) read_late.outcomes_are ∙ sym (append_assoc been.outcomes read_late.came read_late.later);
      lines_read = reads_more (grammar_of standard options.lanes) (start []) gathering.reading unfinished.reading been.given read_late.first gathering.held unfinished.held been.outcomes read_late.came batches [] been.asked read_late.asked been.lines_read here;
      rest = unfinished.rest;
      fewer = omega (arith, length-append batches []);
    }

-- The source was read late if more batches were answered.
pub late_within : (options : Options) (given : List ℕ) (outcomes : List File) (most : ℕ) (made : RunRecord) → IsLateSoFar options given outcomes most → most < length made.syncs → IsReadLate options given outcomes made
late_within options given outcomes most made late more =
    let begun_here : begun options outcomes late.first ≡ read_with late.batches (Stands (reading_at late.reading late.asked late.later)) =
    ap (λ (o : List File). begun options o late.first) late.outcomes_are ∙ begun_is options late.came late.first late.held late.batches late.reading late.asked late.lines_read late.rest late.later in
    record {
      first = late.first;
      last = late.last;
      given_is = late.given_is;
      few = late.few;
      fewer = omega (arith, ap (λ (b : LinesRead). length b.batches) begun_here, late.fewer, more);
    }
