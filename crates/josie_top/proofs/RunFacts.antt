-- The ends of a run, and one batch more.
use Rattle.std.proofs.Common.{◌≡◌, refl, ap, sym, ◌∙◌, subst, ℕ, ◌+◌, ◌-◌, ◌^◌, ◌<◌, ◌≤◌, ◌⊎◌, inl, inr, List, [], ◌∷◌, ◌++◌, Bool, true, false, length, arith, sum_by, length-append}
use Rattle.std.specs.Prelude.{Option, Some, None, Ok, Err, if◌then◌else◌, ⊤, MatchOption}
use Rattle.std.specs.Option.{IfSome}
use Rattle.std.specs.Io.KnownBytes.{Consumes, Appends, IsAtEnd}
use Rattle.std.proofs.KnownBytes.{Consumes-nil, Consumes-trans, Appends-nil, Appends-trans}
use Rattle.std.proofs.lemmas.List.{append-nil}
use Rattle.std.proofs.lemmas.List.Sums.{count_by-le-length, sum_by_push}
use Rattle.lake_io.specs.Causes.{Rose}
use Rattle.record_model.specs.Rules.{Rules, standard_rules}
use Rattle.lake_model.specs.declared.Keys.TheVariants.{Canonical}
use Rattle.lake_model.specs.Texts.{Text}
use Rattle.script_model.specs.declared.Reason.{Reason}
use Rattle.script_model.specs.declared.ScriptLimits.{ScriptLimits}
use Rattle.record_model.specs.declared.Status.{Status}
use Rattle.record_model.specs.declared.Status.TheVariants as status
use Rattle.script_model.specs.Commands.{File, Batch, is_update_task, updates, fetches}
use Rattle.script_model.specs.Reading.{read}
use Rattle.option_model.specs.Plain.{Mode, Run, Make, Watch, Check}
use Rattle.script_model.specs.Script.{Commands, Whole, FaultAt, commands, commands_with, standard, start, left_of}
use Rattle.script_model.specs.Options.{Options, plain}
use Rattle.record_model.specs.Record.{Answered, RunRecord, empty, with_end}
use Rattle.record_model.specs.Play.{merger_commands, merges_of}
use Rattle.script_model.specs.Lanes.{IsOfLanes}
use Rattle.record_model.specs.Statuses.{script_of, IsPrefix, IsCutOff}
use Rattle.record_model.specs.Texts.{text_behind}
use Rattle.script_text.specs.declared.refused.ScriptEnd.{ScriptEnd}
use Rattle.script_text.specs.declared.refused.ScriptEnd.TheVariants as end
use Rattle.command_line.specs.declared.words.WordsRefused.{WordsRefused}
use Rattle.command_line.specs.declared.words.WordsRefused.TheVariants as words
use Rattle.script_text.specs.Outcomes.{AreFetched, AreFetchedSoFar}
use Rattle.script_text.specs.Gathering.{Gathering, gathering_with, IsSynced, IsWhole}
use Rattle.script_text.specs.Gathers.{Gathers, Taken}
use Rattle.josie_top.specs.declared.writing.WriteStop.{WriteStop}
use Rattle.josie_top.specs.declared.writing.WriteStop.TheVariants as stop
use Rattle.josie_top.specs.Ends.{IsWritten, status_of_end, status_of_refused, status_of_stop}
use Rattle.script_text.proofs.BatchLemmas.{ReadsLate}
use Rattle.josie_top.specs.Meets.{EndsWell, HasNoFault, IsReadLate, Meets}
use Rattle.josie_top.specs.Modes.{EndsModeWell, IsSaid, MeetsMode}
use Rattle.josie_top.specs.Progress.{AddsAnswers, AreCounted, HasOneMore, IsAnswered, IsBegun, AreWritten, IsGoingOn, IsLateSoFar, IsMade, IsUnderWay}
use Rattle.josie_top.specs.World.{HasMoved, Moves, World, with_sink}
use Rattle.script_laws.proofs.FetchFacts.{reads_fetches, script_fetches}
use Rattle.josie_top.proofs.ReadFacts.{given_before, outcomes_size, fetched_so_far}
use Rattle.josie_top.proofs.StreamFacts.{rose_since}
use Rattle.josie_top.proofs.MadeFacts.{made_start, made_record_now, record_syncs}
use Rattle.josie_top.proofs.TextFacts.{text_more}
use Rattle.josie_top.proofs.RowFacts.{script_front, script_whole, whole_front, fetched_on, meets_between, cut_within, done, cut_at_end, refused, broken_off, read_synced, late_start, late_more, late_within}

-- ---- what moved

pub still : (world : World) → HasMoved world world
still world = record { files = refl; reads = omega arith; writes = omega arith; fetches = omega arith }

-- What moved in two steps.
pub moved_on : {before mid now : World} → HasMoved before mid → HasMoved mid now → HasMoved before now
moved_on first second = record {
  files = second.files ∙ first.files;
  reads = omega (arith, first.reads, second.reads);
  writes = omega (arith, first.writes, second.writes);
  fetches = omega (arith, first.fetches, second.fetches);
}

-- Only the sink moved.
pub sink_moved : (written : Option (List ℕ)) (faults : ℕ) (world : World) → world.write_faults ≤ faults → HasMoved world (with_sink written faults world)
sink_moved written faults world later = record { files = refl; reads = omega arith; writes = later; fetches = omega arith }

-- Causes that arose later.
pub moves_since : {refused : Type 0} {before mid now : World} (result : Status) → HasMoved before mid → Moves refused result mid now → Moves refused result before now
moves_since result moved since = record {
  moved = moved_on moved since.moved;
  usage = since.usage;
  read_fault = λ is. rose_since _ _ _ moved.reads (since.read_fault is);
  write_fault = λ is. rose_since _ _ _ moved.writes (since.write_fault is);
}

-- A status that has no cause.
pub moves_freely : {refused : Type 0} {before now : World} (result : Status) → HasMoved before now → (result ≡ status.Usage → ⊥) → (result ≡ status.ReadFault → ⊥) → (result ≡ status.WriteFault → ⊥)
    → Moves refused result before now
moves_freely result moved usage read wrote = record { moved = moved; usage = λ is. absurd (usage is); read_fault = λ is. absurd (read is); write_fault = λ is. absurd (wrote is) }

-- Running out of memory needs no other cause.
pub memory_moves : {refused : Type 0} {before now : World} → HasMoved before now → Moves refused status.NoMemory before now
memory_moves moved = moves_freely status.NoMemory moved
    (λ no. let e : status.NoMemory ≡ status.Usage = no in cc) (λ no. let e : status.NoMemory ≡ status.ReadFault = no in cc) (λ no. let e : status.NoMemory ≡ status.WriteFault = no in cc)

-- Nor does a run that ends well.
pub done_moves : {refused : Type 0} {before now : World} → HasMoved before now → Moves refused status.Done before now
done_moves moved = moves_freely status.Done moved
    (λ no. let e : status.Done ≡ status.Usage = no in cc) (λ no. let e : status.Done ≡ status.ReadFault = no in cc) (λ no. let e : status.Done ≡ status.WriteFault = no in cc)

-- ---- the start

-- Nothing was read, answered or written.
pub starts : (rules : Rules) (options : Options) (world : World) (gathering : Gathering) (made : RunRecord) (lanes : ℕ)
    → gathering ≡ gathering_with (start []) [] false standard lanes → lanes ≡ options.lanes → made ≡ empty options → IsUnderWay rules options world world gathering made 0 1
unfolding read
starts rules options world gathering made lanes gathers are is =
    subst (λ (g : Gathering). IsUnderWay rules options world world g made 0 1) (sym gathers)
    (subst (λ (m : RunRecord). IsUnderWay rules options world world (gathering_with (start []) [] false standard lanes) m 0 1) (sym is) (record {
      batches = [];
      moved = still world;
      been = record { given = []; asked = []; outcomes = []; gave = Consumes-nil world.left; fetched = refl; lines_read = record { lines = []; whole = tt; cut = refl; reads = λ later. refl } };
      goes = record { limits_are = refl; lanes_are = are; within = omega arith };
      is_made = made_start rules options;
      writ = record { taken = []; took = Appends-nil world.written; text_is = refl };
      counted = record { number_is = refl; next_is = refl; few = omega arith };
      late = late_start options;
    }))

-- ---- the end of the input

-- the batches of a whole script have no more fetches than it asks for paths
whole_fetches : (options : Options) (outcomes : List File) (given : List ℕ) (left : Option (List ℕ)) (batches : List Batch) (asked : List Text) → script_of options outcomes given left ≡ commands_with batches Whole asked → sum_by fetches batches ≤ length asked
whole_fetches options outcomes given left batches asked is =
    subst (λ (script : Commands). sum_by fetches script.batches ≤ length script.asked) is (script_fetches standard options.lanes (given ++ left_of left) outcomes)

-- All batches were answered and written, and the rest of the text as this status says.
finished : (rules : Rules) (options : Options) (ends : Status) (before mid : World) (written : Option (List ℕ)) (faults : ℕ) (given : List ℕ) (outcomes : List File) (asked : List Text) (batches : List Batch) (made now : RunRecord)
    → Consumes before.left mid.left given → IsAtEnd mid.left → AreFetched before.files before.fetch_faults mid.fetch_faults asked outcomes → script_of options outcomes given mid.left ≡ commands_with batches Whole asked
    → IsMade rules options batches made → (writ : AreWritten options before mid made) → now ≡ with_end true made → IsWritten ends mid.written written (text_behind options.trace (length made.answers) (with_end true made))
    → Meets rules options ends before (with_sink written faults mid) now
finished rules options status.Done before mid written faults given outcomes asked batches made now gave at_end fetched script is writ closed all =
    subst (Meets rules options status.Done before (with_sink written faults mid)) (sym closed) (record {
      given = given;
      taken = writ.taken ++ text_behind options.trace (length made.answers) (with_end true made);
      outcomes = outcomes;
      gave = gave;
      took = Appends-trans before.written mid.written written writ.taken _ writ.took all;
      row = done rules options (λ paths. AreFetched before.files before.fetch_faults mid.fetch_faults paths outcomes) _ mid.left batches asked made writ.taken script fetched at_end is writ.text_is;
      late = tt;
    })
finished rules options status.WriteFault before mid written faults given outcomes asked batches made now gave at_end fetched script is writ closed (part, beginning, took) =
    subst (Meets rules options status.WriteFault before (with_sink written faults mid)) (sym closed) (record {
      given = given;
      taken = writ.taken ++ part;
      outcomes = outcomes;
      gave = gave;
      took = Appends-trans before.written mid.written written writ.taken part writ.took took;
      row = cut_at_end rules options outcomes (λ paths. AreFetched before.files before.fetch_faults mid.fetch_faults paths outcomes) _ mid.left batches asked made writ.taken part script
          (outcomes_size before.files before.fetch_faults mid.fetch_faults asked outcomes fetched) (whole_fetches options outcomes given mid.left batches asked script) fetched at_end is writ.text_is beginning;
      late = λ not_ended. absurd (let no : true ≡ false = not_ended in cc);
    })
finished rules options status.NoMemory before mid written faults given outcomes asked batches made now gave at_end fetched script is writ closed (part, beginning, took) =
    subst (Meets rules options status.NoMemory before (with_sink written faults mid)) (sym closed) (record {
      given = given;
      taken = writ.taken ++ part;
      outcomes = outcomes;
      gave = gave;
      took = Appends-trans before.written mid.written written writ.taken part writ.took took;
      row = inr (cut_at_end rules options outcomes (λ paths. AreFetchedSoFar before.files before.fetch_faults mid.fetch_faults paths outcomes) _ mid.left batches asked made writ.taken part script
          (outcomes_size before.files before.fetch_faults mid.fetch_faults asked outcomes fetched) (whole_fetches options outcomes given mid.left batches asked script)
          (fetched_so_far before.files before.fetch_faults mid.fetch_faults mid.fetch_faults asked outcomes fetched (omega arith)) at_end is writ.text_is beginning);
      late = tt;
    })
finished rules options status.Usage before mid written faults given outcomes asked batches made now gave at_end fetched script is writ closed none = absurd none
finished rules options (status.Given path why) before mid written faults given outcomes asked batches made now gave at_end fetched script is writ closed none = absurd none
finished rules options status.ReadFault before mid written faults given outcomes asked batches made now gave at_end fetched script is writ closed none = absurd none
finished rules options status.Refuted before mid written faults given outcomes asked batches made now gave at_end fetched script is writ closed none = absurd none
finished rules options (status.Script line why) before mid written faults given outcomes asked batches made now gave at_end fetched script is writ closed none = absurd none

-- what was written before is unchanged if nothing was written since
still_written : (options : Options) (before mid now : World) (made : RunRecord) → now.written ≡ mid.written → AreWritten options before mid made → AreWritten options before now made
still_written options before mid now made unwritten writ = record {
  taken = writ.taken;
  took = subst (λ (w : Option (List ℕ)). Appends before.written w writ.taken) (sym unwritten) writ.took;
  text_is = writ.text_is;
}

-- The input ended after a `sync`, or without a further command.
pub ends_without : {number next : ℕ} {found : Option Batch} (rules : Rules) (options : Options) (ends : Status) (first second third : World) (written : Option (List ℕ)) (faults : ℕ) (before after : Gathering) (made now : RunRecord)
    → IsUnderWay rules options first second before made number next → (took : Taken (Ok found) second.left third.left second.files second.fetch_faults third.fetch_faults) → third.written ≡ second.written
    → IsWhole before after third.left took.given took.asked took.outcomes [] → now ≡ with_end true made → IsWritten ends third.written written (text_behind options.trace (length made.answers) (with_end true made))
    → Meets rules options ends first (with_sink written faults third) now
ends_without rules options ends first second third written faults before after made now way took unwritten whole closed rest =
    let script : script_of options (way.been.outcomes ++ took.outcomes) (way.been.given ++ took.given) third.left ≡ commands_with (way.batches ++ []) Whole (way.been.asked ++ took.asked) =
    script_whole options first second third.left before after way.batches [] took.given took.asked took.outcomes way.been way.goes whole in
    finished rules options ends first third written faults (way.been.given ++ took.given) (way.been.outcomes ++ took.outcomes) (way.been.asked ++ took.asked) way.batches made now
    (Consumes-trans first.left second.left third.left way.been.given took.given way.been.gave took.gave) whole.at_end
    (fetched_on first second third way.been.asked took.asked way.been.outcomes took.outcomes way.moved way.been.fetched took.fetched)
    (script ∙ ap (λ (b : List Batch). commands_with b Whole (way.been.asked ++ took.asked)) (append-nil way.batches)) way.is_made (still_written options first second third made unwritten way.writ) closed rest

-- ---- one batch more

-- the merger's commands in a batch, if these are its numbers
pub merger_made : (merge : Bool) (merger : Option ℕ) (next : ℕ) (batch : Batch) → merger ≡ (if merge then Some next else None) → merges_of merger batch ≡ merger_commands merge next batch
merger_made true merger next batch is = ap (λ (m : Option ℕ). merges_of m batch) is
merger_made false merger next batch is = ap (λ (m : Option ℕ). merges_of m batch) is

-- A driver made a batch of the record that is under way.
pub batch_made : {used number next : ℕ} (rules : Rules) (options : Options) (batches : List Batch) (before now : RunRecord) (batch : Batch) (merge : Bool) (merger : Option ℕ)
    → merge ≡ options.merge → merger ≡ (if merge then Some next else None) → AreCounted batches used number next
    → HasOneMore rules number merger batch before now → IsMade rules options batches before → IsMade rules options (batches ++ batch ∷ []) now
batch_made {next = next} rules options batches before now batch merge merger same merger_is counted more is =
    let merges : merges_of merger batch ≡ merger_commands before.options.merge (1 + sum_by updates batches) batch =
    merger_made merge merger next batch merger_is ∙ ap (λ (n : ℕ). merger_commands merge n batch) counted.next_is
    ∙ ap (λ (b : Bool). merger_commands b (1 + sum_by updates batches) batch) (same ∙ sym (ap (λ (o : Options). o.merge) is.options_are)) in
    subst (λ (o : Options). IsMade rules o (batches ++ batch ∷ []) now) is.options_are
    (more batches counted.number_is merges (subst (λ (o : Options). IsMade rules o batches before) (sym is.options_are) is))

pub batch_written : (rules : Rules) (options : Options) (first mid : World) (written : Option (List ℕ)) (faults : ℕ) (batches : List Batch) (before now : RunRecord) (new : List Answered) → AreWritten options first mid before
    → IsMade rules options batches now → now.answers ≡ before.answers ++ new → Appends mid.written written (text_behind options.trace (length before.answers) now) → AreWritten options first (with_sink written faults mid) now
batch_written rules options first mid written faults batches before now new writ is are took =
    let text : List ℕ = text_behind options.trace (length before.answers) now in
    record {
      taken = writ.taken ++ text;
      took = Appends-trans first.written mid.written written writ.taken text writ.took took;
      text_is = ap (λ (t : List ℕ). t ++ text) writ.text_is ∙ sym (text_more options.trace before now new are (is.unended));
    }

pub goes_on : (options : Options) (before now : Gathering) → IsGoingOn options before → now.limits ≡ before.limits → now.lanes ≡ before.lanes → now.reading.used ≤ now.limits.input → IsGoingOn options now
goes_on options before now goes limits_are lanes_are within = record { limits_are = limits_are ∙ goes.limits_are; lanes_are = lanes_are ∙ goes.lanes_are; within = within }

pub not_whole : (before now : Gathering) (left : Option (List ℕ)) (given : List ℕ) (asked : List Text) (outcomes : List File) (batch : Batch) → now.ended ≡ false
    → IsSynced before now given asked outcomes batch ⊎ IsWhole before now left given asked outcomes (batch ∷ []) → IsSynced before now given asked outcomes batch
not_whole before now left given asked outcomes batch on (inl synced) = synced
not_whole before now left given asked outcomes batch on (inr whole) = absurd (let no : true ≡ false = sym whole.ended ∙ on in cc)

pub not_synced : (before now : Gathering) (left : Option (List ℕ)) (given : List ℕ) (asked : List Text) (outcomes : List File) (batch : Batch) → now.ended ≡ true
    → IsSynced before now given asked outcomes batch ⊎ IsWhole before now left given asked outcomes (batch ∷ []) → IsWhole before now left given asked outcomes (batch ∷ [])
not_synced before now left given asked outcomes batch over (inr whole) = whole
not_synced before now left given asked outcomes batch over (inl synced) = absurd (let no : true ≡ false = sym over ∙ synced.goes_on in cc)

few_updates : (batch : Batch) → updates batch ≤ length batch
few_updates batch = count_by-le-length (λ command. is_update_task command.task) batch

counted_more : (batches : List Batch) (batch : Batch) (used0 used number next : ℕ) → AreCounted batches used0 number next → used0 + length batch ≤ used
    → AreCounted (batches ++ batch ∷ []) used (number + 1) (next + updates batch)
counted_more batches batch used0 used number next counted grows =
    let more : sum_by updates (batches ++ batch ∷ []) ≡ sum_by updates batches + updates batch = sum_by_push updates batches batch in
    record {
      number_is = omega (arith, counted.number_is, length-append batches (batch ∷ []));
      next_is = omega (arith, counted.next_is, more);
      few = omega (arith, counted.few, grows, more, few_updates batch);
    }

-- the merger's numbers in a batch are in range: there is at most one for each byte that was read
pub next_fits : (batches : List Batch) (batch : Batch) (used0 used number next : ℕ) (limits : ScriptLimits) → AreCounted batches used0 number next → used0 + length batch ≤ used → used ≤ limits.input → limits ≡ standard
    → next + updates batch < 2 ^ 64
next_fits batches batch used0 used number next limits counted grows within is =
    let low : used ≤ standard.input = subst (λ (l : ScriptLimits). used ≤ l.input) is within in
    omega (arith, counted.next_is, counted.few, grows, low, few_updates batch)

pub merger_fits : (merge : Bool) (merger : Option ℕ) (next : ℕ) (batch : Batch) → merger ≡ (if merge then Some next else None) → next + updates batch < 2 ^ 64
    → MatchOption merger ⊤ (λ first. first + updates batch < 2 ^ 64)
merger_fits true merger next batch is fits = subst (λ (m : Option ℕ). MatchOption m ⊤ (λ first. first + updates batch < 2 ^ 64)) (sym is) fits
merger_fits false merger next batch is fits = subst (λ (m : Option ℕ). MatchOption m ⊤ (λ first. first + updates batch < 2 ^ 64)) (sym is) tt

-- the source was read late, or not at all
once : {Nothing Late : Type 0} → Nothing ⊎ Late → (⊤ × Nothing) ⊎ Late
once (inl nothing) = inl (tt, nothing)
once (inr late) = inr late

-- The batch was answered and written, and the gatherer goes on.
pub one_more : {number next : ℕ} (rules : Rules) (options : Options) (first second third : World) (written : Option (List ℕ)) (faults : ℕ) (before after : Gathering) (made now : RunRecord) (batch : Batch) (new : List Answered)
    → (way : IsUnderWay rules options first second before made number next) → IsBegun second third before after batch → after.ended ≡ false → third.write_faults ≤ faults
    → IsMade rules options (way.batches ++ batch ∷ []) now → now.answers ≡ made.answers ++ new → Appends third.written written (text_behind options.trace (length made.answers) now)
    → IsUnderWay rules options first (with_sink written faults third) after now (number + 1) (next + updates batch)
unfolding read_synced
one_more {number = number} {next = next} rules options first second third written faults before after made now batch new way has on later is are wrote = record {
  batches = way.batches ++ batch ∷ [];
  moved = moved_on (moved_on way.moved has.moved) (sink_moved written faults third later);
  been = read_synced options first second (with_sink written faults third) before after way.batches batch has.taken.given has.taken.asked has.taken.outcomes way.moved way.been way.goes has.taken.gave has.taken.fetched
      (not_whole before after third.left has.taken.given has.taken.asked has.taken.outcomes batch on has.gathered);
  goes = goes_on options before after way.goes has.limits_are has.lanes_are has.within;
  is_made = is;
  writ = batch_written rules options first third written faults (way.batches ++ batch ∷ []) made now new (still_written options first second third made has.unwritten way.writ) is are wrote;
  counted = counted_more way.batches batch before.reading.used after.reading.used number next way.counted has.grows;
  late = subst (IsLateSoFar options (way.been.given ++ has.taken.given) (way.been.outcomes ++ has.taken.outcomes))
      (let many : length way.batches ≡ length (way.batches ++ batch ∷ []) - 1 = omega (arith, length-append way.batches (batch ∷ [])) in many)
      (late_more options first second before way.batches ⊤ has.taken.given has.taken.outcomes way.been way.goes way.late (once has.late));
}

-- The last batch was answered and written.
pub ends_with : {number next : ℕ} (rules : Rules) (options : Options) (ends : Status) (first second third : World) (written last : Option (List ℕ)) (faults later : ℕ) (before after : Gathering) (made mid now : RunRecord) (batch : Batch) (new : List Answered)
    → (way : IsUnderWay rules options first second before made number next) → IsBegun second third before after batch → after.ended ≡ true
    → IsMade rules options (way.batches ++ batch ∷ []) mid → mid.answers ≡ made.answers ++ new → Appends third.written written (text_behind options.trace (length made.answers) mid)
    → now ≡ with_end true mid → IsWritten ends written last (text_behind options.trace (length mid.answers) (with_end true mid))
    → Meets rules options ends first (with_sink last later third) now
ends_with rules options ends first second third written last faults later before after made mid now batch new way has over is are wrote closed rest =
    let whole = not_synced before after third.left has.taken.given has.taken.asked has.taken.outcomes batch over has.gathered in
    finished rules options ends first (with_sink written faults third) last later (way.been.given ++ has.taken.given) (way.been.outcomes ++ has.taken.outcomes) (way.been.asked ++ has.taken.asked) (way.batches ++ batch ∷ []) mid now
    (Consumes-trans first.left second.left third.left way.been.given has.taken.given way.been.gave has.taken.gave) whole.at_end
    (fetched_on first second third way.been.asked has.taken.asked way.been.outcomes has.taken.outcomes way.moved way.been.fetched has.taken.fetched)
    (script_whole options first second third.left before after way.batches (batch ∷ []) has.taken.given has.taken.asked has.taken.outcomes way.been way.goes whole) is
    (batch_written rules options first third written faults (way.batches ++ batch ∷ []) made mid new (still_written options first second third made has.unwritten way.writ) is are wrote) closed rest

-- ---- ends within a batch

-- what the whole script begins with, up to and including one more batch
record Begins (options : Options) (outcomes : List File) (given : List ℕ) (left : Option (List ℕ)) (batches : List Batch) (asked : List Text) : Type 0 where
  pub rest : Commands
  pub is : script_of options outcomes given left ≡ given_before batches asked rest
  pub few : sum_by fetches batches ≤ length asked

begins : {number next : ℕ} (rules : Rules) (options : Options) (first second third : World) (before after : Gathering) (made : RunRecord) (batch : Batch)
    → (way : IsUnderWay rules options first second before made number next) → (has : IsBegun second third before after batch)
    → IsSynced before after has.taken.given has.taken.asked has.taken.outcomes batch ⊎ IsWhole before after third.left has.taken.given has.taken.asked has.taken.outcomes (batch ∷ [])
    → Begins options (way.been.outcomes ++ has.taken.outcomes) (way.been.given ++ has.taken.given) third.left (way.batches ++ batch ∷ []) (way.been.asked ++ has.taken.asked)
unfolding read_synced
begins rules options first second third before after made batch way has (inl synced) =
    let took = has.taken in
    let been = read_synced options first second third before after way.batches batch took.given took.asked took.outcomes way.moved way.been way.goes took.gave took.fetched synced in
    let front = script_front options first third third.left after (way.batches ++ batch ∷ []) been (goes_on options before after way.goes has.limits_are has.lanes_are has.within) [] [] in
    record {
      rest = _;
      is = ap (λ (o : List File). script_of options o (way.been.given ++ took.given) third.left) (sym (append-nil (way.been.outcomes ++ took.outcomes)))
          ∙ ap (λ (b : List ℕ). script_of options ((way.been.outcomes ++ took.outcomes) ++ []) b third.left) (sym (append-nil (way.been.given ++ took.given))) ∙ front;
      few = reads_fetches standard options.lanes after.reading (way.been.given ++ took.given) after.held (way.been.outcomes ++ took.outcomes) (way.batches ++ batch ∷ []) (way.been.asked ++ took.asked) been.lines_read;
    }
begins rules options first second third before after made batch way has (inr whole) =
    let took = has.taken in
    let script = script_whole options first second third.left before after way.batches (batch ∷ []) took.given took.asked took.outcomes way.been way.goes whole in
    record {
      rest = commands_with [] Whole [];
      is = whole_front _ (way.batches ++ batch ∷ []) (way.been.asked ++ took.asked) script;
      few = whole_fetches options (way.been.outcomes ++ took.outcomes) (way.been.given ++ took.given) third.left (way.batches ++ batch ∷ []) (way.been.asked ++ took.asked) script;
    }

-- a run that is cut because memory ran out
cut_so_far : (rules : Rules) (options : Options) (outcomes : List File) (before now : World) (script : Commands) (left : Option (List ℕ)) (taken : List ℕ) (made : RunRecord)
    → IsCutOff rules options outcomes (λ paths. AreFetched before.files before.fetch_faults now.fetch_faults paths outcomes) script left taken made
    → IsCutOff rules options outcomes (λ paths. AreFetchedSoFar before.files before.fetch_faults now.fetch_faults paths outcomes) script left taken made
cut_so_far rules options outcomes before now script left taken made row = record {
  count = row.count;
  fetched = fetched_so_far before.files before.fetch_faults now.fetch_faults now.fetch_faults _ outcomes row.fetched (omega arith);
  asked = row.asked;
  record_of = row.record_of;
  ended = row.ended;
  beginning = row.beginning;
  holds = row.holds;
}

-- a run that is cut, by why its text was not written in full
cut_meets : (rules : Rules) (options : Options) (why : WriteStop) (before now : World) (made : RunRecord) (given taken : List ℕ) (outcomes : List File)
    → Consumes before.left now.left given → Appends before.written now.written taken
    → IsCutOff rules options outcomes (λ paths. AreFetched before.files before.fetch_faults now.fetch_faults paths outcomes) (script_of options outcomes given now.left) now.left taken made
    → IsReadLate options given outcomes made → Meets rules options (status_of_stop why) before now made
cut_meets rules options stop.Failed before now made given taken outcomes gave wrote row late =
    record { given = given; taken = taken; outcomes = outcomes; gave = gave; took = wrote; row = row; late = λ not_ended. late }
cut_meets rules options stop.NoMemory before now made given taken outcomes gave wrote row late =
    record { given = given; taken = taken; outcomes = outcomes; gave = gave; took = wrote; row = inr (cut_so_far rules options outcomes before now _ now.left taken made row); late = tt }

-- The batch was answered, but its text was not written in full.
pub ends_writing : {number next : ℕ} (rules : Rules) (options : Options) (why : WriteStop) (first second third : World) (written : Option (List ℕ)) (faults : ℕ) (before after : Gathering) (made now : RunRecord) (batch : Batch) (new : List Answered) (part : List ℕ)
    → (way : IsUnderWay rules options first second before made number next) → IsBegun second third before after batch
    → IsMade rules options (way.batches ++ batch ∷ []) now → now.answers ≡ made.answers ++ new → IsPrefix part (text_behind options.trace (length made.answers) now) → Appends third.written written part
    → Meets rules options (status_of_stop why) first (with_sink written faults third) now
ends_writing rules options why first second third written faults before after made now batch new part way has is are beginning wrote =
    let took = has.taken in
    let writ = still_written options first second third made has.unwritten way.writ in
    let script = begins rules options first second third before after made batch way has has.gathered in
    let fetched = fetched_on first second third way.been.asked took.asked way.been.outcomes took.outcomes way.moved way.been.fetched took.fetched in
    cut_meets rules options why first (with_sink written faults third) now (way.been.given ++ took.given) (writ.taken ++ part) (way.been.outcomes ++ took.outcomes)
    (Consumes-trans first.left second.left third.left way.been.given took.given way.been.gave took.gave) (Appends-trans first.written third.written written writ.taken part writ.took wrote)
    (cut_within rules options (way.been.outcomes ++ took.outcomes) (λ paths. AreFetched first.files first.fetch_faults third.fetch_faults paths (way.been.outcomes ++ took.outcomes)) _ script.rest third.left made now new way.batches batch (way.been.asked ++ took.asked) writ.taken part
    script.is (outcomes_size first.files first.fetch_faults third.fetch_faults (way.been.asked ++ took.asked) (way.been.outcomes ++ took.outcomes) fetched) script.few fetched way.is_made is are writ.text_is beginning)
    (late_within options (way.been.given ++ took.given) (way.been.outcomes ++ took.outcomes) (length way.batches) now
    (late_more options first second before way.batches ⊤ took.given took.outcomes way.been way.goes way.late (once has.late))
    (omega (arith, record_syncs rules options (way.batches ++ batch ∷ []) now (made_record_now rules options (way.batches ++ batch ∷ []) now is), length-append way.batches (batch ∷ []))))

-- ---- a batch that was gathered

begun_with : {Idle : Type 0} (first second : World) (before after : Gathering) (batch : Batch)
    → HasMoved first second → second.written ≡ first.written → (took : Taken (Ok (Some batch)) first.left second.left first.files first.fetch_faults second.fetch_faults)
    → Gathers (Ok (Some batch)) before after second.left took.given took.asked took.outcomes → ReadsLate Idle before took.given took.outcomes
    → after.limits ≡ before.limits → after.lanes ≡ before.lanes → IsOfLanes before.lanes batch → after.reading.used ≤ after.limits.input
    → (before.reading.used < after.reading.used) × (before.reading.used + length batch ≤ after.reading.used) → IsBegun first second before after batch
begun_with first second before after batch moved unwritten took gathers late limits_are lanes_are of_lanes within grows = record {
  moved = moved;
  unwritten = unwritten;
  taken = took;
  gathered = gathers;
  late = idle late;
  limits_are = limits_are;
  lanes_are = lanes_are;
  of_lanes = of_lanes;
  within = within;
  grows = grows.1;
}
  where
    idle : {Idle Late : Type 0} {Nothing : Type 0} → (Idle × Nothing) ⊎ Late → Nothing ⊎ Late
    idle (inl (still, nothing)) = inl nothing
    idle (inr late) = inr late

pub begun : {Idle : Type 0} (first second : World) (before after : Gathering) (found : Option Batch) (batch : Batch) → found ≡ Some batch
    → HasMoved first second → second.written ≡ first.written → (took : Taken (Ok found) first.left second.left first.files first.fetch_faults second.fetch_faults)
    → Gathers (Ok found) before after second.left took.given took.asked took.outcomes → ReadsLate Idle before took.given took.outcomes
    → after.limits ≡ before.limits → after.lanes ≡ before.lanes → IfSome found (IsOfLanes before.lanes) → after.reading.used ≤ after.limits.input
    → IfSome found (λ (b : Batch). (before.reading.used < after.reading.used) × (before.reading.used + length b ≤ after.reading.used)) → IsBegun first second before after batch
begun {Idle = Idle} first second before after found batch is moved unwritten =
    subst (λ (found : Option Batch). (took : Taken (Ok found) first.left second.left first.files first.fetch_faults second.fetch_faults)
    → Gathers (Ok found) before after second.left took.given took.asked took.outcomes → ReadsLate Idle before took.given took.outcomes
    → after.limits ≡ before.limits → after.lanes ≡ before.lanes → IfSome found (IsOfLanes before.lanes) → after.reading.used ≤ after.limits.input
    → IfSome found (λ (b : Batch). (before.reading.used < after.reading.used) × (before.reading.used + length b ≤ after.reading.used)) → IsBegun first second before after batch)
    (sym is) (begun_with first second before after batch moved unwritten)

-- A run whose record is unchanged.
pub stands_still : {number next : ℕ} (rules : Rules) (options : Options) (first second : World) (before : Gathering) (made now : RunRecord)
    → now ≡ made → IsUnderWay rules options first second before made number next → IsUnderWay rules options first second before now number next
stands_still {number = number} {next = next} rules options first second before made now same way =
    subst (λ (m : RunRecord). IsUnderWay rules options first second before m number next) (sym same) way

-- The batch that was gathered was answered too.
pub is_answered : {number next : ℕ} (rules : Rules) (options : Options) (first second third : World) (before after : Gathering) (made now : RunRecord) (from : ℕ) (batch : Batch) (merge : Bool) (merger : Option ℕ)
    → IsUnderWay rules options first second before made number next → IsBegun second third before after batch
    → from ≡ length made.answers → merge ≡ made.options.merge → merger ≡ (if merge then Some next else None) → HasOneMore rules number merger batch made now → AddsAnswers made now
    → IsAnswered rules options first third after now from (number + 1) (next + updates batch)
is_answered {number = number} {next = next} rules options first second third before after made now from batch merge merger way has from_is same merger_is more adds = record {
  mid = second;
  gathering_before = before;
  record_before = made;
  number_before = number;
  next_before = next;
  batch = batch;
  way = way;
  begun = has;
  is_made = batch_made rules options way.batches made now batch merge merger (same ∙ ap (λ (o : Options). o.merge) way.is_made.options_are) merger_is way.counted more way.is_made;
  adds = adds;
  first_is = from_is;
  number_is = refl;
  next_is = refl;
}

-- the text of the answers of a batch
answers_behind : (rules : Rules) (options : Options) (batches : List Batch) (made now : RunRecord) (first : ℕ) → IsMade rules options batches now → first ≡ length made.answers
    → text_behind now.options.trace first now ≡ text_behind options.trace (length made.answers) now
answers_behind rules options batches made now first is first_is =
    ap (λ (o : Options). text_behind o.trace first now) is.options_are ∙ ap (λ (n : ℕ). text_behind options.trace n now) first_is

-- It was written, and the gatherer goes on.
pub answered_goes : {from number next : ℕ} (rules : Rules) (options : Options) (first third : World) (written : Option (List ℕ)) (faults : ℕ) (after : Gathering) (now : RunRecord)
    → IsAnswered rules options first third after now from number next → after.ended ≡ false → third.write_faults ≤ faults → Appends third.written written (text_behind now.options.trace from now)
    → IsUnderWay rules options first (with_sink written faults third) after now number next
answered_goes {from = from} {number = number} {next = next} rules options first third written faults after now is on later took =
    let took_all = subst (Appends third.written written) (answers_behind rules options (is.way.batches ++ is.batch ∷ []) is.record_before now from is.is_made is.first_is) took in
    subst (λ (n : ℕ). IsUnderWay rules options first (with_sink written faults third) after now n next) (sym is.number_is)
    (subst (λ (n : ℕ). IsUnderWay rules options first (with_sink written faults third) after now (is.number_before + 1) n) (sym is.next_is)
    (one_more rules options first is.mid third written faults is.gathering_before after is.record_before now is.batch is.adds.new is.way is.begun on later is.is_made is.adds.are took_all))

-- It was written, and was the last one.
pub answered_ends : {from number next : ℕ} (rules : Rules) (options : Options) (ends : Status) (first third : World) (written last : Option (List ℕ)) (faults later : ℕ) (after : Gathering) (mid now : RunRecord)
    → IsAnswered rules options first third after mid from number next → after.ended ≡ true → Appends third.written written (text_behind mid.options.trace from mid)
    → now ≡ with_end true mid → IsWritten ends written last (text_behind mid.options.trace (length mid.answers) (with_end true mid)) → Meets rules options ends first (with_sink last later third) now
answered_ends {from = from} rules options ends first third written last faults later after mid now is over took closed rest =
    let took_all = subst (Appends third.written written) (answers_behind rules options (is.way.batches ++ is.batch ∷ []) is.record_before mid from is.is_made is.first_is) took in
    ends_with rules options ends first is.mid third written last faults later is.gathering_before after is.record_before mid now is.batch is.adds.new is.way is.begun over is.is_made is.adds.are took_all closed
    (subst (λ (o : Options). IsWritten ends written last (text_behind o.trace (length mid.answers) (with_end true mid))) is.is_made.options_are rest)

-- It was not written in full.
pub answered_stops : {from number next : ℕ} (rules : Rules) (options : Options) (why : WriteStop) (first third : World) (written : Option (List ℕ)) (faults : ℕ) (after : Gathering) (now : RunRecord)
    → IsAnswered rules options first third after now from number next → (part : List ℕ) → IsPrefix part (text_behind now.options.trace from now) → Appends third.written written part
    → Meets rules options (status_of_stop why) first (with_sink written faults third) now
answered_stops {from = from} rules options why first third written faults after now is part beginning took =
    let begins_all = subst (IsPrefix part) (answers_behind rules options (is.way.batches ++ is.batch ∷ []) is.record_before now from is.is_made is.first_is) beginning in
    ends_writing rules options why first is.mid third written faults is.gathering_before after is.record_before now is.batch is.adds.new part is.way is.begun is.is_made is.adds.are begins_all took

-- Memory ran out between two batches.
pub ends_between : {number next : ℕ} (rules : Rules) (options : Options) (first second third : World) (before : Gathering) (made : RunRecord) (given : List ℕ)
    → IsUnderWay rules options first second before made number next → Consumes second.left third.left given → second.fetch_faults ≤ third.fetch_faults → third.written ≡ second.written
    → Meets rules options status.NoMemory first third made
ends_between rules options first second third before made given way gave later unwritten =
    meets_between rules options first second third before way.batches made given way.been way.goes way.is_made way.writ gave later unwritten

-- The gatherer gave no batch.
pub ends_gathering : {number next : ℕ} (rules : Rules) (options : Options) (why : ScriptEnd) (first second third : World) (before after : Gathering) (made : RunRecord)
    → IsUnderWay rules options first second before made number next → (took : Taken (Err why) second.left third.left second.files second.fetch_faults third.fetch_faults)
    → Gathers (Err why) before after third.left took.given took.asked took.outcomes → second.fetch_faults ≤ third.fetch_faults → third.written ≡ second.written
    → Meets rules options (status_of_end why) first third made
ends_gathering rules options (end.Script line why) first second third before after made way took faulty later unwritten =
    let writ = still_written options first second third made unwritten way.writ in
    record {
      given = way.been.given ++ took.given;
      taken = writ.taken;
      outcomes = way.been.outcomes ++ took.outcomes;
      gave = Consumes-trans first.left second.left third.left way.been.given took.given way.been.gave took.gave;
      took = writ.took;
      row = refused rules options first second third before way.batches made writ.taken took.given took.asked took.outcomes line why way.moved way.been way.goes way.is_made writ.text_is took.fetched faulty;
      late = tt;
    }
ends_gathering rules options end.ReadFault first second third before after made way took unfinished later unwritten =
    let writ = still_written options first second third made unwritten way.writ in
    record {
      given = way.been.given ++ took.given;
      taken = writ.taken;
      outcomes = way.been.outcomes ++ took.outcomes;
      gave = Consumes-trans first.left second.left third.left way.been.given took.given way.been.gave took.gave;
      took = writ.took;
      row = broken_off rules options first second third before way.batches made writ.taken took.given took.asked took.outcomes way.moved way.been way.goes way.is_made writ.text_is took.fetched unfinished;
      late = tt;
    }
ends_gathering rules options end.NoMemory first second third before after made way took nothing later unwritten =
    ends_between rules options first second third before made took.given way took.gave later unwritten

-- ---- completeness

whole_input : (before now : Option (List ℕ)) (given script : List ℕ) → Consumes before now given → before ≡ Some script → script ≡ given ++ left_of now
whole_input None now given script gave told = absurd (let no : None ≡ Some script = told in cc)
whole_input (Some xs) None given script gave told = absurd gave
whole_input (Some xs) (Some ys) given script gave told = let same : xs ≡ script = same_some told in sym same ∙ gave
  where
    same_some : {x y : List ℕ} → Some x ≡ Some y → x ≡ y
    same_some h = ap (λ (o : Option (List ℕ)). left_of o) h

-- A script without a fault is not refused.
pub not_refused : (rules : Rules) (options : Options) (line : ℕ) (why : Reason) (before now : World) (made : RunRecord) (script : List ℕ)
    → Meets rules options (status.Script line why) before now made → before.left ≡ Some script → HasNoFault options script before now → ⊥
not_refused rules options line why before now made script met told whole =
    let input : script ≡ met.given ++ left_of now.left = whole_input before.left now.left met.given script met.gave told in
    let fetched : AreFetched before.files before.fetch_faults now.fetch_faults (commands standard options.lanes script met.outcomes).asked met.outcomes =
    subst (λ (bytes : List ℕ). AreFetched before.files before.fetch_faults now.fetch_faults (commands standard options.lanes bytes met.outcomes).asked met.outcomes) (sym input) met.row.fetched in
    let no : FaultAt line why ≡ Whole = sym met.row.fault ∙ ap (λ (bytes : List ℕ). (commands standard options.lanes bytes met.outcomes).end) (sym input) ∙ whole met.outcomes fetched in cc

-- ---- which end gives which status

-- Only a failed source ends a run with a read fault, and no run ends because its words are refused.
pub end_moves : {refused : Type 0} {before now : World} (why : ScriptEnd) → HasMoved before now → (why ≡ end.ReadFault → Rose before.read_faults now.read_faults) → Moves refused (status_of_end why) before now
end_moves (end.Script line reason) moved read = moves_freely (status.Script line reason) moved
    (λ no. let e : status.Script line reason ≡ status.Usage = no in cc) (λ no. let e : status.Script line reason ≡ status.ReadFault = no in cc) (λ no. let e : status.Script line reason ≡ status.WriteFault = no in cc)
end_moves end.ReadFault moved read = record {
  moved = moved;
  usage = λ no. absurd (let e : status.ReadFault ≡ status.Usage = no in cc);
  read_fault = λ is. read refl;
  write_fault = λ no. absurd (let e : status.ReadFault ≡ status.WriteFault = no in cc);
}
end_moves end.NoMemory moved read = memory_moves moved

-- Only a failed sink ends a run with a write fault.
pub stop_moves : {refused : Type 0} {before now : World} (why : WriteStop) → HasMoved before now → (why ≡ stop.Failed → Rose before.write_faults now.write_faults) → Moves refused (status_of_stop why) before now
stop_moves stop.Failed moved wrote = record {
  moved = moved;
  usage = λ no. absurd (let e : status.WriteFault ≡ status.Usage = no in cc);
  read_fault = λ no. absurd (let e : status.WriteFault ≡ status.ReadFault = no in cc);
  write_fault = λ is. wrote refl;
}
stop_moves stop.NoMemory moved wrote = memory_moves moved

-- Memory ran out before anything was read.
pub nothing_done : (rules : Rules) (options : Options) (world : World) (made : RunRecord) → made ≡ empty plain → Meets rules options status.NoMemory world world made
nothing_done rules options world made is = record { given = []; taken = []; outcomes = []; gave = Consumes-nil world.left; took = Appends-nil world.written; row = inl (refl, is); late = tt }

-- The words are refused.
pub nothing_asked : (rules : Rules) (options : Options) (world : World) (made : RunRecord) → made ≡ empty plain → Meets rules options status.Usage world world made
nothing_asked rules options world made is = record { given = []; taken = []; outcomes = []; gave = Consumes-nil world.left; took = Appends-nil world.written; row = (refl, (refl, is)); late = tt }

-- ---- the words

-- Memory ran out before anything was read, whatever the mode.
pub nothing_made : (mode : Mode) (world : World) (made : RunRecord) → made ≡ empty plain → MeetsMode mode status.NoMemory world world made
nothing_made (Run options) world made is = nothing_done (standard_rules options.keys) options world made is
nothing_made (Make seed tables rows) world made is = record { taken = []; took = Appends-nil world.written; row = inl (refl, is) }
nothing_made (Watch k paths) world made is = inl (record { unread = refl; unwritten_is = refl; empty_is = is })
nothing_made (Check trace options) world made is = inl (record { unread = refl; unwritten_is = refl; empty_is = is })

-- The mode that the words state; any mode if they state none.
record Said (said : Option Mode) (result : Status) (world : World) (made : RunRecord) : Type 0 where
  pub mode : Mode
  pub is : IsSaid said mode
  pub met : MeetsMode mode result world world made

said_by : (said : Option Mode) (world : World) (made : RunRecord) → made ≡ empty plain → Said said status.NoMemory world made
said_by None world made is = record { mode = Run plain; is = tt; met = nothing_done (standard_rules Canonical) plain world made is }
said_by (Some mode) world made is = record { mode = mode; is = refl; met = nothing_made mode world made is }

-- The words are refused, or memory ran out while they were read.
pub words_refused : (said : Option Mode) (why : WordsRefused) (world : World) (made : RunRecord) → made ≡ empty plain
    → (why ≡ words.NoMemory) ⊎ (said ≡ None) → (result : Status) → result ≡ status_of_refused why → (mode : Mode) × IsSaid said mode × MeetsMode mode result world world made
words_refused said words.NoMemory world made is why result same =
    let by = said_by said world made is in
    (by.mode, by.is, subst (λ (s : Status). MeetsMode by.mode s world world made) (sym same) by.met)
words_refused said words.Usage world made is (inl same_word) result same = absurd (let e : words.Usage ≡ words.NoMemory = same_word in cc)
words_refused said words.Usage world made is (inr none) result same =
    (Run plain, subst (λ (s : Option Mode). IsSaid s (Run plain)) (sym none) tt, subst (λ (s : Status). Meets (standard_rules Canonical) plain s world world made) (sym same) (nothing_asked (standard_rules Canonical) plain world made is))

-- And nothing moved.
pub refused_moves : (said : Option Mode) (why : WordsRefused) (world : World) → (why ≡ words.NoMemory) ⊎ (said ≡ None) → (result : Status) → result ≡ status_of_refused why → Moves (said ≡ None) result world world
refused_moves said words.NoMemory world why result same = subst (λ (s : Status). Moves (said ≡ None) s world world) (sym same) (memory_moves (still world))
refused_moves said words.Usage world (inl same_word) result same = absurd (let e : words.Usage ≡ words.NoMemory = same_word in cc)
refused_moves said words.Usage world (inr none) result same = subst (λ (s : Status). Moves (said ≡ None) s world world) (sym same) (record {
  moved = still world;
  usage = λ is. none;
  read_fault = λ no. absurd (let e : status.Usage ≡ status.ReadFault = no in cc);
  write_fault = λ no. absurd (let e : status.Usage ≡ status.WriteFault = no in cc);
})

-- Words that state a mode are not refused.
pub moves_said : {refused : Type 0} {before now : World} (result : Status) → Moves ⊥ result before now → Moves refused result before now
moves_said result moves = record { moved = moves.moved; usage = λ is. absurd (moves.usage is); read_fault = moves.read_fault; write_fault = moves.write_fault }

-- ---- completeness

-- Without a fault a script that has no line at fault ends well, or memory runs out.
pub ends_well : (rules : Rules) (options : Options) (result : Status) (before now : World) (made : RunRecord) → Meets rules options result before now made → Moves ⊥ result before now → EndsWell options result before now
ends_well rules options status.Done before now made met moves = λ script told whole quiet still. inl refl
ends_well rules options status.NoMemory before now made met moves = λ script told whole quiet still. inr refl
ends_well rules options status.Usage before now made met moves = λ script told whole quiet still. absurd (moves.usage refl)
ends_well rules options (status.Given path why) before now made met moves = λ script told whole quiet still. absurd met.row
ends_well rules options status.ReadFault before now made met moves = λ script told whole quiet still. absurd (quiet (moves.read_fault refl))
ends_well rules options status.WriteFault before now made met moves = λ script told whole quiet still. absurd (still (moves.write_fault refl))
ends_well rules options status.Refuted before now made met moves = λ script told whole quiet still. absurd met.row
ends_well rules options (status.Script line why) before now made met moves = λ script told whole quiet still. absurd (not_refused rules options line why before now made script met told whole)

-- Words that are refused state no mode, or memory ran out while they were read.
pub refused_ends_well : (said : Option Mode) (why : WordsRefused) (world : World) → (why ≡ words.NoMemory) ⊎ (said ≡ None) → (result : Status) → result ≡ status_of_refused why → (mode : Mode) → said ≡ Some mode → EndsModeWell mode result world world
refused_ends_well said words.NoMemory world why result same mode says = subst (λ (s : Status). EndsModeWell mode s world world) (sym same) (memory_ends_well mode)
  where
    memory_ends_well : (mode : Mode) → EndsModeWell mode status.NoMemory world world
    memory_ends_well (Run options) = λ script told whole quiet still. inr refl
    memory_ends_well (Make seed tables rows) = λ still. inr refl
    memory_ends_well (Watch k paths) = λ reads writes fetches. tt
    memory_ends_well (Check trace options) = λ reads writes fetches. tt
refused_ends_well said words.Usage world (inl same_word) result same mode says = absurd (let e : words.Usage ≡ words.NoMemory = same_word in cc)
refused_ends_well said words.Usage world (inr none) result same mode says = absurd (let no : None ≡ Some mode = sym none ∙ says in cc)

-- A lake that is made ends well, or its sink fails, or memory runs out.
pub make_ends_well : (result : Status) (before now : World) → (result ≡ status.Done) ⊎ (result ≡ status.WriteFault) ⊎ (result ≡ status.NoMemory) → Moves ⊥ result before now
    → (Rose before.write_faults now.write_faults → ⊥) → (result ≡ status.Done) ⊎ (result ≡ status.NoMemory)
make_ends_well result before now (inl done) moves still = inl done
make_ends_well result before now (inr (inl failed)) moves still = absurd (still (moves.write_fault failed))
make_ends_well result before now (inr (inr memory)) moves still = inr memory
