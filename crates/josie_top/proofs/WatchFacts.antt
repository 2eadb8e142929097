-- A run that watches queries: what it writes, and how it ends.
use Rattle.std.proofs.Common.{◌≡◌, refl, ap, sym, ◌∙◌, subst, ℕ, ◌≤◌, inl, inr, List, [], ◌++◌, append_assoc, Bool, true, false, length, length-append, take, drop, arith}
use Rattle.std.specs.Prelude.{Option, Some, None, if◌then◌else◌}
use Rattle.std.specs.Io.KnownBytes.{Appends}
use Rattle.std.proofs.KnownBytes.{Appends-nil, Appends-trans}
use Rattle.std.proofs.lemmas.List.{append-nil, take-append-drop, take-append-le, take_all}
use Rattle.lake_io.specs.Causes.{Rose}
use Rattle.lake_model.specs.declared.Keys.TheVariants.{Canonical}
use Rattle.lake_model.specs.Journal.{Entry}
use Rattle.lake_model.specs.Texts.{Text}
use Rattle.script_model.specs.Commands.{Batch, File}
use Rattle.script_model.specs.Lanes.{IsOfLanes}
use Rattle.record_model.specs.declared.GivenWhy.TheVariants as given
use Rattle.record_model.specs.declared.Status.{Status}
use Rattle.record_model.specs.declared.Status.TheVariants as status
use Rattle.record_model.specs.Play.{batch_after, merger_commands, merges_of}
use Rattle.record_model.specs.Record.{RunRecord, empty}
use Rattle.script_model.specs.Options.{plain}
use Rattle.record_model.specs.Rules.{Rules, standard_rules}
use Rattle.record_model.specs.Statuses.{IsPrefix}
use Rattle.record_model.specs.Watched.{AreQueries, end_text, queries_from, watch_text, watch_text_behind}
use Rattle.record_model.proofs.PlayedLemmas.{merges_are}
use Rattle.record_model.proofs.ProgressLemmas.{played_batch_right}
use Rattle.record_model.proofs.WatchLemmas.{watch_text_on}
use Rattle.option_model.specs.Generator.{made_options}
use Rattle.josie_top.specs.declared.writing.WriteStop.{WriteStop}
use Rattle.josie_top.specs.declared.writing.WriteStop.TheVariants as stop
use Rattle.josie_top.specs.Ends.{is_done, status_of_stop}
use Rattle.josie_top.specs.Meets.{Meets}
use Rattle.josie_top.specs.Watching.{AreGiven, AreWatched, EndsQuietly, IsToldSoFar, IsWatched, Watches, unwritten, watched_text}
use Rattle.josie_top.specs.World.{Moves, World}
use Rattle.josie_top.proofs.GivenFacts.{given_failed}
use Rattle.josie_top.proofs.RunFacts.{nothing_done}

-- ---- what is written

-- nothing is written for an empty journal
pub told_nothing : (k : ℕ) (queries : List (List Text)) (world : World) (made : RunRecord) → made.journal ≡ [] → IsToldSoFar k queries world world made
unfolding Rattle.record_model.specs.Watched.lines_behind
told_nothing k queries world made none = record { taken = []; took = Appends-nil world.written; text_is = sym (ap (watch_text k queries) none) }

-- what a batch changed was written too
pub told_more : (k : ℕ) (queries : List (List Text)) (before mid now : World) (made later : RunRecord) → IsToldSoFar k queries before mid made → take (length made.journal) later.journal ≡ made.journal
    → Appends mid.written now.written (watch_text_behind k queries made.journal (drop (length made.journal) later.journal)) → IsToldSoFar k queries before now later
told_more k queries before mid now made later told begins more =
    let text = watch_text_behind k queries made.journal (drop (length made.journal) later.journal) in
    let whole : made.journal ++ drop (length made.journal) later.journal ≡ later.journal = ap (λ (j : List Entry). j ++ drop (length made.journal) later.journal) (sym begins) ∙ take-append-drop (length made.journal) later.journal in
    record {
      taken = told.taken ++ text;
      took = Appends-trans before.written mid.written now.written told.taken text told.took more;
      text_is = ap (λ (t : List ℕ). t ++ text) told.text_is ∙ sym (watch_text_on k queries [] made.journal (drop (length made.journal) later.journal)) ∙ ap (watch_text k queries) whole;
    }

-- what was written stays the same if the journal does
pub told_for : (k : ℕ) (queries : List (List Text)) (before now later : World) (made after : RunRecord) → later.written ≡ now.written → after.journal ≡ made.journal → IsToldSoFar k queries before now made → IsToldSoFar k queries before later after
told_for k queries before now later made after same journal told = record {
  taken = told.taken;
  took = subst (λ (w : Option (List ℕ)). Appends before.written w told.taken) (sym same) told.took;
  text_is = told.text_is ∙ ap (watch_text k queries) (sym journal);
}

-- the first bytes of a text, if a part of what follows was written
behind_whole : (front text back part : List ℕ) → text ≡ front → IsPrefix part back → IsPrefix (text ++ part) (front ++ back)
behind_whole front text back part is (rest, cut) = (rest, (λ i. sym is i ++ cut i) ∙ sym (append_assoc text part rest))

-- all that was written is the beginning of the whole text
told_begins : (k : ℕ) (queries : List (List Text)) (before now : World) (made : RunRecord) → (told : IsToldSoFar k queries before now made) → IsPrefix told.taken (watched_text k queries made)
told_begins k queries before now made told = ((if made.ended then end_text made.journal else []), ap (λ (t : List ℕ). t ++ (if made.ended then end_text made.journal else [])) (sym told.text_is))

-- and it is the whole text if the source was not read to its end
told_whole : (k : ℕ) (queries : List (List Text)) (before now : World) (made : RunRecord) → (told : IsToldSoFar k queries before now made) → made.ended ≡ false → told.taken ≡ watched_text k queries made
told_whole k queries before now made told unended =
    told.text_is ∙ sym (append-nil (watch_text k queries made.journal)) ∙ ap (λ (b : Bool). watch_text k queries made.journal ++ (if b then end_text made.journal else [])) (sym unended)

-- ---- how a run ends

module _ (k : ℕ) (queries : List (List Text)) (before now : World) (made : RunRecord) where
  abbrev RanAs : Status → Type 0
  RanAs beneath = Meets (standard_rules Canonical) made_options beneath (unwritten before) (unwritten now) made

  -- memory ran out between two batches
  pub watched_memory : RanAs status.NoMemory → IsToldSoFar k queries before now made → IsWatched k queries status.NoMemory before now made
  watched_memory ran told = record { beneath = status.NoMemory; ends = inr refl; ran = ran; taken = told.taken; took = told.took; told = told_begins k queries before now made told }

  -- the script ended, but not at the end of the source
  pub watched_unended : (ended : Status) → is_done ended ≡ false → RanAs ended → (ended ≡ status.Usage → ⊥) → IsToldSoFar k queries before now made → IsWatched k queries ended before now made
  watched_unended status.Done undone ran usage told = absurd (let f : true ≡ false = undone in cc)
  watched_unended (status.Script line reason) undone ran usage told =
      record { beneath = status.Script line reason; ends = refl; ran = ran; taken = told.taken; took = told.took; told = told_whole k queries before now made told ran.row.ended }
  watched_unended status.Usage undone ran usage told = absurd (usage refl)
  watched_unended (status.Given path why) undone ran usage told = absurd ran.row
  watched_unended status.ReadFault undone ran usage told =
      record { beneath = status.ReadFault; ends = refl; ran = ran; taken = told.taken; took = told.took; told = told_whole k queries before now made told ran.row.ended }
  watched_unended status.WriteFault undone ran usage told =
      record { beneath = status.WriteFault; ends = inr refl; ran = ran; taken = told.taken; took = told.took; told = told_begins k queries before now made told }
  watched_unended status.Refuted undone ran usage told = absurd ran.row
  watched_unended status.NoMemory undone ran usage told = watched_memory ran told

-- memory ran out before the script was read
pub watched_nothing : (k : ℕ) (queries : List (List Text)) (world : World) (made : RunRecord) → made ≡ empty plain → IsWatched k queries status.NoMemory world world made
watched_nothing k queries world made is = record {
  beneath = status.NoMemory;
  ends = inr refl;
  ran = nothing_done (standard_rules Canonical) made_options (unwritten world) made is;
  taken = [];
  took = Appends-nil world.written;
  told = (watched_text k queries made, refl);
}

-- the part that was written of what a batch changed, if the text was not written in full
pub watched_stopped : (k : ℕ) (queries : List (List Text)) (before mid now : World) (made later : RunRecord) (why : WriteStop) (part : List ℕ) → IsToldSoFar k queries before mid made
    → take (length made.journal) later.journal ≡ made.journal → IsPrefix part (watch_text_behind k queries made.journal (drop (length made.journal) later.journal)) → Appends mid.written now.written part
    → Meets (standard_rules Canonical) made_options (status_of_stop why) (unwritten before) (unwritten now) later → IsWatched k queries (status_of_stop why) before now later
watched_stopped k queries before mid now made later why part told begins (rest, cut) took ran = by why ran
  where
    more : List ℕ
    more = watch_text_behind k queries made.journal (drop (length made.journal) later.journal)

    last : List ℕ
    last = if later.ended then end_text later.journal else []

    whole : watch_text k queries later.journal ≡ watch_text k queries made.journal ++ more
    whole = ap (watch_text k queries) (sym (ap (λ (j : List Entry). j ++ drop (length made.journal) later.journal) (sym begins) ∙ take-append-drop (length made.journal) later.journal))
        ∙ watch_text_on k queries [] made.journal (drop (length made.journal) later.journal)

    beginning : IsPrefix (told.taken ++ part) (watched_text k queries later)
    beginning = (
      rest ++ last,
      ap (λ (t : List ℕ). t ++ last) (whole ∙ (λ i. sym told.text_is i ++ cut i) ∙ sym (append_assoc told.taken part rest)) ∙ append_assoc (told.taken ++ part) rest last,
    )

    all : Appends before.written now.written (told.taken ++ part)
    all = Appends-trans before.written mid.written now.written told.taken part told.took took

    by : (w : WriteStop) → Meets (standard_rules Canonical) made_options (status_of_stop w) (unwritten before) (unwritten now) later → IsWatched k queries (status_of_stop w) before now later
    by stop.Failed r = record { beneath = status.WriteFault; ends = inr refl; ran = r; taken = told.taken ++ part; took = all; told = beginning }
    by stop.NoMemory r = record { beneath = status.NoMemory; ends = inr refl; ran = r; taken = told.taken ++ part; took = all; told = beginning }

-- ---- the last line

-- a run that is done was not refused
pub done_unrefused : status.Done ≡ status.Usage → ⊥
done_unrefused refused = let bad : status.Done ≡ status.Usage = refused in cc

pub done_status : (ended : Status) → is_done ended ≡ true → ended ≡ status.Done
done_status status.Done done = refl
done_status (status.Script line reason) done = absurd (let f : false ≡ true = done in cc)
done_status status.Usage done = absurd (let f : false ≡ true = done in cc)
done_status (status.Given path why) done = absurd (let f : false ≡ true = done in cc)
done_status status.ReadFault done = absurd (let f : false ≡ true = done in cc)
done_status status.WriteFault done = absurd (let f : false ≡ true = done in cc)
done_status status.Refuted done = absurd (let f : false ≡ true = done in cc)
done_status status.NoMemory done = absurd (let f : false ≡ true = done in cc)

module _ (k : ℕ) (queries : List (List Text)) (before mid now : World) (made : RunRecord) (same : unwritten now ≡ unwritten mid)
    (ran : Meets (standard_rules Canonical) made_options status.Done (unwritten before) (unwritten mid) made) (told : IsToldSoFar k queries before mid made) where
  ran_now : Meets (standard_rules Canonical) made_options status.Done (unwritten before) (unwritten now) made
  ran_now = subst (λ (w : World). Meets (standard_rules Canonical) made_options status.Done (unwritten before) w made) (sym same) ran

  text_is : watched_text k queries made ≡ watch_text k queries made.journal ++ end_text made.journal
  text_is = ap (λ (b : Bool). watch_text k queries made.journal ++ (if b then end_text made.journal else [])) ran.row.ended

  -- it was written
  pub watched_done : Appends mid.written now.written (end_text made.journal) → IsWatched k queries status.Done before now made
  watched_done took = record {
    beneath = status.Done;
    ends = refl;
    ran = ran_now;
    taken = told.taken ++ end_text made.journal;
    took = Appends-trans before.written mid.written now.written told.taken (end_text made.journal) told.took took;
    told = ap (λ (t : List ℕ). t ++ end_text made.journal) told.text_is ∙ sym text_is;
  }

  -- or not in full
  pub watched_cut : (why : WriteStop) (part : List ℕ) → IsPrefix part (end_text made.journal) → Appends mid.written now.written part → IsWatched k queries (status_of_stop why) before now made
  watched_cut why part beginning took = by why
    where
      all : Appends before.written now.written (told.taken ++ part)
      all = Appends-trans before.written mid.written now.written told.taken part told.took took

      begins : IsPrefix (told.taken ++ part) (watched_text k queries made)
      begins = subst (IsPrefix (told.taken ++ part)) (sym text_is) (behind_whole (watch_text k queries made.journal) told.taken (end_text made.journal) part told.text_is beginning)

      by : (w : WriteStop) → IsWatched k queries (status_of_stop w) before now made
      by stop.Failed = record { beneath = status.Done; ends = inl refl; ran = ran_now; taken = told.taken ++ part; took = all; told = begins }
      by stop.NoMemory = record { beneath = status.Done; ends = inl refl; ran = ran_now; taken = told.taken ++ part; took = all; told = begins }

  -- or memory ran out for it
  pub watched_unwritten : now.written ≡ mid.written → IsWatched k queries status.NoMemory before now made
  watched_unwritten still = watched_cut stop.NoMemory [] (end_text made.journal, refl) (subst (λ (w : Option (List ℕ)). Appends mid.written w []) (sym still) (Appends-nil mid.written))

-- ---- the journal

-- playing extends the journal
played_grows : (rules : Rules) (lanes : ℕ) (merger : Option ℕ) (batch : Batch) (piece : List ℕ) (turns : List Bool) (before now : RunRecord) → IsOfLanes lanes batch
    → now ≡ batch_after rules lanes batch (merges_of merger batch) piece turns before → (more : List Entry) × (now.journal ≡ before.journal ++ more)
played_grows rules lanes None batch piece turns before now of_lanes is =
    let (more, grows, each, whos) = played_batch_right rules lanes batch [] piece turns before.journal of_lanes tt in
    (more, ap (λ (m : RunRecord). m.journal) is ∙ grows)
played_grows rules lanes (Some next) batch piece turns before now of_lanes is =
    let (more, grows, each, whos) = played_batch_right rules lanes batch (merger_commands true next batch) piece turns before.journal of_lanes (merges_are true next batch) in
    (more, ap (λ (m : RunRecord). m.journal) is ∙ grows)

pub batch_grows : (rules : Rules) (lanes : ℕ) (merger : Option ℕ) (batch : Batch) (piece : List ℕ) (before now : RunRecord) → IsOfLanes before.options.lanes batch → lanes ≡ before.options.lanes
    → (turns : List Bool) × (now ≡ batch_after rules lanes batch (merges_of merger batch) piece turns before) → (more : List Entry) × (now.journal ≡ before.journal ++ more)
batch_grows rules lanes merger batch piece before now of_lanes same (turns, is) =
    played_grows rules lanes merger batch piece turns before now (subst (λ (n : ℕ). IsOfLanes n batch) (sym same) of_lanes) is

-- what extends a journal begins with it
pub journal_begins : (before after more : List Entry) → after ≡ before ++ more → (length before ≤ length after) × (take (length before) after ≡ before)
journal_begins before after more is = (
  omega (arith, ap (λ (j : List Entry). length j) is, length-append before more),
  ap (take (length before)) is ∙ take-append-le (length before) before more (omega arith) ∙ take_all (length before) before (omega arith),
)

-- ---- the sink of a run whose replies are not written

rose_never : Rose 0 0 → ⊥
rose_never rose = omega (arith, rose)

module _ {refused : Type 0} {before now : World} where
  -- What a run moves whose replies are not written.
  pub written_moves : (result : Status) → before.write_faults ≤ now.write_faults → Moves refused result (unwritten before) (unwritten now) → Moves refused result before now
  written_moves result still moves = record {
    moved = record { files = moves.moved.files; reads = moves.moved.reads; writes = still; fetches = moves.moved.fetches };
    usage = moves.usage;
    read_fault = moves.read_fault;
    write_fault = λ is. absurd (rose_never (moves.write_fault is));
  }

-- ---- a run of a mode that watches

-- the queries were read, and then the script was run
pub watched_all : (k : ℕ) (paths : List Text) (result : Status) (before begun now : World) (files : List File) (queries : List (List Text)) (made : RunRecord) → AreGiven paths before begun files
    → queries_from 1 files ≡ AreQueries queries → IsWatched k queries result begun now made → Watches k paths result before now made
watched_all k paths result before begun now files queries made are read watched = by result watched
  where
    all : (r : Status) → IsWatched k queries r begun now made → AreWatched k paths r before now made
    all r w = record { begun = begun; files = files; are = are; queries = queries; queries_are = read; watched = w }

    by : (r : Status) → IsWatched k queries r begun now made → Watches k paths r before now made
    by status.Done w = all status.Done w
    by (status.Script line reason) w = all (status.Script line reason) w
    by status.Usage w = absurd w.ends
    by (status.Given path why) w = absurd w.ends
    by status.ReadFault w = all status.ReadFault w
    by status.WriteFault w = all status.WriteFault w
    by status.Refuted w = absurd w.ends
    by status.NoMemory w = inr (all status.NoMemory w)

-- without a fault it ends as its script or files say, or because memory runs out
pub watch_ends_well : (k : ℕ) (paths : List Text) (result : Status) (before now : World) (made : RunRecord) → Watches k paths result before now made → Moves ⊥ result before now
    → (Rose before.read_faults now.read_faults → ⊥) → (Rose before.write_faults now.write_faults → ⊥) → (Rose before.fetch_faults now.fetch_faults → ⊥) → EndsQuietly result
watch_ends_well k paths status.Done before now made met moves reads writes fetches = tt
watch_ends_well k paths (status.Script line reason) before now made met moves reads writes fetches = tt
watch_ends_well k paths status.Usage before now made met moves reads writes fetches = absurd met
watch_ends_well k paths (status.Given path given.Failed) before now made met moves reads writes fetches = absurd (fetches (given_failed path paths before now met.files met.are.fetched met.fault))
watch_ends_well k paths (status.Given path given.Missing) before now made met moves reads writes fetches = tt
watch_ends_well k paths (status.Given path given.TooLong) before now made met moves reads writes fetches = tt
watch_ends_well k paths (status.Given path (given.NotUtf8 line)) before now made met moves reads writes fetches = tt
watch_ends_well k paths (status.Given path given.TooManyValues) before now made met moves reads writes fetches = tt
watch_ends_well k paths status.ReadFault before now made met moves reads writes fetches = absurd (reads (moves.read_fault refl))
watch_ends_well k paths status.WriteFault before now made met moves reads writes fetches = absurd (writes (moves.write_fault refl))
watch_ends_well k paths status.Refuted before now made met moves reads writes fetches = absurd met
watch_ends_well k paths status.NoMemory before now made met moves reads writes fetches = tt
