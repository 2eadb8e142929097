-- A run that checks a trace: what it reads, and how it ends.
use Rattle.std.proofs.Common.{◌≡◌, refl, ap, sym, subst, ℕ, ◌≤◌, inr, List, [], ◌∷◌, ◌++◌, Bool, true, false, arith}
use Rattle.std.specs.Prelude.{Option, Some, None, Ok, Err}
use Rattle.std.specs.Io.KnownBytes.{Consumes}
use Rattle.std.proofs.KnownBytes.{Appends-nil, Consumes-nil, Consumes-trans}
use Rattle.std.proofs.lemmas.List.{append-nil}
use Rattle.lake_io.specs.Causes.{Rose}
use Rattle.lake_io.specs.Files as shelf
use Rattle.lake_model.specs.Texts.{Text}
use Rattle.script_model.specs.Commands.{Batch, Bytes, Failed, File, Missing, TooLong}
use Rattle.script_model.specs.Options.{Options, plain}
use Rattle.script_model.specs.Reading.{LinesRead, read}
use Rattle.script_model.specs.Script.{Commands, standard, start}
use Rattle.script_text.specs.declared.refused.ScriptEnd.{ScriptEnd}
use Rattle.script_text.specs.declared.refused.ScriptEnd.TheVariants as end
use Rattle.script_text.specs.Gathering.{Gathering, IsWhole, gathering_with}
use Rattle.script_text.specs.Gathers.{Gathers, Taken}
use Rattle.script_text.specs.Outcomes.{AreFetched, CameOf}
use Rattle.record_model.specs.declared.GivenWhy.{GivenWhy}
use Rattle.record_model.specs.declared.GivenWhy.TheVariants as given
use Rattle.record_model.specs.declared.Status.{Status}
use Rattle.record_model.specs.declared.Status.TheVariants as status
use Rattle.record_model.specs.Record.{RunRecord, empty}
use Rattle.record_model.specs.Rules.{Rules, standard_rules}
use Rattle.record_model.specs.Statuses.{script_of}
use Rattle.trace_check.specs.Checking.{HasRecord, checker_with}
use Rattle.josie_top.specs.Checking.{AreChecked, Checks, EndsInVerdict, IsChecked, IsCutShort, IsJudged, IsReading, IsReadWhole, IsStoppedAt, IsVerdict, IsVerdictWritten, trace_fault, verdict_text}
use Rattle.josie_top.specs.Ends.{status_of_end}
use Rattle.josie_top.specs.Watching.{AreGiven}
use Rattle.josie_top.specs.World.{HasMoved, Moves, World, with_sink}
use Rattle.josie_top.proofs.RowFacts.{begun_unfinished, fetched_on, read_synced, script_refused, script_whole}
use Rattle.josie_top.proofs.RunFacts.{goes_on, moved_on, not_synced, not_whole, still}

-- ---- what is read

-- nothing was read
pub reading_start : (options : Options) (world : World) (gathering : Gathering) (lanes : ℕ) → gathering ≡ gathering_with (start []) [] false standard lanes → lanes ≡ options.lanes
    → IsReading options world world gathering []
unfolding read
reading_start options world gathering lanes gathers are = subst (λ (g : Gathering). IsReading options world world g []) (sym gathers) (record {
  moved = still world;
  been = record { given = []; asked = []; outcomes = []; gave = Consumes-nil world.left; fetched = refl; lines_read = record { lines = []; whole = tt; cut = refl; reads = λ later. refl } };
  goes = record { limits_are = refl; lanes_are = are; within = omega arith };
})

-- what was read, up to one more `sync`
pub reading_more : (options : Options) (first second third : World) (before after : Gathering) (batches : List Batch) (found : Option Batch) (batch : Batch) → found ≡ Some batch → IsReading options first second before batches → HasMoved second third
    → (took : Taken (Ok found) second.left third.left second.files second.fetch_faults third.fetch_faults) → Gathers (Ok found) before after third.left took.given took.asked took.outcomes
    → after.limits ≡ before.limits → after.lanes ≡ before.lanes → after.reading.used ≤ after.limits.input → after.ended ≡ false → IsReading options first third after (batches ++ batch ∷ [])
reading_more options first second third before after batches found batch is reading moved took gathers limits_are lanes_are within on = record {
  moved = moved_on reading.moved moved;
  been = read_synced options first second third before after batches batch took.given took.asked took.outcomes reading.moved reading.been reading.goes took.gave took.fetched
      (not_whole before after third.left took.given took.asked took.outcomes batch on (subst (λ (f : Option Batch). Gathers (Ok f) before after third.left took.given took.asked took.outcomes) is gathers));
  goes = goes_on options before after reading.goes limits_are lanes_are within;
}

-- the script ended, and these are its batches
read_whole : (options : Options) (first second third : World) (before after : Gathering) (batches later : List Batch) (given : List ℕ) (asked : List Text) (outcomes : List File)
    → IsReading options first second before batches → Consumes second.left third.left given → AreFetched second.files second.fetch_faults third.fetch_faults asked outcomes
    → IsWhole before after third.left given asked outcomes later → IsReadWhole options first third (batches ++ later)
read_whole options first second third before after batches later given asked outcomes reading gave fetched whole = record {
  given = reading.been.given ++ given;
  asked = reading.been.asked ++ asked;
  outcomes = reading.been.outcomes ++ outcomes;
  gave = Consumes-trans first.left second.left third.left reading.been.given given reading.been.gave gave;
  fetched = fetched_on first second third reading.been.asked asked reading.been.outcomes outcomes reading.moved reading.been.fetched fetched;
  read = whole.at_end;
  script = script_whole options first second third.left before after batches later given asked outcomes reading.been reading.goes whole;
}

-- after a last batch
pub whole_with : (options : Options) (first second third : World) (before after : Gathering) (batches : List Batch) (found : Option Batch) (batch : Batch) → found ≡ Some batch → IsReading options first second before batches
    → (took : Taken (Ok found) second.left third.left second.files second.fetch_faults third.fetch_faults) → Gathers (Ok found) before after third.left took.given took.asked took.outcomes
    → after.ended ≡ true → IsReadWhole options first third (batches ++ batch ∷ [])
whole_with options first second third before after batches found batch is reading took gathers over =
    read_whole options first second third before after batches (batch ∷ []) took.given took.asked took.outcomes reading took.gave took.fetched
    (not_synced before after third.left took.given took.asked took.outcomes batch over (subst (λ (f : Option Batch). Gathers (Ok f) before after third.left took.given took.asked took.outcomes) is gathers))

-- after a `sync`, or without a command
pub whole_without : (options : Options) (first second third : World) (before after : Gathering) (batches : List Batch) (found : Option Batch) → found ≡ None → IsReading options first second before batches
    → (took : Taken (Ok found) second.left third.left second.files second.fetch_faults third.fetch_faults) → Gathers (Ok found) before after third.left took.given took.asked took.outcomes
    → IsReadWhole options first third batches
whole_without options first second third before after batches found is reading took gathers =
    subst (IsReadWhole options first third) (append-nil batches)
    (read_whole options first second third before after batches [] took.given took.asked took.outcomes reading took.gave took.fetched
    (subst (λ (f : Option Batch). Gathers (Ok f) before after third.left took.given took.asked took.outcomes) is gathers))

-- the gatherer gave no batch, because the script is at fault, the source failed, or memory ran out
pub stopped_by : (options : Options) (first second third : World) (before after : Gathering) (batches : List Batch) (why : ScriptEnd) → IsReading options first second before batches
    → (took : Taken (Err why) second.left third.left second.files second.fetch_faults third.fetch_faults) → Gathers (Err why) before after third.left took.given took.asked took.outcomes
    → IsStoppedAt options (status_of_end why) first third
stopped_by options first second third before after batches (end.Script line reason) reading took faulty =
    let been = reading.been in
    let script = script_refused options first second third.left before batches took.given took.asked took.outcomes line reason been reading.goes faulty in
    record {
      given = been.given ++ took.given;
      outcomes = been.outcomes ++ took.outcomes;
      gave = Consumes-trans first.left second.left third.left been.given took.given been.gave took.gave;
      row = record {
        fault = ap (λ (s : Commands). s.end) script;
        fetched = subst (λ (asked : List Text). AreFetched first.files first.fetch_faults third.fetch_faults asked (been.outcomes ++ took.outcomes)) (sym (ap (λ (s : Commands). s.asked) script))
            (fetched_on first second third been.asked took.asked been.outcomes took.outcomes reading.moved been.fetched took.fetched);
      };
    }
stopped_by options first second third before after batches end.ReadFault reading took unfinished =
    let been = reading.been in
    record {
      given = been.given ++ took.given;
      outcomes = been.outcomes ++ took.outcomes;
      gave = Consumes-trans first.left second.left third.left been.given took.given been.gave took.gave;
      row = subst (λ (b : LinesRead). IsCutShort (λ asked. AreFetched first.files first.fetch_faults third.fetch_faults asked (been.outcomes ++ took.outcomes)) b)
          (sym (begun_unfinished options first second before batches took.given took.asked took.outcomes been reading.goes unfinished))
          (record { no_fault = tt; fetched = fetched_on first second third been.asked took.asked been.outcomes took.outcomes reading.moved been.fetched took.fetched });
    }
stopped_by options first second third before after batches end.NoMemory reading took none = record {
  given = reading.been.given ++ took.given;
  outcomes = [];
  gave = Consumes-trans first.left second.left third.left reading.been.given took.given reading.been.gave took.gave;
  row = tt;
}

-- memory ran out after a batch
pub stopped_behind : (options : Options) (first second third : World) (before : Gathering) (batches : List Batch) (more : List ℕ) → IsReading options first second before batches
    → Consumes second.left third.left more → IsStoppedAt options status.NoMemory first third
stopped_behind options first second third before batches more reading gave = record {
  given = reading.been.given ++ more;
  outcomes = [];
  gave = Consumes-trans first.left second.left third.left reading.been.given more reading.been.gave gave;
  row = tt;
}

-- ---- how a run ends

-- the verdict of a checker
pub verdict_by : (rules : Rules) (options : Options) (batches : List Batch) (trace : Text) (verdict : Bool) → (verdict ≡ true → HasRecord (checker_with rules options batches) trace)
    → (verdict ≡ false → HasRecord (checker_with rules options batches) trace → ⊥) → IsVerdict rules options batches trace verdict
verdict_by rules options batches trace true right none = right refl
verdict_by rules options batches trace false right none = λ made is. none refl (made, is)

module _ (rules : Rules) (options : Options) (trace : Text) (before now : World) where
  -- the verdict was written, or its first bytes
  pub judged : (verdict : Bool) (result : Status) (batches : List Batch) (written later : Option (List ℕ)) (faults more : ℕ) → IsReadWhole options before now batches → IsVerdict rules options batches trace verdict
      → IsVerdictWritten verdict result written later → IsChecked rules options trace result (with_sink written faults before) (with_sink later more now)
  judged verdict result batches written later faults more whole is = by result
    where
      here : (v : Bool) → verdict ≡ v → IsJudged rules options trace (λ asked. AreFetched before.files before.fetch_faults now.fetch_faults asked whole.outcomes) (script_of options whole.outcomes whole.given now.left) now.left v
      here v same = record {
        read = whole.read;
        whole = ap (λ (s : Commands). s.end) whole.script;
        fetched = subst (λ (asked : List Text). AreFetched before.files before.fetch_faults now.fetch_faults asked whole.outcomes) (sym (ap (λ (s : Commands). s.asked) whole.script)) whole.fetched;
        verdict_is = subst (λ (b : List Batch). IsVerdict rules options b trace v) (sym (ap (λ (s : Commands). s.batches) whole.script)) (subst (IsVerdict rules options batches trace) same is);
      }

      by : (r : Status) → IsVerdictWritten verdict r written later → IsChecked rules options trace r (with_sink written faults before) (with_sink later more now)
      by status.Done (is_right, took) = record { given = whole.given; taken = verdict_text true; outcomes = whole.outcomes; gave = whole.gave; took = took; row = (here true is_right, refl) }
      by status.Refuted (is_wrong, took) = record { given = whole.given; taken = verdict_text false; outcomes = whole.outcomes; gave = whole.gave; took = took; row = (here false is_wrong, refl) }
      by status.WriteFault (part, prefix, took) =
          record { given = whole.given; taken = part; outcomes = whole.outcomes; gave = whole.gave; took = took; row = (verdict, here verdict refl, prefix) }
      by (status.Script line reason) none = absurd none
      by status.Usage none = absurd none
      by (status.Given path why) none = absurd none
      by status.ReadFault none = absurd none
      by status.NoMemory none = absurd none

  -- the script was not read whole, and nothing was written
  pub unjudged : (result : Status) (written : Option (List ℕ)) (faults more : ℕ) → IsStoppedAt options result before now
      → IsChecked rules options trace result (with_sink written faults before) (with_sink written more now)
  unjudged status.Done written faults more stopped = absurd stopped.row
  unjudged (status.Script line reason) written faults more stopped =
      record { given = stopped.given; taken = []; outcomes = stopped.outcomes; gave = stopped.gave; took = Appends-nil written; row = (stopped.row, refl) }
  unjudged status.Usage written faults more stopped = absurd stopped.row
  unjudged (status.Given path why) written faults more stopped = absurd stopped.row
  unjudged status.ReadFault written faults more stopped =
      record { given = stopped.given; taken = []; outcomes = stopped.outcomes; gave = stopped.gave; took = Appends-nil written; row = (stopped.row, refl) }
  unjudged status.WriteFault written faults more stopped = absurd stopped.row
  unjudged status.Refuted written faults more stopped = absurd stopped.row
  unjudged status.NoMemory written faults more stopped =
      record { given = stopped.given; taken = []; outcomes = stopped.outcomes; gave = stopped.gave; took = Appends-nil written; row = (tt, refl) }

-- memory ran out before anything was read
pub unjudged_still : (rules : Rules) (options : Options) (trace : Text) (world : World) → IsChecked rules options trace status.NoMemory world world
unjudged_still rules options trace world = record { given = []; taken = []; outcomes = []; gave = Consumes-nil world.left; took = Appends-nil world.written; row = (tt, refl) }

-- or once the script was read
pub unjudged_whole : (options : Options) (before now : World) (batches : List Batch) → IsReadWhole options before now batches → IsStoppedAt options status.NoMemory before now
unjudged_whole options before now batches whole = record { given = whole.given; outcomes = whole.outcomes; gave = whole.gave; row = tt }

-- ---- the trace

-- a file was fetched
pub file_came : (path : Text) (before : World) (files : Option (List shelf.File)) (faults : ℕ) (file : File) → files ≡ before.files → CameOf before.files before.fetch_faults faults path file
    → AreGiven (path ∷ []) before (record before { files = files; fetch_faults = faults }) (file ∷ [])
file_came path before files faults file same came =
    record { fetched = (faults, came, refl); same = ap (λ (f : Option (List shelf.File)). record before { files = f; fetch_faults = faults }) same }

-- the file held the trace
pub checked_by : (path : Text) (options : Options) (trace : Text) (result : Status) (before begun now : World) (made : RunRecord) → AreGiven (path ∷ []) before begun (Bytes trace ∷ [])
    → IsChecked (standard_rules options.keys) options trace result begun now → made ≡ empty plain → Checks path options result before now made
checked_by path options trace result before begun now made came checked none = by result checked
  where
    all : (r : Status) → IsChecked (standard_rules options.keys) options trace r begun now → AreChecked path options r before now made
    all r c = record { begun = begun; trace = trace; came = came; checked = c; empty_is = none }

    by : (r : Status) → IsChecked (standard_rules options.keys) options trace r begun now → Checks path options r before now made
    by status.Done c = all status.Done c
    by (status.Script line reason) c = all (status.Script line reason) c
    by status.Usage c = absurd c.row
    by (status.Given path why) c = absurd c.row
    by status.ReadFault c = all status.ReadFault c
    by status.WriteFault c = all status.WriteFault c
    by status.Refuted c = all status.Refuted c
    by status.NoMemory c = inr (all status.NoMemory c)

-- ---- completeness

-- a file that failed was counted; otherwise it is missing or too long
fault_ends : (path : Text) (number : ℕ) (why : GivenWhy) (before now : World) (file : File) → AreGiven (path ∷ []) before now (file ∷ []) → trace_fault file ≡ Some why
    → (Rose before.fetch_faults now.fetch_faults → ⊥) → EndsInVerdict (status.Given number why)
fault_ends path number why before now (Bytes bytes) came is still = cc is
fault_ends path number why before now Failed came is still =
    let (between, rose, same) = came.fetched in
    absurd (still (subst (Rose before.fetch_faults) (sym same) rose))
fault_ends path number why before now Missing came is still = subst (λ (w : GivenWhy). EndsInVerdict (status.Given number w)) (let same : given.Missing ≡ why = cc is in same) tt
fault_ends path number why before now TooLong came is still = subst (λ (w : GivenWhy). EndsInVerdict (status.Given number w)) (let same : given.TooLong ≡ why = cc is in same) tt

-- without a fault the run ends with a verdict, with a fault of the script or of the trace's file, or because memory
-- runs out
pub check_ends_well : (path : Text) (options : Options) (result : Status) (before now : World) (made : RunRecord) → Checks path options result before now made → Moves ⊥ result before now
    → (Rose before.read_faults now.read_faults → ⊥) → (Rose before.write_faults now.write_faults → ⊥) → (Rose before.fetch_faults now.fetch_faults → ⊥) → EndsInVerdict result
check_ends_well path options status.Done before now made met moves reads writes fetches = tt
check_ends_well path options (status.Script line reason) before now made met moves reads writes fetches = tt
check_ends_well path options status.Usage before now made met moves reads writes fetches = absurd met
check_ends_well path options (status.Given number why) before now made (first, none, empty_is) moves reads writes fetches = fault_ends path number why before now none.file none.came none.fault fetches
check_ends_well path options status.ReadFault before now made met moves reads writes fetches = absurd (reads (moves.read_fault refl))
check_ends_well path options status.WriteFault before now made met moves reads writes fetches = absurd (writes (moves.write_fault refl))
check_ends_well path options status.Refuted before now made met moves reads writes fetches = tt
check_ends_well path options status.NoMemory before now made met moves reads writes fetches = tt
