-- A batch at the desks of a run: apart after its commands, together again after they are handed the journal, and what follows for the
-- record.
use Rattle.std.proofs.Common.{◌≡◌, refl, ap, sym, ◌∙◌, subst, ℕ, zero, suc, ◌+◌, ◌-◌, ◌<◌, ◌≤◌, List, [], ◌∷◌, ◌++◌, length, length-append, take, drop, map, Option, Some, None, arith, false}
use Rattle.std.specs.Prelude.{slice_get, Ok, Err, OnOk}
use Rattle.std.specs.List.{AllByRecursion, range_with_len}
use Rattle.std.specs.declared.result.Result.{Result}
use Rattle.std.proofs.lemmas.List.{take_all}
use Rattle.std.proofs.Math.Seq.{drop-append_seam, take-append_seam}
use mathlib.Core.List.{IsPrefix}
use Rattle.atomic_table.specs.Seated.{TableId}
use Rattle.record_model.specs.Rules.{Rules}
use Rattle.lake_model.specs.Journal.{Entry}
use Rattle.list_laws.proofs.ListLemmas.{all_append, all_weaker}
use Rattle.turn_lock.specs.History.{Grows, IsOfGiven}
use Rattle.turn_lock.specs.Passes.{Known, after_seeing, callers_of}
use Rattle.lake.specs.Lawful.{caller_of, IsLawful}
use Rattle.script_model.specs.Commands.{Batch, Command, Merge, command_with, updates}
use Rattle.script_model.specs.Lanes.{IsOfLanes}
use Rattle.record_model.specs.Play.{merges_of}
use Rattle.record_model.specs.Record.{Answered, RunRecord}
use Rattle.record_model.specs.Right.{IsBatchRight, IsRight, between, done_of}
use Rattle.lane_run.specs.Chains.{AreServed, AreWithin}
use Rattle.lake_desk.specs.Answering.{IsStep}
use Rattle.lake_desk.specs.Gathered.{AllMeet, AreApart}
use Rattle.lake_desk.specs.Together.{with_batch, AreTogether, IsOneBatchMore}
use Rattle.lake_desk.proofs.Chains.{Comes, chain_right, lane_right}
use Rattle.lake_desk.proofs.Lanes.{kept_own}
use Rattle.lake_desk.proofs.Places.{there, within_list}

-- ---- each command has a desk

merges_within : (n first count : ℕ) → 0 < n → AreWithin n (map (λ number. command_with number 0 (Merge false)) (range_with_len first count))
merges_within n first zero low = tt
merges_within n first (suc count) low = (low, merges_within n (first + 1) count low)

merger_within : (n : ℕ) (merger : Option ℕ) (batch : Batch) → 0 < n → AreWithin n (merges_of merger batch)
merger_within n None batch low = tt
merger_within n (Some first) batch low = merges_within n first (updates batch) low

pub commands_within : (lanes count : ℕ) (merger : Option ℕ) (batch : Batch) → IsOfLanes lanes batch → count ≡ lanes + 1 → AreWithin count (batch ++ merges_of merger batch)
commands_within lanes count merger batch are is =
    all_append (λ (c : Command). c.lane < count) batch (merges_of merger batch)
    (all_weaker (λ (c : Command). (0 < c.lane) × (c.lane ≤ lanes)) (λ c. c.lane < count) batch (λ c h. let le : c.lane ≤ lanes = h.1 in omega (arith, le, is)) are)
    (merger_within count merger batch (omega (arith, is)))

-- ---- after the commands

-- what the commands of its lane do to a desk
came : (rules : Rules) (lanes : ℕ) (journal : List Entry) (commands : List Command) (answers : List Answered) (before served : List (Known Entry)) → AreTogether lanes journal before → AreServed (IsStep rules) before commands answers served
    → (l : ℕ) (later : Known Entry) → slice_get served l ≡ Some later → (desk : Known Entry) × (slice_get before l ≡ Some desk) × Comes rules l desk (done_of l commands answers) later
came rules lanes journal commands answers before served together ran l later at =
    let within : l < length served = within_list served l later at in
    let (desk, first) = there before l (omega (arith, within, ran.same)) in
    let own = together.each l desk first in
    (desk, first, chain_right rules l desk (done_of l commands answers) later (kept_own l _) (sym own.1) (ran.chains l desk later first at))

-- a desk that goes on from a journal
gone_on : (rules : Rules) (lane : ℕ) (journal : List Entry) (before after : Known Entry) (lock : TableId) → (before.lock ≡ lock) × (before.caller ≡ lane) × (before.holds ≡ false) × (before.seen ≡ journal)
    → (behind : List Entry) → after ≡ after_seeing before (before.seen ++ behind) before.holds
    → (after.lock ≡ lock) × (after.caller ≡ lane) × (after.holds ≡ false) × IsPrefix journal after.seen
gone_on rules lane journal before after lock first behind is = (
  ap (λ (p : Known Entry). p.lock) is ∙ first.0,
  ap (λ (p : Known Entry). p.caller) is ∙ first.1,
  ap (λ (p : Known Entry). p.holds) is ∙ first.2,
  (behind, ap (λ (j : List Entry). j ++ behind) (sym first.3) ∙ sym (ap (λ (p : Known Entry). p.seen) is)),
)

pub served_apart : (rules : Rules) (lanes : ℕ) (journal : List Entry) (commands : List Command) (answers : List Answered) (before served : List (Known Entry)) → AreTogether lanes journal before
    → AreServed (IsStep rules) before commands answers served → AreApart lanes journal served
served_apart rules lanes journal commands answers before served together ran = record {
  lock = together.lock;
  count = ran.same ∙ together.count;
  each = λ l later at. let (desk, first, comes) = came rules lanes journal commands answers before served together ran l later at in
      gone_on rules l journal desk later together.lock (together.each l desk first) comes.behind comes.sees;
  opening = λ later at. let (desk, first, comes) = came rules lanes journal commands answers before served together ran 0 later at in
      ap (λ (p : Known Entry). p.given) comes.sees ∙ together.opening desk first;
}

-- ---- together again

met_length : (whole : List Entry) (olds news : List (Known Entry)) → AllMeet whole olds news → length news ≡ length olds
met_length whole [] [] h = refl
met_length whole [] (new ∷ news) h = absurd h
met_length whole (old ∷ olds) [] h = absurd h
met_length whole (old ∷ olds) (new ∷ news) h = let rest = met_length whole olds news h.2 in omega (arith, rest)

met_at : (whole : List Entry) (olds news : List (Known Entry)) → AllMeet whole olds news → (l : ℕ) (new : Known Entry) → slice_get news l ≡ Some new
    → (old : Known Entry) × (slice_get olds l ≡ Some old) × (new ≡ after_seeing old whole false)
met_at whole [] [] h l new at = absurd (let f : None ≡ Some new = at in cc)
met_at whole [] (x ∷ news) h l new at = absurd h
met_at whole (old ∷ olds) [] h l new at = absurd h
met_at whole (old ∷ olds) (x ∷ news) h zero new at = (old, refl, (let same : new ≡ x = cc in same) ∙ h.0)
met_at whole (old ∷ olds) (x ∷ news) h (suc l) new at = met_at whole olds news h.2 l new at

met_grows : (whole : List Entry) (olds news : List (Known Entry)) → AllMeet whole olds news → (l : ℕ) (old : Known Entry) → slice_get olds l ≡ Some old → Grows caller_of (callers_of old) old.seen whole
met_grows whole [] [] h l old at = absurd (let f : None ≡ Some old = at in cc)
met_grows whole [] (x ∷ news) h l old at = absurd h
met_grows whole (x ∷ olds) [] h l old at = absurd h
met_grows whole (x ∷ olds) (new ∷ news) h zero old at = let same : x ≡ old = cc in subst (λ (p : Known Entry). Grows caller_of (callers_of p) p.seen whole) same h.1
met_grows whole (x ∷ olds) (new ∷ news) h (suc l) old at = met_grows whole olds news h.2 l old at

pub met_together : (lanes : ℕ) (journal whole : List Entry) (served after : List (Known Entry)) → AreApart lanes journal served → AllMeet whole served after → AreTogether lanes whole after
met_together lanes journal whole served after apart met = record {
  lock = apart.lock;
  count = met_length whole served after met ∙ apart.count;
  each = λ l new at. let (old, there, is) = met_at whole served after met l new at in let first = apart.each l old there in (
    ap (λ (p : Known Entry). p.lock) is ∙ first.0,
    ap (λ (p : Known Entry). p.caller) is ∙ first.1,
    ap (λ (p : Known Entry). p.holds) is,
    ap (λ (p : Known Entry). p.seen) is,
  );
  opening = λ new at. let (old, there, is) = met_at whole served after met 0 new at in ap (λ (p : Known Entry). p.given) is ∙ apart.opening old there;
}

-- ---- each lane's answers

lanes_right : (rules : Rules) (lanes : ℕ) (journal behind : List Entry) (commands : List Command) (answers : List Answered) (before served after : List (Known Entry)) → AreTogether lanes journal before
    → AreServed (IsStep rules) before commands answers served → AllMeet (journal ++ behind) served after
    → (lane : ℕ) → lane ≤ lanes → IsRight rules lane journal behind (done_of lane commands answers)
lanes_right rules lanes journal behind commands answers before served after together ran met lane le =
    let (desk, first) = there before lane (omega (arith, together.count, le)) in
    let (later, second) = there served lane (omega (arith, together.count, le, ran.same)) in
    let own = together.each lane desk first in
    lane_right rules lane journal behind commands answers desk later own.3 (sym own.1) (ran.chains lane desk later first second) (met_grows (journal ++ behind) served after met lane later second)

pub batch_right : (rules : Rules) (lanes : ℕ) (journal behind : List Entry) (commands : List Command) (answers : List Answered) (before served after : List (Known Entry)) → AreTogether lanes journal before
    → AreServed (IsStep rules) before commands answers served → AllMeet (journal ++ behind) served after
    → IsBatchRight rules lanes (journal ++ behind) (length journal) (length (journal ++ behind)) commands answers
batch_right rules lanes journal behind commands answers before served after together ran met =
    let cut : take (length journal) (journal ++ behind) ≡ journal = take-append_seam journal behind in
    let size : length (journal ++ behind) - length journal ≡ length behind = omega (arith, length-append journal behind) in
    let rest : between (length journal) (length (journal ++ behind)) (journal ++ behind) ≡ behind =
    ap (λ (n : ℕ). take n (drop (length journal) (journal ++ behind))) size ∙ ap (take (length behind)) (drop-append_seam journal behind) ∙ take_all (length behind) behind (omega arith) in
    record {
      answered = ran.answered;
      each = λ lane le. subst (λ (j : List Entry). IsRight rules lane j (between (length journal) (length (journal ++ behind)) (journal ++ behind)) (done_of lane commands answers)) (sym cut)
          (subst (λ (j : List Entry). IsRight rules lane journal j (done_of lane commands answers)) (sym rest) (lanes_right rules lanes journal behind commands answers before served after together ran met lane le));
    }

-- ---- the record

callers_given : (lanes : ℕ) (journal : List Entry) → IsOfGiven caller_of (lanes + 1) journal → AllByRecursion (λ e. e.who.caller ≤ lanes) journal
callers_given lanes [] of_given = tt
callers_given lanes (e ∷ journal) of_given = ((let below = of_given.0 in omega (arith, below)), callers_given lanes journal of_given.1)

pub one_more : (rules : Rules) (lanes : ℕ) (commands : List Command) (made now : RunRecord) (behind : List Entry) (answers : List Answered) (before served after : List (Known Entry))
    → AreTogether lanes made.journal before → AreServed (IsStep rules) before commands answers served → now ≡ with_batch answers behind made
    → AllMeet now.journal served after → IsLawful rules.limits now.journal → IsOfGiven caller_of (lanes + 1) now.journal
    → IsOneBatchMore rules lanes commands made now
one_more rules lanes commands made now behind answers before served after together ran is met lawful of_given =
    let journal : now.journal ≡ made.journal ++ behind = ap (λ (r : RunRecord). r.journal) is in
    let right = batch_right rules lanes made.journal behind commands answers before served after together ran (subst (λ (j : List Entry). AllMeet j served after) journal met) in
    record {
      behind = behind;
      answers = answers;
      journal_is = journal;
      answers_are = ap (λ (r : RunRecord). r.answers) is;
      syncs_are = ap (λ (r : RunRecord). r.syncs) is ∙ ap (λ (j : List Entry). made.syncs ++ length j ∷ []) (sym journal);
      options_are = ap (λ (r : RunRecord). r.options) is;
      ended_is = ap (λ (r : RunRecord). r.ended) is;
      legal = lawful.legal;
      callers = callers_given lanes now.journal of_given;
      right = subst (λ (j : List Entry). IsBatchRight rules lanes j (length made.journal) (length j) commands answers) (sym journal) right;
    }

pub one_more_on_ok : {F : Type 0} (rules : Rules) (lanes : ℕ) (commands : List Command) (made now : RunRecord) (answers : List Answered) (before served after : List (Known Entry)) (result : Result (Unit {0}) F)
    → AreTogether lanes made.journal before → AreServed (IsStep rules) before commands answers served → OnOk result ((behind : List Entry) × (now ≡ with_batch answers behind made))
    → OnOk result (AllMeet now.journal served after) → OnOk result (IsLawful rules.limits now.journal) → OnOk result (IsOfGiven caller_of (lanes + 1) now.journal)
    → OnOk result (IsOneBatchMore rules lanes commands made now)
one_more_on_ok rules lanes commands made now answers before served after (Ok done) together ran is met lawful of_given =
    one_more rules lanes commands made now is.0 answers before served after together ran is.1 met lawful of_given
one_more_on_ok rules lanes commands made now answers before served after (Err e) together ran is met lawful of_given = tt

pub together_on_ok : {F : Type 0} (rules : Rules) (lanes : ℕ) (commands : List Command) (made now : RunRecord) (answers : List Answered) (before served after : List (Known Entry)) (result : Result (Unit {0}) F)
    → lanes ≡ made.options.lanes → AreTogether lanes made.journal before → AreServed (IsStep rules) before commands answers served → OnOk result ((behind : List Entry) × (now ≡ with_batch answers behind made))
    → OnOk result (AllMeet now.journal served after) → OnOk result (AreTogether now.options.lanes now.journal after)
together_on_ok rules lanes commands made now answers before served after (Ok done) same together ran is met =
    subst (λ (n : ℕ). AreTogether n now.journal after) (same ∙ sym (ap (λ (r : RunRecord). r.options.lanes) is.1))
    (met_together lanes made.journal now.journal served after (served_apart rules lanes made.journal commands answers before served together ran) met)
together_on_ok rules lanes commands made now answers before served after (Err e) same together ran is met = tt
