-- A played record is right for its batches.
use Rattle.std.proofs.Common.{◌≡◌, refl, ap, sym, ◌∙◌, subst, ℕ, zero, suc, ◌+◌, ◌-◌, ◌≤◌, List, [], ◌∷◌, ◌++◌, append_assoc, map, Bool, true, false, length, take, drop, arith, length-append, get_or, sum_by}
use Rattle.std.specs.List.{AllByRecursion, range_with_len}
use Rattle.std.proofs.lemmas.List.{append-nil, length-map}
use Rattle.std.proofs.lemmas.List.Sums.{sum_by-cons}
use Rattle.std.proofs.Math.Seq.{take-append_seam}
use Rattle.lake_model.specs.declared.Who.{Who}
use Rattle.record_model.specs.Rules.{Rules}
use Rattle.record_model.proofs.ProgressLemmas.{AreLanes, batch_done, played_batch_right}
use Rattle.lake_model.specs.Journal.{Entry}
use Rattle.script_model.specs.Commands.{Command, Batch, Merge, command_with, updates}
use Rattle.record_model.specs.Record.{Answered, RunRecord}
use Rattle.record_model.specs.Play.{who_of, merger_commands, batch_after, played_from, head_or_empty, answers_of, play_batch}
use Rattle.record_model.specs.Right.{IsRight, IsBatchRight, AreBatchesRight, done_of, between}
use Rattle.list_laws.proofs.ListLemmas.{drop_seam}

cut_before : (before behind later : List Entry) → take (length before) ((before ++ behind) ++ later) ≡ before
cut_before before behind later = ap (take (length before)) (append_assoc before behind later) ∙ take-append_seam before (behind ++ later)

cut_behind : (before behind later : List Entry) → between (length before) (length (before ++ behind)) ((before ++ behind) ++ later) ≡ behind
cut_behind before behind later =
    let size : length (before ++ behind) - length before ≡ length behind = omega (arith, length-append before behind) in
    ap (λ (n : ℕ). take n (drop (length before) ((before ++ behind) ++ later))) size
    ∙ ap (λ j. take (length behind) (drop (length before) j)) (append_assoc before behind later)
    ∙ ap (take (length behind)) (drop_seam before (behind ++ later)) ∙ take-append_seam behind later

batch_is : (rules : Rules) (n : ℕ) (commands : List Command) (answers : List Answered) (before behind later : List Entry) → ((l : ℕ) → l ≤ n → IsRight rules l before behind (done_of l commands answers))
    → map (λ (a : Answered). a.who) answers ≡ map who_of commands → IsBatchRight rules n ((before ++ behind) ++ later) (length before) (length (before ++ behind)) commands answers
batch_is rules n commands answers before behind later each whos = record {
  answered = whos;
  each = λ l le. subst (λ j. IsRight rules l j (between (length before) (length (before ++ behind)) ((before ++ behind) ++ later)) (done_of l commands answers)) (sym (cut_before before behind later))
      (subst (λ j. IsRight rules l before j (done_of l commands answers)) (sym (cut_behind before behind later)) (each l le));
}

pub merges_are : (merge : Bool) (next : ℕ) (batch : Batch) → AllByRecursion (λ c. c.lane ≡ 0) (merger_commands merge next batch)
merges_are false next batch = tt
merges_are true next batch = by next (updates batch)
  where
    by : (a count : ℕ) → AllByRecursion (λ c. c.lane ≡ 0) (map (λ n. command_with n 0 (Merge false)) (range_with_len a count))
    by a zero = tt
    by a (suc count) = (refl, by (a + 1) count)

-- what was played from a record on
pub record Played (rules : Rules) (n : ℕ) (merge : Bool) (next : ℕ) (batches : List Batch) (before made : RunRecord) : Type 0 where
  pub behind : List Entry
  pub syncs : List ℕ
  pub answers : List Answered
  pub journal_is : made.journal ≡ before.journal ++ behind
  pub syncs_are : made.syncs ≡ before.syncs ++ syncs
  pub answers_are : made.answers ≡ before.answers ++ answers
  pub right : AreBatchesRight rules n merge next made.journal (length before.journal) batches syncs answers

one_more : (rules : Rules) (n : ℕ) (merge : Bool) (next : ℕ) (batch : Batch) (batches : List Batch) (piece : List ℕ) (denials : List Bool) (before made : RunRecord) → AreLanes n batch
    → Played rules n merge (next + updates batch) batches (batch_after rules n batch (merger_commands merge next batch) piece denials before) made → Played rules n merge next (batch ∷ batches) before made
one_more rules n merge next batch batches piece denials before made lanes rest =
    let merges : List Command = merger_commands merge next batch in
    let commands : List Command = batch ++ merges in
    let own : List Answered = answers_of (batch_done rules n batch merges piece denials before.journal) in
    let mid : List Entry = (play_batch rules n batch merges piece denials before.journal).journal in
    let (behind, journal, each, whos) = played_batch_right rules n batch merges piece denials before.journal lanes (merges_are merge next batch) in
    let size : length own ≡ length commands = sym (length-map own (λ (a : Answered). a.who)) ∙ ap (λ (ws : List Who). length ws) whos ∙ length-map commands who_of in
    let first : take (length commands) (own ++ rest.answers) ≡ own = ap (λ (m : ℕ). take m (own ++ rest.answers)) (sym size) ∙ take-append_seam own rest.answers in
    let others : drop (length commands) (own ++ rest.answers) ≡ rest.answers = ap (λ (m : ℕ). drop m (own ++ rest.answers)) (sym size) ∙ drop_seam own rest.answers in
    let whole : made.journal ≡ (before.journal ++ behind) ++ rest.behind = rest.journal_is ∙ ap (λ j. j ++ rest.behind) journal in
    let here : IsBatchRight rules n made.journal (length before.journal) (length mid) commands own =
    subst (λ j. IsBatchRight rules n made.journal (length before.journal) (length j) commands own) (sym journal)
    (subst (λ j. IsBatchRight rules n j (length before.journal) (length (before.journal ++ behind)) commands own) (sym whole) (batch_is rules n commands own before.journal behind rest.behind each whos)) in
    let up : length before.journal ≤ length mid = (let e : length mid ≡ length (before.journal ++ behind) = ap (λ (j : List Entry). length j) journal in omega (arith, e, length-append before.journal behind)) in
    record {
      behind = behind ++ rest.behind;
      syncs = length mid ∷ rest.syncs;
      answers = own ++ rest.answers;
      journal_is = whole ∙ append_assoc before.journal behind rest.behind;
      syncs_are = rest.syncs_are ∙ append_assoc before.syncs (length mid ∷ []) rest.syncs;
      answers_are = rest.answers_are ∙ append_assoc before.answers own rest.answers;
      right = (
        up,
        subst (λ a. IsBatchRight rules n made.journal (length before.journal) (length mid) commands a) (sym first) here,
        subst (λ a. AreBatchesRight rules n merge (next + updates batch) made.journal (length mid) batches rest.syncs a) (sym others) rest.right,
      );
    }

-- A record that was played is right for its batches, whatever the pieces and wherever memory ran out.
pub played_right : (rules : Rules) (n : ℕ) (merge : Bool) (next : ℕ) (batches : List Batch) (pieces : List (List ℕ)) (denials : List (List Bool)) (before : RunRecord) → AllByRecursion (AreLanes n) batches
    → Played rules n merge next batches before (played_from rules n merge next batches pieces denials before)
unfolding played_from
played_right rules n merge next [] pieces denials before lanes = record {
  behind = [];
  syncs = [];
  answers = [];
  journal_is = sym (append-nil before.journal);
  syncs_are = sym (append-nil before.syncs);
  answers_are = sym (append-nil before.answers);
  right = refl;
}
played_right rules n merge next (batch ∷ batches) pieces denials before lanes =
    one_more rules n merge next batch batches (head_or_empty pieces) (head_or_empty denials) before
    (played_from rules n merge (next + updates batch) batches (drop 1 pieces) (drop 1 denials) (batch_after rules n batch (merger_commands merge next batch) (head_or_empty pieces) (head_or_empty denials) before))
    lanes.0
    (played_right rules n merge (next + updates batch) batches (drop 1 pieces) (drop 1 denials) (batch_after rules n batch (merger_commands merge next batch) (head_or_empty pieces) (head_or_empty denials) before) lanes.1)

-- ---- one batch after another

abbrev batch_behind : Rules → ℕ → Bool → Batch → List Bool → RunRecord → ℕ → List ℕ → RunRecord
batch_behind rules lanes merge batch turns before next piece = batch_after rules lanes batch (merger_commands merge next batch) piece turns before

first_piece : (pieces : List (List ℕ)) → head_or_empty pieces ≡ get_or pieces 0 []
first_piece [] = refl
first_piece (piece ∷ pieces) = refl

later_piece : (pieces : List (List ℕ)) (n : ℕ) → get_or (drop 1 pieces) n [] ≡ get_or pieces (suc n) []
later_piece [] n = refl
later_piece (piece ∷ pieces) n = refl

-- One more batch is played after the others.
pub batches_go_on : (rules : Rules) (lanes : ℕ) (merge : Bool) (next : ℕ) (batches : List Batch) (batch : Batch) (pieces : List (List ℕ)) (denials : List (List Bool)) (turns : List Bool) (before : RunRecord)
    → length denials ≡ length batches
    → played_from rules lanes merge next (batches ++ batch ∷ []) pieces (denials ++ turns ∷ []) before
    ≡ batch_after rules lanes batch (merger_commands merge (next + sum_by updates batches) batch) (get_or pieces (length batches) []) turns (played_from rules lanes merge next batches pieces denials before)
unfolding played_from
batches_go_on rules lanes merge next [] batch pieces [] turns before same =
    let none : next ≡ next + sum_by updates [] = omega arith in
    ap (batch_behind rules lanes merge batch turns before next) (first_piece pieces)
    ∙ ap (λ (n : ℕ). batch_behind rules lanes merge batch turns before n (get_or pieces 0 [])) none
batches_go_on rules lanes merge next [] batch pieces (d ∷ denials) turns before same = absurd (omega (arith, same))
batches_go_on rules lanes merge next (b ∷ batches) batch pieces [] turns before same = absurd (omega (arith, same))
batches_go_on rules lanes merge next (b ∷ batches) batch pieces (d ∷ denials) turns before same =
    let first : RunRecord = batch_after rules lanes b (merger_commands merge next b) (head_or_empty pieces) d before in
    let made : RunRecord = played_from rules lanes merge (next + updates b) batches (drop 1 pieces) denials first in
    let sum : next + updates b + sum_by updates batches ≡ next + sum_by updates (b ∷ batches) = omega (arith, sum_by-cons updates b batches) in
    batches_go_on rules lanes merge (next + updates b) batches batch (drop 1 pieces) denials turns first (omega (arith, same))
    ∙ ap (λ (n : ℕ). batch_behind rules lanes merge batch turns made n (get_or (drop 1 pieces) (length batches) [])) sum
    ∙ ap (batch_behind rules lanes merge batch turns made (next + sum_by updates (b ∷ batches))) (later_piece pieces (length batches))
