-- A record is right exactly if it passes the tests.
use Rattle.std.proofs.Common.{◌≡◌, refl, ap, sym, ◌∙◌, subst, ℕ, zero, suc, ◌+◌, ◌-◌, ◌≤◌, List, [], ◌∷◌, ◌++◌, length, length-append, take, drop, Bool, true, false, cond, arith}
use Rattle.std.specs.Prelude.{◌==◌, Some, slice_get}
use Rattle.std.specs.List.{AllByRecursion, enumerate_from}
use Rattle.std.proofs.lemmas.List.{take-append-drop, length-take-le}
use Rattle.std.proofs.Math.Seq.{take-add}
use Rattle.std.proofs.lemmas.Bool.{eq-eqb}
use Rattle.std.proofs.lemmas.List.FromFn.{length-enumerate_from}
use Rattle.record_model.specs.Rules.{Rules}
use Rattle.lake_model.specs.Journal.{Entry}
use Rattle.script_model.specs.Commands.{Command, Batch}
use Rattle.record_model.specs.Record.{Answered}
use Rattle.record_model.specs.Answered.{Standing, Nowhere, Saw, Added, PlannedAndSaw, PlannedAndAdded, standing}
use Rattle.record_model.specs.Play.{Done, merger_commands}
use Rattle.script_model.specs.Commands.{updates}
use Rattle.script_model.specs.Lanes.{IsOfLanes}
use Rattle.record_model.specs.Right.{Moment, moments, moments_by, MomentsRise, IsPlaced, IsUnplaced, entries_by, accepted, between, IsRight, IsBatchRight, AreBatchesRight}
use Rattle.list_laws.proofs.ListLemmas.{all_append, all_left, all_right, all_filter}
use Rattle.record_model.proofs.RightLemmas.{rises_le, accepted_stay, all_placed_stay, IsWithin}
use Rattle.record_model.proofs.PlayedLemmas.{merges_are}
use Rattle.trace_laws.specs.Checks.{dones, IsMadeAgain, AreEntered, IsBatchChecked, AreBatchesChecked, ChecksDecide}
use Rattle.trace_laws.proofs.HintLemmas.{right_is, again_right, rises_is, is_so_rising}
use Rattle.trace_laws.proofs.OwnLemmas.{Pairs, owned, is_of}
use Rattle.trace_laws.proofs.TotalLemmas.{total, total_same_up, total_share, total_filter}
use Rattle.trace_laws.proofs.BatchLemmas.{own_are, of_lane, get_drop, callers_enumerated}
use Rattle.record_model.proofs.LegalLemmas.{within_batch, within_merges}

-- ---- the journal up to the end of a batch

whole : (from to : ℕ) (journal : List Entry) → from ≤ to → take from journal ++ between from to journal ≡ take to journal
whole from to journal le = let e : from + (to - from) ≡ to = omega (arith, le) in sym (take-add from (to - from) journal) ∙ ap (λ (n : ℕ). take n journal) e

pub size_between : (from to : ℕ) (journal : List Entry) → from ≤ to → to ≤ length journal → length (between from to journal) ≡ to - from
size_between from to journal le within =
    let a : length (take to journal) ≡ to = length-take-le to journal within in
    let b : length (take from journal) ≡ from = length-take-le from journal (omega (arith, le, within)) in
    let c : length (take from journal) + length (between from to journal) ≡ length (take to journal) = sym (length-append (take from journal) (between from to journal)) ∙ ap (λ (j : List Entry). length j) (whole from to journal le) in
    omega (arith, a, b, c, le)

pub all_take : {X : Type 0} (P : X → Type 0) (n : ℕ) (es : List X) → AllByRecursion P es → AllByRecursion P (take n es)
all_take P zero es h = tt
all_take P (suc n) [] h = tt
all_take P (suc n) (e ∷ es) h = (h.0, all_take P n es h.1)

pub all_drop : {X : Type 0} (P : X → Type 0) (n : ℕ) (es : List X) → AllByRecursion P es → AllByRecursion P (drop n es)
all_drop P zero es h = h
all_drop P (suc n) [] h = tt
all_drop P (suc n) (e ∷ es) h = all_drop P n es h.1

-- ---- what passes is right

within_by : (s : Standing) (ms : List Moment) (low high size : ℕ) → high ≤ size → MomentsRise low (moments_by s ++ ms) high → IsWithin size s
within_by Nowhere ms low high size le h = record { pinned = omega arith; made = omega arith }
within_by (Saw at) ms low high size le h = let k = rises_le at ms high h.1 in record { pinned = omega (arith, le, k); made = omega (arith, le, k) }
within_by (Added at) ms low high size le h = let k = rises_le at ms high h.1 in record { pinned = omega (arith, le, k); made = omega (arith, le, k) }
within_by (PlannedAndSaw pinned at) ms low high size le h = let k = rises_le at ms high h.1.1 in record { pinned = omega (arith, le, k, h.1.0); made = omega (arith, le, k) }
within_by (PlannedAndAdded pinned at) ms low high size le h = let k = rises_le at ms high h.1.1 in record { pinned = omega (arith, le, k, h.1.0); made = omega (arith, le, k) }

pub rises_rest : (s : Standing) (ms : List Moment) (low high : ℕ) → MomentsRise low (moments_by s ++ ms) high → (mid : ℕ) × MomentsRise mid ms high
rises_rest Nowhere ms low high h = (low, h)
rises_rest (Saw at) ms low high h = (at, h.1)
rises_rest (Added at) ms low high h = (at, h.1)
rises_rest (PlannedAndSaw pinned at) ms low high h = (at, h.1.1)
rises_rest (PlannedAndAdded pinned at) ms low high h = (at, h.1.1)

abbrev pub ArePlaced : Rules → List Entry → List Done → Type 0
ArePlaced rules journal done = AllByRecursion (λ d. IsPlaced rules journal d.command d.reply (standing d.reply)) done

abbrev pub AreUnplaced : Rules → List Done → Type 0
AreUnplaced rules done = AllByRecursion (λ d. IsUnplaced rules d.command d.reply (standing d.reply)) done

all_again_right : (rules : Rules) (journal more : List Entry) (done : List Done) (low high : ℕ) → high ≤ length journal → MomentsRise low (moments done) high
    → AllByRecursion (IsMadeAgain rules (journal ++ more)) done → ArePlaced rules journal done × AreUnplaced rules done
all_again_right rules journal more [] low high le rises h = (tt, tt)
all_again_right rules journal more (d ∷ done) low high le rises h =
    let here = again_right rules journal more d.command d.reply (within_by (standing d.reply) (moments done) low high (length journal) le rises) h.0 in
    let next = rises_rest (standing d.reply) (moments done) low high rises in
    let rest = all_again_right rules journal more done next.0 high le next.1 h.1 in
    ((here.0, rest.0), (here.1, rest.1))

abbrev pub AreWithinLanes : ℕ → List Done → Type 0
AreWithinLanes lanes done = AllByRecursion (λ d. d.command.lane ≤ lanes) done

-- one lane of a batch
lane_right : (rules : Rules) (lanes from to : ℕ) (journal : List Entry) (done : List Done) → from ≤ to → to ≤ length journal → AreWithinLanes lanes done
    → AllByRecursion (λ e. e.who.caller ≤ lanes) journal → ((lane : ℕ) → lane ≤ lanes → MomentsRise from (moments (of_lane lane done)) to)
    → AllByRecursion (IsMadeAgain rules journal) done → AreEntered journal (accepted rules journal done) → to ≡ from + length (accepted rules journal done)
    → (lane : ℕ) → lane ≤ lanes → IsRight rules lane (take from journal) (between from to journal) (of_lane lane done)
lane_right rules lanes from to journal done le within of callers rises again entered many lane under =
    let mine : List Done = of_lane lane done in
    let joined : take from journal ++ between from to journal ≡ take to journal = whole from to journal le in
    let parts : take to journal ++ drop to journal ≡ journal = take-append-drop to journal in
    let start : length (take from journal) ≡ from = length-take-le from journal (omega (arith, le, within)) in
    let stop : length (take to journal) ≡ to = length-take-le to journal within in
    let size : length (between from to journal) ≡ to - from = size_between from to journal le within in
    let own : owned lane (from + 1) (between from to journal) ≡ accepted rules journal mine =
    own_are rules lanes from to journal done of (all_take (λ (e : Entry). e.who.caller ≤ lanes) (to - from) (drop from journal) (all_drop (λ (e : Entry). e.who.caller ≤ lanes) from journal callers)) rises entered (omega (arith, size, many)) lane under in
    let stays : accepted rules (take to journal ++ drop to journal) mine ≡ accepted rules (take to journal) mine = accepted_stay rules (take to journal) (drop to journal) mine from to (omega (arith, stop)) (rises lane under) in
    let made = all_again_right rules (take to journal) (drop to journal) mine from to (omega (arith, stop)) (rises lane under)
    (subst (λ (j : List Entry). AllByRecursion (IsMadeAgain rules j) mine) (sym parts) (all_filter (IsMadeAgain rules journal) (λ (d : Done). d.command.lane == lane) done again)) in
    record {
      entries = ap (λ (n : ℕ). owned lane (n + 1) (between from to journal)) start ∙ own ∙ sym (ap (λ (j : List Entry). accepted rules j mine) parts) ∙ stays ∙ sym (ap (λ (j : List Entry). accepted rules j mine) joined);
      placed = subst (λ (j : List Entry). ArePlaced rules j mine) (sym joined) made.0;
      positions = subst (λ (n : ℕ). MomentsRise n (moments mine) (length (take from journal ++ between from to journal))) (sym start)
          (subst (λ (n : ℕ). MomentsRise from (moments mine) n) (sym (ap (λ (j : List Entry). length j) joined ∙ stop)) (rises lane under));
      unplaced = made.1;
    }

-- ---- the lanes of the commands

within_zip : (lanes : ℕ) (commands : List Command) (answers : List Answered) → AllByRecursion (λ (c : Command). c.lane ≤ lanes) commands → AreWithinLanes lanes (dones commands answers)
within_zip lanes [] answers h = tt
within_zip lanes (c ∷ commands) [] h = tt
within_zip lanes (c ∷ commands) (a ∷ answers) h = (h.0, within_zip lanes commands answers h.1)

pub batch_within : (lanes next : ℕ) (merge : Bool) (batch : Batch) (answers : List Answered) → IsOfLanes lanes batch → AreWithinLanes lanes (dones (batch ++ merger_commands merge next batch) answers)
batch_within lanes next merge batch answers h =
    within_zip lanes (batch ++ merger_commands merge next batch) answers
    (all_append (λ (c : Command). c.lane ≤ lanes) batch (merger_commands merge next batch) (within_batch lanes batch h) (within_merges lanes (merger_commands merge next batch) (merges_are merge next batch)))

-- ---- batches that pass are right

checked_le : (rules : Rules) (lanes : ℕ) (merge : Bool) (next : ℕ) (journal : List Entry) (from : ℕ) (batches : List Batch) (syncs : List ℕ) (answers : List Answered)
    → AreBatchesChecked rules lanes merge next journal from batches syncs answers → from ≤ length journal
checked_le rules lanes merge next journal from [] [] [] h = omega (arith, h)
checked_le rules lanes merge next journal from [] [] (answer ∷ answers) h = absurd h
checked_le rules lanes merge next journal from [] (sync ∷ syncs) answers h = absurd h
checked_le rules lanes merge next journal from (batch ∷ batches) [] answers h = absurd h
checked_le rules lanes merge next journal from (batch ∷ batches) (sync ∷ syncs) answers h =
    let commands : List Command = batch ++ merger_commands merge next batch in
    let many = h.0.many in
    omega (arith, many, checked_le rules lanes merge (next + updates batch) journal sync batches syncs (drop (length commands) answers) h.1)

checked_right : (rules : Rules) (lanes : ℕ) (merge : Bool) (next : ℕ) (journal : List Entry) (from : ℕ) (batches : List Batch) (syncs : List ℕ) (answers : List Answered)
    → AllByRecursion (IsOfLanes lanes) batches → AllByRecursion (λ e. e.who.caller ≤ lanes) journal
    → AreBatchesChecked rules lanes merge next journal from batches syncs answers → AreBatchesRight rules lanes merge next journal from batches syncs answers
checked_right rules lanes merge next journal from [] [] [] of callers h = h
checked_right rules lanes merge next journal from [] [] (answer ∷ answers) of callers h = h
checked_right rules lanes merge next journal from [] (sync ∷ syncs) answers of callers h = h
checked_right rules lanes merge next journal from (batch ∷ batches) [] answers of callers h = h
checked_right rules lanes merge next journal from (batch ∷ batches) (sync ∷ syncs) answers of callers h =
    let commands : List Command = batch ++ merger_commands merge next batch in
    let now : List Answered = take (length commands) answers in
    let later : List Answered = drop (length commands) answers in
    let many = h.0.many in
    let rising = h.0.rising in
    let le : from ≤ sync = omega (arith, many) in
    let within : sync ≤ length journal = checked_le rules lanes merge (next + updates batch) journal sync batches syncs later h.1 in (
      le,
      record {
        answered = h.0.answered;
        each = λ lane under. lane_right rules lanes from sync journal (dones commands now) le within (batch_within lanes next merge batch now of.0) callers
            (λ l below. rises_is from (moments (of_lane l (dones commands now))) sync (rising l below)) h.0.again h.0.entered many lane under;
      },
      checked_right rules lanes merge (next + updates batch) journal sync batches syncs later of.1 callers h.1,
    )

-- ---- what is right passes

keep_on : (P : Done → Type 0) (lane : ℕ) (d : Done) (done : List Done) → AllByRecursion P (of_lane lane (d ∷ done)) → AllByRecursion P (of_lane lane done)
keep_on P lane d done h = by (d.command.lane == lane) h
  where
    by : (b : Bool) → AllByRecursion P (cond b (d ∷ of_lane lane done) (of_lane lane done)) → AllByRecursion P (of_lane lane done)
    by true h = h.1
    by false h = h

pub all_lanes : (P : Done → Type 0) (lanes : ℕ) (done : List Done) → AreWithinLanes lanes done → ((lane : ℕ) → lane ≤ lanes → AllByRecursion P (of_lane lane done)) → AllByRecursion P done
all_lanes P lanes [] of h = tt
all_lanes P lanes (d ∷ done) of h =
    let mine : (d.command.lane == d.command.lane) ≡ true = eq-eqb d.command.lane d.command.lane refl in
    let first : AllByRecursion P (d ∷ of_lane d.command.lane done) = subst (λ (b : Bool). AllByRecursion P (cond b (d ∷ of_lane d.command.lane done) (of_lane d.command.lane done))) mine (h d.command.lane of.0) in
    (first.0, all_lanes P lanes done of.1 (λ lane under. keep_on P lane d done (h lane under)))

all_made_again : (rules : Rules) (journal : List Entry) (done : List Done) → ArePlaced rules journal done → AreUnplaced rules done → AllByRecursion (IsMadeAgain rules journal) done
all_made_again rules journal [] p u = tt
all_made_again rules journal (d ∷ done) p u = (right_is rules journal d.command d.reply p.0 u.0, all_made_again rules journal done p.1 u.1)

drop_next : (n : ℕ) (journal : List Entry) (x : Entry) (xs : List Entry) → drop n journal ≡ x ∷ xs → drop (n + 1) journal ≡ xs
drop_next zero [] x xs e = cc
drop_next zero (y ∷ ys) x xs e = cc
drop_next (suc n) [] x xs e = cc
drop_next (suc n) (y ∷ ys) x xs e = let s : suc n + 1 ≡ suc (n + 1) = omega arith in ap (λ (m : ℕ). drop m (y ∷ ys)) s ∙ drop_next n ys x xs e

entered_enumerated : (journal : List Entry) (n k : ℕ) → AreEntered journal (enumerate_from (n + 1) (take k (drop n journal)))
entered_enumerated journal n zero = tt
entered_enumerated journal n (suc k) = by (drop n journal) refl (entered_enumerated journal (n + 1) k)
  where
    by : (es : List Entry) → drop n journal ≡ es → AreEntered journal (enumerate_from (n + 1 + 1) (take k (drop (n + 1) journal))) → AreEntered journal (enumerate_from (n + 1) (take (suc k) es))
    by [] is rest = tt
    by (x ∷ xs) is rest =
        let place : n + 1 - 1 ≡ n + 0 = omega arith in (
          ap (slice_get journal) place ∙ sym (get_drop n 0 journal) ∙ ap (λ (es : List Entry). slice_get es 0) is,
          subst (λ (es : List Entry). AreEntered journal (enumerate_from (n + 1 + 1) (take k es))) (drop_next n journal x xs is) rest,
        )

abbrev pub HasEntries : Rules → List Entry → Done → Type 0
HasEntries rules journal d = AreEntered journal (entries_by rules journal d.command d.reply (standing d.reply))

pub entered_each : (rules : Rules) (journal : List Entry) (done : List Done) → AreEntered journal (accepted rules journal done) → AllByRecursion (HasEntries rules journal) done
entered_each rules journal [] h = tt
entered_each rules journal (d ∷ done) h =
    let here : Pairs = entries_by rules journal d.command d.reply (standing d.reply) in
    let later : Pairs = accepted rules journal done in
    (all_left (λ (e : ℕ × Entry). slice_get journal (e.0 - 1) ≡ Some e.1) here later h, entered_each rules journal done (all_right (λ (e : ℕ × Entry). slice_get journal (e.0 - 1) ≡ Some e.1) here later h))

pub entered_all : (rules : Rules) (journal : List Entry) (done : List Done) → AllByRecursion (HasEntries rules journal) done → AreEntered journal (accepted rules journal done)
entered_all rules journal [] h = tt
entered_all rules journal (d ∷ done) h =
    all_append (λ (e : ℕ × Entry). slice_get journal (e.0 - 1) ≡ Some e.1) (entries_by rules journal d.command d.reply (standing d.reply)) (accepted rules journal done) h.0 (entered_all rules journal done h.1)

-- what one lane states of the whole journal
pub record LaneSays (rules : Rules) (lane from to : ℕ) (journal : List Entry) (mine : List Done) : Type 0 where
  pub rising : MomentsRise from (moments mine) to
  pub again : AllByRecursion (IsMadeAgain rules journal) mine
  pub own : accepted rules journal mine ≡ owned lane (from + 1) (between from to journal)
  pub entered : AreEntered journal (accepted rules journal mine)

pub lane_says : (rules : Rules) (lane from to : ℕ) (journal : List Entry) (mine : List Done) → from ≤ to → to ≤ length journal → IsRight rules lane (take from journal) (between from to journal) mine
    → LaneSays rules lane from to journal mine
lane_says rules lane from to journal mine le within right =
    let joined : take from journal ++ between from to journal ≡ take to journal = whole from to journal le in
    let parts : take to journal ++ drop to journal ≡ journal = take-append-drop to journal in
    let start : length (take from journal) ≡ from = length-take-le from journal (omega (arith, le, within)) in
    let stop : length (take to journal) ≡ to = length-take-le to journal within in
    let rising : MomentsRise from (moments mine) to =
    subst (λ (n : ℕ). MomentsRise n (moments mine) to) start (subst (λ (n : ℕ). MomentsRise (length (take from journal)) (moments mine) n) (ap (λ (j : List Entry). length j) joined ∙ stop) right.positions) in
    let stays : accepted rules (take to journal ++ drop to journal) mine ≡ accepted rules (take to journal) mine = accepted_stay rules (take to journal) (drop to journal) mine from to (omega (arith, stop)) rising in
    let placed : ArePlaced rules journal mine =
    subst (λ (j : List Entry). ArePlaced rules j mine) parts
    (all_placed_stay rules (take to journal) (drop to journal) mine from to (omega (arith, stop)) rising (subst (λ (j : List Entry). ArePlaced rules j mine) joined right.placed)) in
    let own : accepted rules journal mine ≡ owned lane (from + 1) (between from to journal) =
    sym (ap (λ (j : List Entry). accepted rules j mine) parts) ∙ stays ∙ sym (ap (λ (j : List Entry). accepted rules j mine) joined) ∙ sym right.entries ∙ ap (λ (n : ℕ). owned lane (n + 1) (between from to journal)) start in
    record {
      rising = rising;
      again = all_made_again rules journal mine placed right.unplaced;
      own = own;
      entered = subst (AreEntered journal) (sym own) (all_filter (λ (e : ℕ × Entry). slice_get journal (e.0 - 1) ≡ Some e.1) (is_of lane) (enumerate_from (from + 1) (between from to journal)) (entered_enumerated journal from (to - from)));
    }

batch_checked : (rules : Rules) (lanes from to : ℕ) (journal : List Entry) (commands : List Command) (answers : List Answered) → from ≤ to → to ≤ length journal → AreWithinLanes lanes (dones commands answers)
    → AllByRecursion (λ e. e.who.caller ≤ lanes) journal → IsBatchRight rules lanes journal from to commands answers → IsBatchChecked rules lanes journal from to commands answers
batch_checked rules lanes from to journal commands answers le within of callers right =
    let done : List Done = dones commands answers in
    let each = right.each in
    let says : (lane : ℕ) → lane ≤ lanes → LaneSays rules lane from to journal (of_lane lane done) = λ lane under. lane_says rules lane from to journal (of_lane lane done) le within (each lane under) in
    let es : List Entry = between from to journal in
    let size : length es ≡ to - from = size_between from to journal le within in
    let made : total (λ l. length (accepted rules journal (of_lane l done))) lanes ≡ length (accepted rules journal done) =
    total_share (λ (d : Done). d.command.lane) (λ (d : Done). entries_by rules journal d.command d.reply (standing d.reply)) done lanes of in
    let all : total (λ l. length (owned l (from + 1) es)) lanes ≡ length (enumerate_from (from + 1) es) =
    total_filter (λ (e : ℕ × Entry). e.1.who.caller) (enumerate_from (from + 1) es) lanes (callers_enumerated lanes (from + 1) es (all_take (λ (e : Entry). e.who.caller ≤ lanes) (to - from) (drop from journal) (all_drop (λ (e : Entry). e.who.caller ≤ lanes) from journal callers))) in
    let count : length (enumerate_from (from + 1) es) ≡ length es = length-enumerate_from (from + 1) es in
    let same : total (λ l. length (accepted rules journal (of_lane l done))) lanes ≡ total (λ l. length (owned l (from + 1) es)) lanes =
    total_same_up (λ l. length (accepted rules journal (of_lane l done))) (λ l. length (owned l (from + 1) es)) lanes (λ l under. ap (λ (ps : Pairs). length ps) (says l under).own) in
    record {
      answered = right.answered;
      again = all_lanes (IsMadeAgain rules journal) lanes done of (λ lane under. (says lane under).again);
      entered = entered_all rules journal done (all_lanes (HasEntries rules journal) lanes done of (λ lane under. entered_each rules journal (of_lane lane done) (says lane under).entered));
      many = omega (arith, made, all, count, same, size, le);
      rising = λ lane under. is_so_rising from (moments (of_lane lane done)) to (says lane under).rising;
    }

pub right_le : (rules : Rules) (lanes : ℕ) (merge : Bool) (next : ℕ) (journal : List Entry) (from : ℕ) (batches : List Batch) (syncs : List ℕ) (answers : List Answered)
    → AreBatchesRight rules lanes merge next journal from batches syncs answers → from ≤ length journal
right_le rules lanes merge next journal from [] [] [] h = omega (arith, h)
right_le rules lanes merge next journal from [] [] (answer ∷ answers) h = absurd h
right_le rules lanes merge next journal from [] (sync ∷ syncs) answers h = absurd h
right_le rules lanes merge next journal from (batch ∷ batches) [] answers h = absurd h
right_le rules lanes merge next journal from (batch ∷ batches) (sync ∷ syncs) answers h =
    let commands : List Command = batch ++ merger_commands merge next batch in
    omega (arith, h.0, right_le rules lanes merge (next + updates batch) journal sync batches syncs (drop (length commands) answers) h.2)

right_checked : (rules : Rules) (lanes : ℕ) (merge : Bool) (next : ℕ) (journal : List Entry) (from : ℕ) (batches : List Batch) (syncs : List ℕ) (answers : List Answered)
    → AllByRecursion (IsOfLanes lanes) batches → AllByRecursion (λ e. e.who.caller ≤ lanes) journal
    → AreBatchesRight rules lanes merge next journal from batches syncs answers → AreBatchesChecked rules lanes merge next journal from batches syncs answers
right_checked rules lanes merge next journal from [] [] [] of callers h = h
right_checked rules lanes merge next journal from [] [] (answer ∷ answers) of callers h = h
right_checked rules lanes merge next journal from [] (sync ∷ syncs) answers of callers h = h
right_checked rules lanes merge next journal from (batch ∷ batches) [] answers of callers h = h
right_checked rules lanes merge next journal from (batch ∷ batches) (sync ∷ syncs) answers of callers h =
    let commands : List Command = batch ++ merger_commands merge next batch in
    let now : List Answered = take (length commands) answers in
    let later : List Answered = drop (length commands) answers in
    let within : sync ≤ length journal = right_le rules lanes merge (next + updates batch) journal sync batches syncs later h.2 in (
      batch_checked rules lanes from sync journal commands now h.0 within (batch_within lanes next merge batch now of.0) callers h.1,
      right_checked rules lanes merge (next + updates batch) journal sync batches syncs later of.1 callers h.2,
    )

pub checks_decide : ChecksDecide
checks_decide rules lanes merge batches made of = (
  (λ checked. record {
    legal = checked.legal;
    callers = checked.callers;
    each = checked_right rules lanes merge 1 made.journal 0 batches made.syncs made.answers of checked.callers checked.each;
  }),
  (λ right. record {
    legal = right.legal;
    callers = right.callers;
    each = right_checked rules lanes merge 1 made.journal 0 batches made.syncs made.answers of right.callers right.each;
  }),
)
