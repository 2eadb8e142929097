-- A right record is the one that its commands and the hints of its answers determine.
use Rattle.std.proofs.Common.{◌≡◌, refl, ap, sym, ◌∙◌, subst, ℕ, zero, suc, ◌+◌, ◌-◌, ◌≤◌, ◌<◌, ◌⊎◌, inl, inr, List, [], ◌∷◌, ◌++◌, map, length, take, drop, Bool, true, false, cond, arith}
use Rattle.std.specs.Prelude.{nat_lt, ◌==◌, ◌||◌, Option, Some, None, slice_get, find, ⊤}
use Rattle.std.specs.List.{AllByRecursion, list_any}
use Rattle.std.proofs.lemmas.List.{take-append-drop, take-take, map-append}
use Rattle.std.proofs.lemmas.Bool.{eq-eqb, eqb-true, or_cases}
use Rattle.std.proofs.lemmas.Bool.Decides.{nat_tests}
use Rattle.std.proofs.Math.Seq.{take-length}
use Rattle.std.proofs.lemmas.List.Folds.{list_any-append}
use Rattle.std.proofs.Math.Bool.{or-true}
use Rattle.lake_model.specs.declared.Who.{Who}
use Rattle.record_model.specs.Rules.{Rules}
use Rattle.lake_model.specs.declared.CsvRefused.TheVariants as csv
use Rattle.lake_model.specs.declared.SetRefused.TheVariants as sets
use Rattle.lake_model.specs.declared.QueryRefused.TheVariants as query
use Rattle.lake_model.specs.Texts.{Text}
use Rattle.lake_model.specs.Tables.{Table, Column}
use Rattle.lake_model.specs.Journal.{What, Entry, entry_with, live, live_table}
use Rattle.lake_model.specs.Answer.{answer}
use Rattle.lake_model.specs.Layout.{Part, layout}
use Rattle.lake_model.specs.Plan.{plan_of, planned_parts}
use Rattle.lake_model.specs.Journal as journal
use Rattle.script_model.specs.Commands.{Command, Batch, Task, Load, LoadFile, DropTable, Replace, Tables, Search, Like, Contain, AsOf, Merge}
use Rattle.record_model.specs.Replies.{Reply, Past, Later, NoMemory, Fault, OfCsv, OfSets, OfQuery, OfFile, FailedFault, MissingFault, TooLongFault, fault_reply, like_table, like_column, merge_planned}
use Rattle.record_model.specs.Record.{Answered, answered_with}
use Rattle.record_model.specs.Answered.{TableRead, IsTable, NoTable, table_read, file_read, QueryRead, IsQuery, NoQuery, query_read, load_answer, replace_answer, search_answer, contain_answer, past_answer, loads, replaces, swaps, policy_of, answer_to, adds, change_of, Standing, Nowhere, Saw, Added, PlannedAndSaw, PlannedAndAdded, standing, is_accepted}
use Rattle.record_model.specs.Play.{Done, who_of, merger_commands}
use Rattle.script_model.specs.Commands.{updates}
use Rattle.script_model.specs.Lanes.{IsOfLanes}
use Rattle.record_model.specs.Right.{Moment, moments, moments_by, MomentsRise, answer_by, entries_by, at_position, accepted, between, AreBatchesRight}
use Rattle.list_laws.proofs.ListLemmas.{all_append, not_both}
use Rattle.trace_laws.specs.Hints.{Hint, Stands, hint_of, reply_by}
use Rattle.trace_laws.specs.Checks.{dones, IsMadeAgain, AreEntered}
use Rattle.trace_laws.specs.Rebuilt.{Hinted, hinted_with, stands_at, is_at, pinned_of, put_by, rebuilt, all_dones, hinted_of, answer_again, HintsTell}
use Rattle.trace_laws.proofs.OwnLemmas.{Pairs, owned, is_of}
use Rattle.trace_laws.proofs.BatchLemmas.{of_lane}
use Rattle.trace_laws.proofs.HintLemmas.{lt_true}
use Rattle.trace_laws.proofs.RecordLemmas.{HasEntries, LaneSays, lane_says, rises_rest, size_between, all_take, all_drop, all_lanes, entered_each, AreWithinLanes, batch_within, right_le}

-- ---- an accepted update adds one entry

pub record AddsOne (whats : List What) : Type 0 where
  pub what : What
  pub is : whats ≡ what ∷ []

fault_refuses : (fault : Fault) → is_accepted (standing (fault_reply fault)) ≡ false
fault_refuses (OfCsv csv.NoHeader) = refl
fault_refuses (OfCsv (csv.TooManyColumns got)) = refl
fault_refuses (OfCsv (csv.Unequal row want got)) = refl
fault_refuses (OfCsv (csv.NotUtf8 row field)) = refl
fault_refuses (OfCsv csv.NoMemory) = refl
fault_refuses (OfSets (sets.TooManyValues place)) = refl
fault_refuses (OfSets sets.NoMemory) = refl
fault_refuses (OfQuery (query.NotUtf8 line)) = refl
fault_refuses (OfQuery query.TooManyValues) = refl
fault_refuses (OfQuery query.NoMemory) = refl
fault_refuses (OfFile FailedFault) = refl
fault_refuses (OfFile MissingFault) = refl
fault_refuses (OfFile TooLongFault) = refl

load_adds : (rules : Rules) (read : TableRead) (now : List Entry) → is_accepted (standing (load_answer rules read now)) ≡ true → AddsOne (loads read)
load_adds rules (IsTable table) now h = record { what = journal.Loaded table; is = refl }
load_adds rules (NoTable fault) now h = absurd (not_both ⊥ (is_accepted (standing (fault_reply fault))) h (fault_refuses fault))

replace_adds : (rules : Rules) (read : TableRead) (now : List Entry) → is_accepted (standing (replace_answer rules read now)) ≡ true → AddsOne (replaces read)
replace_adds rules (IsTable table) now h = record { what = journal.Replaced table; is = refl }
replace_adds rules (NoTable fault) now h = absurd (not_both ⊥ (is_accepted (standing (fault_reply fault))) h (fault_refuses fault))

search_adds : (k : ℕ) (read : QueryRead) (pinned : List Entry) → is_accepted (standing (search_answer k read pinned)) ≡ true → ⊥
search_adds k (IsQuery keys) pinned h = not_both ⊥ false h refl
search_adds k (NoQuery fault) pinned h = not_both ⊥ (is_accepted (standing (fault_reply fault))) h (fault_refuses fault)

contain_adds : (a b : ℕ) (read : QueryRead) (pinned : List Entry) → is_accepted (standing (contain_answer a b read pinned)) ≡ true → ⊥
contain_adds a b (IsQuery keys) pinned h = not_both ⊥ false h refl
contain_adds a b (NoQuery fault) pinned h = not_both ⊥ (is_accepted (standing (fault_reply fault))) h (fault_refuses fault)

past_adds : (asked k : ℕ) (read : QueryRead) (now : List Entry) → is_accepted (standing (past_answer asked k read now)) ≡ true → ⊥
past_adds asked k (IsQuery keys) now h = by (nat_lt (length now) asked) h
  where
    by : (b : Bool) → is_accepted (standing (cond b (Later asked (length now)) (Past (length keys) (answer (live (take asked now)) keys k None) asked (length now)))) ≡ true → ⊥
    by true h = not_both ⊥ false h refl
    by false h = not_both ⊥ false h refl
past_adds asked k (NoQuery fault) now h = not_both ⊥ (is_accepted (standing (fault_reply fault))) h (fault_refuses fault)

like_adds : (k : ℕ) (name : Text) (place : ℕ) (pinned : List Entry) (found : Option Table) → is_accepted (standing (like_table k name place pinned found)) ≡ true → ⊥
like_adds k name place pinned None h = not_both ⊥ false h refl
like_adds k name place pinned (Some table) h = by (slice_get table.columns (place - 1)) h
  where
    by : (column : Option Column) → is_accepted (standing (like_column k name place pinned column)) ≡ true → ⊥
    by None h = not_both ⊥ false h refl
    by (Some column) h = not_both ⊥ false h refl

merge_adds : (pinned now : List Entry) (parts : List Part) → is_accepted (standing (merge_planned pinned now parts)) ≡ true → AddsOne (swaps (plan_of parts))
merge_adds pinned now [] h = absurd (not_both ⊥ false h refl)
merge_adds pinned now (part ∷ parts) h = record { what = _; is = refl }

pub adds_one : (rules : Rules) (task : Task) (pinned now : List Entry) → is_accepted (standing (answer_to rules task pinned now)) ≡ true → AddsOne (change_of rules task pinned)
adds_one rules (Load name body) pinned now h = load_adds rules (table_read rules.keys name body) now h
adds_one rules (LoadFile name file) pinned now h = load_adds rules (file_read rules.keys name file) now h
adds_one rules (DropTable name) pinned now h = record { what = journal.Dropped name; is = refl }
adds_one rules (Replace name body) pinned now h = replace_adds rules (table_read rules.keys name body) now h
adds_one rules Tables pinned now h = absurd (not_both ⊥ false h refl)
adds_one rules (Search k body) pinned now h = absurd (search_adds k (query_read rules.keys body) pinned h)
adds_one rules (Like k name place) pinned now h = absurd (like_adds k name place pinned (live_table pinned name) h)
adds_one rules (Contain a b body) pinned now h = absurd (contain_adds a b (query_read rules.keys body) pinned h)
adds_one rules (AsOf asked k body) pinned now h = absurd (past_adds asked k (query_read rules.keys body) now h)
adds_one rules (Merge all) pinned now h = merge_adds pinned now (planned_parts (policy_of all) (layout pinned)) h

-- ---- what an answer shows of its entry

-- a merge is planned before its entry
abbrev pub IsOrdered : Standing → Type 0
IsOrdered Nowhere = ⊤
IsOrdered (Saw at) = ⊤
IsOrdered (Added at) = 1 ≤ at
IsOrdered (PlannedAndSaw pinned at) = ⊤
IsOrdered (PlannedAndAdded pinned at) = pinned < at

-- the journal has at n + 1 the entry that the answer puts there
record Puts (rules : Rules) (journal : List Entry) (n : ℕ) (h : Hinted) : Type 0 where
  entry : Entry
  there : slice_get journal n ≡ Some entry
  put : map (entry_with (who_of h.command)) (change_of rules h.command.task (take (pinned_of h.hint) journal)) ≡ entry ∷ []
  before : pinned_of h.hint ≤ n

puts_by : (rules : Rules) (journal : List Entry) (command : Command) (reply : Reply) (s : Standing) (n : ℕ) → standing reply ≡ s → stands_at (suc n) s ≡ true → reply ≡ answer_by rules journal command s
    → AreEntered journal (entries_by rules journal command reply s) → IsOrdered s → Puts rules journal n (hinted_with command (Stands s))
puts_by rules journal command reply Nowhere n st h again entered ordered = cc
puts_by rules journal command reply (Saw at) n st h again entered ordered = cc
puts_by rules journal command reply (PlannedAndSaw pinned at) n st h again entered ordered = cc
puts_by rules journal command reply (Added at) n st h again entered ordered =
    let is : at ≡ suc n = eqb-true at (suc n) h in
    let ok : is_accepted (standing reply) ≡ true = ap is_accepted st in
    let one = adds_one rules command.task (take (at - 1) journal) (take (at - 1) journal) (ap (λ (r : Reply). is_accepted (standing r)) (sym again) ∙ ok) in
    let all : adds rules command.task (take (at - 1) journal) reply ≡ one.what ∷ [] = ap (λ (b : Bool). cond b (change_of rules command.task (take (at - 1) journal)) []) ok ∙ one.is in
    let place : at - 1 ≡ n = omega (arith, is) in
    let mine = subst (λ (ws : List What). AreEntered journal (at_position at (map (entry_with (who_of command)) ws))) all entered in
    record {
      entry = entry_with (who_of command) one.what;
      there = sym (ap (slice_get journal) place) ∙ mine.0;
      put = ap (map (entry_with (who_of command))) one.is;
      before = omega (arith, place);
    }
puts_by rules journal command reply (PlannedAndAdded pinned at) n st h again entered ordered =
    let is : at ≡ suc n = eqb-true at (suc n) h in
    let ok : is_accepted (standing reply) ≡ true = ap is_accepted st in
    let one = adds_one rules command.task (take pinned journal) (take (at - 1) journal) (ap (λ (r : Reply). is_accepted (standing r)) (sym again) ∙ ok) in
    let all : adds rules command.task (take pinned journal) reply ≡ one.what ∷ [] = ap (λ (b : Bool). cond b (change_of rules command.task (take pinned journal)) []) ok ∙ one.is in
    let place : at - 1 ≡ n = omega (arith, is) in
    let mine = subst (λ (ws : List What). AreEntered journal (at_position at (map (entry_with (who_of command)) ws))) all entered in
    record {
      entry = entry_with (who_of command) one.what;
      there = sym (ap (slice_get journal) place) ∙ mine.0;
      put = ap (map (entry_with (who_of command))) one.is;
      before = omega (arith, is, ordered);
    }

-- ---- every entry has its answer

abbrev HasAt : ℕ → Pairs → Type 0
HasAt n ps = list_any (λ (p : ℕ × Entry). p.0 == n) ps ≡ true

any_append : {X : Type 0} (test : X → Bool) (xs ys : List X) → list_any test (xs ++ ys) ≡ true → (list_any test xs ≡ true) ⊎ (list_any test ys ≡ true)
any_append test xs ys h = or_cases (list_any test xs) (list_any test ys) (sym (list_any-append test xs ys) ∙ h)

any_left : {X : Type 0} (test : X → Bool) (xs ys : List X) → list_any test xs ≡ true → list_any test (xs ++ ys) ≡ true
any_left test xs ys h = list_any-append test xs ys ∙ ap (λ (b : Bool). b || list_any test ys) h

any_right : {X : Type 0} (test : X → Bool) (xs ys : List X) → list_any test ys ≡ true → list_any test (xs ++ ys) ≡ true
any_right test xs ys h = list_any-append test xs ys ∙ ap (λ (b : Bool). list_any test xs || b) h ∙ or-true (list_any test xs)

-- the lane that made an entry
record Maker (lanes n : ℕ) (m : ℕ) (es : List Entry) : Type 0 where
  lane : ℕ
  under : lane ≤ lanes
  has : HasAt n (owned lane m es)

maker_later : (lanes m n : ℕ) (e : Entry) (es : List Entry) → Maker lanes n (m + 1) es → Maker lanes n m (e ∷ es)
maker_later lanes m n e es k = record { lane = k.lane; under = k.under; has = by (is_of k.lane (m, e)) k.has }
  where
    by : (b : Bool) → HasAt n (owned k.lane (m + 1) es) → HasAt n (cond b ((m, e) ∷ owned k.lane (m + 1) es) (owned k.lane (m + 1) es))
    by true h = any_right (λ (p : ℕ × Entry). p.0 == n) ((m, e) ∷ []) (owned k.lane (m + 1) es) h
    by false h = h

maker_of : (lanes m i : ℕ) (es : List Entry) → AllByRecursion (λ e. e.who.caller ≤ lanes) es → i < length es → Maker lanes (m + i) m es
maker_of lanes m i [] callers h = absurd (omega (arith, h))
maker_of lanes m zero (e ∷ es) callers h =
    let mine : (e.who.caller == e.who.caller) ≡ true = eq-eqb e.who.caller e.who.caller refl in
    let place : (m == m + 0) ≡ true = eq-eqb m (m + 0) (omega arith) in
    record {
      lane = e.who.caller;
      under = callers.0;
      has = subst (λ (b : Bool). HasAt (m + 0) (cond b ((m, e) ∷ owned e.who.caller (m + 1) es) (owned e.who.caller (m + 1) es))) (sym mine)
          (ap (λ (b : Bool). b || list_any (λ (p : ℕ × Entry). p.0 == m + 0) (owned e.who.caller (m + 1) es)) place);
    }
maker_of lanes m (suc i) (e ∷ es) callers h =
    let place : m + 1 + i ≡ m + suc i = omega arith in
    subst (λ (n : ℕ). Maker lanes n m (e ∷ es)) place (maker_later lanes m (m + 1 + i) e es (maker_of lanes (m + 1) i es callers.1 (omega (arith, h))))

abbrev pub HasDone : ℕ → List Done → Type 0
HasDone n done = list_any (λ (d : Done). stands_at n (standing d.reply)) done ≡ true

none_put : (n at : ℕ) (entries : List Entry) → HasAt n (at_position at entries) → (at == n) ≡ true
none_put n at [] h = cc
none_put n at (e ∷ entries) h = by (at == n) h (none_put n at entries)
  where
    by : (b : Bool) → (b || list_any (λ (p : ℕ × Entry). p.0 == n) (at_position at entries)) ≡ true → (HasAt n (at_position at entries) → b ≡ true) → b ≡ true
    by true h rest = refl
    by false h rest = rest h

entry_stands : (rules : Rules) (n : ℕ) (journal : List Entry) (command : Command) (reply : Reply) (s : Standing) → HasAt n (entries_by rules journal command reply s) → stands_at n s ≡ true
entry_stands rules n journal command reply Nowhere h = cc
entry_stands rules n journal command reply (Saw at) h = cc
entry_stands rules n journal command reply (Added at) h = none_put n at _ h
entry_stands rules n journal command reply (PlannedAndSaw pinned at) h = cc
entry_stands rules n journal command reply (PlannedAndAdded pinned at) h = none_put n at _ h

accepted_stands : (rules : Rules) (n : ℕ) (journal : List Entry) (done : List Done) → HasAt n (accepted rules journal done) → HasDone n done
accepted_stands rules n journal [] h = cc
accepted_stands rules n journal (d ∷ done) h = by (any_append (λ (p : ℕ × Entry). p.0 == n) (entries_by rules journal d.command d.reply (standing d.reply)) (accepted rules journal done) h)
    (entry_stands rules n journal d.command d.reply (standing d.reply)) (accepted_stands rules n journal done)
  where
    by : HasAt n (entries_by rules journal d.command d.reply (standing d.reply)) ⊎ HasAt n (accepted rules journal done)
        → (HasAt n (entries_by rules journal d.command d.reply (standing d.reply)) → stands_at n (standing d.reply) ≡ true) → (HasAt n (accepted rules journal done) → HasDone n done) → HasDone n (d ∷ done)
    by (inl here) own rest = ap (λ (b : Bool). b || list_any (λ (d : Done). stands_at n (standing d.reply)) done) (own here)
    by (inr there) own rest = any_right (λ (d : Done). stands_at n (standing d.reply)) (d ∷ []) done (rest there)

lane_has : (n lane : ℕ) (done : List Done) → HasDone n (of_lane lane done) → HasDone n done
lane_has n lane [] h = h
lane_has n lane (d ∷ done) h = by (d.command.lane == lane) h (lane_has n lane done)
  where
    by : (b : Bool) → HasDone n (cond b (d ∷ of_lane lane done) (of_lane lane done)) → (HasDone n (of_lane lane done) → HasDone n done) → HasDone n (d ∷ done)
    by true h rest = more (stands_at n (standing d.reply)) h rest
      where
        more : (b : Bool) → (b || list_any (λ (d : Done). stands_at n (standing d.reply)) (of_lane lane done)) ≡ true → (HasDone n (of_lane lane done) → HasDone n done) → (b || list_any (λ (d : Done). stands_at n (standing d.reply)) done) ≡ true
        more true h rest = refl
        more false h rest = rest h
    by false h rest = any_right (λ (d : Done). stands_at n (standing d.reply)) (d ∷ []) done (rest h)

-- ---- a batch

ordered_of : (s : Standing) (ms : List Moment) (low high : ℕ) → MomentsRise low (moments_by s ++ ms) high → IsOrdered s
ordered_of Nowhere ms low high h = tt
ordered_of (Saw at) ms low high h = tt
ordered_of (Added at) ms low high h = let first : low < at = h.0 in omega (arith, first)
ordered_of (PlannedAndSaw pinned at) ms low high h = tt
ordered_of (PlannedAndAdded pinned at) ms low high h = h.1.0

abbrev pub IsOrderly : Done → Type 0
IsOrderly d = IsOrdered (standing d.reply)

pub all_ordered : (low high : ℕ) (done : List Done) → MomentsRise low (moments done) high → AllByRecursion IsOrderly done
all_ordered low high [] h = tt
all_ordered low high (d ∷ done) h =
    let next = rises_rest (standing d.reply) (moments done) low high h in
    (ordered_of (standing d.reply) (moments done) low high h, all_ordered next.0 high done next.1)

-- what is known of each answer
pub record Known (rules : Rules) (journal : List Entry) (d : Done) : Type 0 where
  pub again : IsMadeAgain rules journal d
  pub has : HasEntries rules journal d
  pub ordered : IsOrderly d

all_known : (rules : Rules) (journal : List Entry) (done : List Done) → AllByRecursion (IsMadeAgain rules journal) done → AllByRecursion (HasEntries rules journal) done → AllByRecursion IsOrderly done → AllByRecursion (Known rules journal) done
all_known rules journal [] a h o = tt
all_known rules journal (d ∷ done) a h o = (record { again = a.0; has = h.0; ordered = o.0 }, all_known rules journal done a.1 h.1 o.1)

-- what the batches from one on state of the journal
pub record Tells (rules : Rules) (journal : List Entry) (from : ℕ) (done : List Done) : Type 0 where
  pub known : AllByRecursion (Known rules journal) done
  pub made : (n : ℕ) → from ≤ n → n < length journal → HasDone (suc n) done

batch_has : (rules : Rules) (lanes from to : ℕ) (journal : List Entry) (done : List Done) → from ≤ to → to ≤ length journal → AllByRecursion (λ e. e.who.caller ≤ lanes) journal
    → ((lane : ℕ) → lane ≤ lanes → LaneSays rules lane from to journal (of_lane lane done)) → (n : ℕ) → from ≤ n → n < to → HasDone (suc n) done
batch_has rules lanes from to journal done le within callers says n low high =
    let es : List Entry = between from to journal in
    let size : length es ≡ to - from = size_between from to journal le within in
    let maker : Maker lanes (from + 1 + (n - from)) (from + 1) es =
    maker_of lanes (from + 1) (n - from) es (all_take (λ (e : Entry). e.who.caller ≤ lanes) (to - from) (drop from journal) (all_drop (λ (e : Entry). e.who.caller ≤ lanes) from journal callers)) (omega (arith, size, low, high)) in
    let place : from + 1 + (n - from) ≡ suc n = omega (arith, low) in
    let own = (says maker.lane maker.under).own in
    lane_has (suc n) maker.lane done (accepted_stands rules (suc n) journal (of_lane maker.lane done)
    (subst (HasAt (suc n)) (sym own) (subst (λ (m : ℕ). HasAt m (owned maker.lane (from + 1) es)) place maker.has)))

pub batches_tell : (rules : Rules) (lanes : ℕ) (merge : Bool) (next : ℕ) (journal : List Entry) (from : ℕ) (batches : List Batch) (syncs : List ℕ) (answers : List Answered)
    → AllByRecursion (IsOfLanes lanes) batches → AllByRecursion (λ e. e.who.caller ≤ lanes) journal
    → AreBatchesRight rules lanes merge next journal from batches syncs answers → Tells rules journal from (all_dones merge next batches answers)
batches_tell rules lanes merge next journal from [] [] [] of callers h = record { known = tt; made = λ n low high. absurd (omega (arith, h, low, high)) }
batches_tell rules lanes merge next journal from [] [] (answer ∷ answers) of callers h = absurd h
batches_tell rules lanes merge next journal from [] (sync ∷ syncs) answers of callers h = absurd h
batches_tell rules lanes merge next journal from (batch ∷ batches) [] answers of callers h = absurd h
batches_tell rules lanes merge next journal from (batch ∷ batches) (sync ∷ syncs) answers of callers h =
    let commands : List Command = batch ++ merger_commands merge next batch in
    let now : List Answered = take (length commands) answers in
    let later : List Answered = drop (length commands) answers in
    let done : List Done = dones commands now in
    let inside : AreWithinLanes lanes done = batch_within lanes next merge batch now of.0 in
    let within : sync ≤ length journal = right_le rules lanes merge (next + updates batch) journal sync batches syncs later h.2 in
    let each = h.1.each in
    let says : (lane : ℕ) → lane ≤ lanes → LaneSays rules lane from sync journal (of_lane lane done) = λ lane under. lane_says rules lane from sync journal (of_lane lane done) h.0 within (each lane under) in
    let known : AllByRecursion (Known rules journal) done = all_known rules journal done (all_lanes (IsMadeAgain rules journal) lanes done inside (λ lane under. (says lane under).again))
    (all_lanes (HasEntries rules journal) lanes done inside (λ lane under. entered_each rules journal (of_lane lane done) (says lane under).entered))
    (all_lanes IsOrderly lanes done inside (λ lane under. all_ordered from sync (of_lane lane done) (says lane under).rising)) in
    let rest : Tells rules journal sync (all_dones merge (next + updates batch) batches later) = batches_tell rules lanes merge (next + updates batch) journal sync batches syncs later of.1 callers h.2 in
    record {
      known = all_append (Known rules journal) done (all_dones merge (next + updates batch) batches later) known rest.known;
      made = λ n low high. by n low high (nat_lt n sync) refl says h.0 within rest;
    }
  where
    first : List Done
    first = dones (batch ++ merger_commands merge next batch) (take (length (batch ++ merger_commands merge next batch)) answers)

    others : List Done
    others = all_dones merge (next + updates batch) batches (drop (length (batch ++ merger_commands merge next batch)) answers)

    by : (n : ℕ) → from ≤ n → n < length journal → (b : Bool) → nat_lt n sync ≡ b
        → ((lane : ℕ) → lane ≤ lanes → LaneSays rules lane from sync journal (of_lane lane first)) → from ≤ sync → sync ≤ length journal → Tells rules journal sync others
        → HasDone (suc n) (all_dones merge next (batch ∷ batches) answers)
    by n low high true e says le within rest =
        any_left (λ (d : Done). stands_at (suc n) (standing d.reply)) first others (batch_has rules lanes from sync journal first le within callers says n low (lt_true n sync e))
    by n low high false e says le within rest = any_right (λ (d : Done). stands_at (suc n) (standing d.reply)) first others (rest.made n (grind (arith, nat_tests, e)) high)

-- ---- the journal again

pub hint_at : (n : ℕ) (reply : Reply) → is_at n (hint_of reply) ≡ stands_at n (standing reply)
hint_at n NoMemory = refl
hint_at n reply = refl

puts_known : (rules : Rules) (journal : List Entry) (d : Done) (n : ℕ) → Known rules journal d → stands_at (suc n) (standing d.reply) ≡ true → Puts rules journal n (hinted_with d.command (hint_of d.reply))
puts_known rules journal d n k h = by d.reply refl k.again
  where
    by : (reply : Reply) → d.reply ≡ reply → d.reply ≡ reply_by rules journal d.command (hint_of d.reply) → Puts rules journal n (hinted_with d.command (hint_of d.reply))
    by NoMemory e again = let none : stands_at (suc n) (standing d.reply) ≡ false = ap (λ (r : Reply). stands_at (suc n) (standing r)) e in absurd (not_both ⊥ (stands_at (suc n) (standing d.reply)) h none)
    by reply e again =
        let hint : hint_of d.reply ≡ Stands (standing d.reply) = ap hint_of e ∙ sym (ap (λ (r : Reply). Stands (standing r)) e) in
        subst (λ (x : Hint). Puts rules journal n (hinted_with d.command x)) (sym hint)
        (puts_by rules journal d.command d.reply (standing d.reply) n refl h (again ∙ ap (reply_by rules journal d.command) hint) k.has k.ordered)

-- the first answer whose entry is at a position puts its entry there
found_puts : (rules : Rules) (journal : List Entry) (n : ℕ) (done : List Done) → AllByRecursion (Known rules journal) done → HasDone (suc n) done
    → (h : Hinted) × (find (λ (h : Hinted). is_at (suc n) h.hint) (hinted_of done) ≡ Some h) × Puts rules journal n h
found_puts rules journal n [] known has = cc
found_puts rules journal n (d ∷ done) known has = by (stands_at (suc n) (standing d.reply)) refl has (found_puts rules journal n done known.1)
  where
    mine : Hinted
    mine = hinted_with d.command (hint_of d.reply)

    others : Option Hinted
    others = find (λ (h : Hinted). is_at (suc n) h.hint) (hinted_of done)

    by : (b : Bool) → stands_at (suc n) (standing d.reply) ≡ b → (b || list_any (λ (d : Done). stands_at (suc n) (standing d.reply)) done) ≡ true
        → (HasDone (suc n) done → (h : Hinted) × (others ≡ Some h) × Puts rules journal n h)
        → (h : Hinted) × (cond (is_at (suc n) (hint_of d.reply)) (Some mine) others ≡ Some h) × Puts rules journal n h
    by true e has rest = (mine, ap (λ (b : Bool). cond b (Some mine) others) (hint_at (suc n) d.reply ∙ e), puts_known rules journal d n known.0 e)
    by false e has rest = let more = rest has in (more.0, ap (λ (b : Bool). cond b (Some mine) others) (hint_at (suc n) d.reply ∙ e) ∙ more.1, more.2)

take_more : (n : ℕ) (journal : List Entry) (e : Entry) → slice_get journal n ≡ Some e → take (suc n) journal ≡ take n journal ++ e ∷ []
take_more n [] e h = cc
take_more zero (x ∷ xs) e h = let is : x ≡ e = cc in ap (λ (y : Entry). y ∷ []) is
take_more (suc n) (x ∷ xs) e h = ap (λ (es : List Entry). x ∷ es) (take_more n xs e h)

rebuilt_is : (rules : Rules) (journal : List Entry) (done : List Done) → Tells rules journal 0 done → (n : ℕ) → n ≤ length journal → rebuilt rules (hinted_of done) n ≡ take n journal
rebuilt_is rules journal done tells zero le = refl
rebuilt_is rules journal done tells (suc n) le =
    let before : rebuilt rules (hinted_of done) n ≡ take n journal = rebuilt_is rules journal done tells n (omega (arith, le)) in
    let found = found_puts rules journal n done tells.known (tells.made n (omega arith) (omega (arith, le))) in
    let puts = found.2 in
    let h : Hinted = found.0 in
    let pins : take (pinned_of h.hint) (take n journal) ≡ take (pinned_of h.hint) journal = take-take (pinned_of h.hint) n journal puts.before in
    ap (λ (o : Option Hinted). rebuilt rules (hinted_of done) n ++ put_by rules (rebuilt rules (hinted_of done) n) o) found.1
    ∙ ap (λ (j : List Entry). j ++ put_by rules j (Some h)) before
    ∙ ap (λ (p : List Entry). take n journal ++ map (entry_with (who_of h.command)) (change_of rules h.command.task p)) pins
    ∙ ap (λ (es : List Entry). take n journal ++ es) puts.put
    ∙ sym (take_more n journal puts.entry puts.there)

-- ---- the answers again

-- each answer is the command's, and is made again
abbrev AreAgain : Rules → List Entry → List Command → List Answered → Type 0
AreAgain rules journal commands answers = map (answer_again rules journal) (hinted_of (dones commands answers)) ≡ answers

again_answers : (rules : Rules) (journal : List Entry) (commands : List Command) (answers : List Answered) → map (λ (a : Answered). a.who) answers ≡ map who_of commands
    → AllByRecursion (IsMadeAgain rules journal) (dones commands answers) → AreAgain rules journal commands answers
again_answers rules journal [] [] who again = refl
again_answers rules journal [] (a ∷ answers) who again = cc
again_answers rules journal (c ∷ commands) [] who again = refl
again_answers rules journal (c ∷ commands) (a ∷ answers) who again =
    let first : a.who ≡ who_of c = cc in
    let others : map (λ (a : Answered). a.who) answers ≡ map who_of commands = cc in
    let reply : a.reply ≡ reply_by rules journal c (hint_of a.reply) = again.0 in
    ap (λ (r : Reply). answered_with (who_of c) r ∷ map (answer_again rules journal) (hinted_of (dones commands answers))) (sym reply)
    ∙ ap (λ (w : Who). answered_with w a.reply ∷ map (answer_again rules journal) (hinted_of (dones commands answers))) (sym first)
    ∙ ap (λ (answers : List Answered). a ∷ answers) (again_answers rules journal commands answers others again.1)

answers_again : (rules : Rules) (lanes : ℕ) (merge : Bool) (next : ℕ) (journal : List Entry) (from : ℕ) (batches : List Batch) (syncs : List ℕ) (answers : List Answered)
    → AllByRecursion (IsOfLanes lanes) batches → AllByRecursion (λ e. e.who.caller ≤ lanes) journal
    → AreBatchesRight rules lanes merge next journal from batches syncs answers → map (answer_again rules journal) (hinted_of (all_dones merge next batches answers)) ≡ answers
answers_again rules lanes merge next journal from [] [] [] of callers h = refl
answers_again rules lanes merge next journal from [] [] (answer ∷ answers) of callers h = absurd h
answers_again rules lanes merge next journal from [] (sync ∷ syncs) answers of callers h = absurd h
answers_again rules lanes merge next journal from (batch ∷ batches) [] answers of callers h = absurd h
answers_again rules lanes merge next journal from (batch ∷ batches) (sync ∷ syncs) answers of callers h =
    let commands : List Command = batch ++ merger_commands merge next batch in
    let now : List Answered = take (length commands) answers in
    let later : List Answered = drop (length commands) answers in
    let done : List Done = dones commands now in
    let more : List Done = all_dones merge (next + updates batch) batches later in
    let within : sync ≤ length journal = right_le rules lanes merge (next + updates batch) journal sync batches syncs later h.2 in
    let each = h.1.each in
    let who = h.1.answered in
    let again : AllByRecursion (IsMadeAgain rules journal) done = all_lanes (IsMadeAgain rules journal) lanes done (batch_within lanes next merge batch now of.0)
    (λ lane under. (lane_says rules lane from sync journal (of_lane lane done) h.0 within (each lane under)).again) in
    ap (map (answer_again rules journal)) (map-append (λ (d : Done). hinted_with d.command (hint_of d.reply)) done more) ∙ map-append (answer_again rules journal) (hinted_of done) (hinted_of more)
    ∙ ap (λ (first : List Answered). first ++ map (answer_again rules journal) (hinted_of more)) (again_answers rules journal commands now who again)
    ∙ ap (λ (rest : List Answered). now ++ rest) (answers_again rules lanes merge (next + updates batch) journal sync batches syncs later of.1 callers h.2)
    ∙ take-append-drop (length commands) answers

pub hints_tell : HintsTell
hints_tell rules lanes merge batches made of right =
    let tells = batches_tell rules lanes merge 1 made.journal 0 batches made.syncs made.answers of right.callers right.each in (
      rebuilt_is rules made.journal (all_dones merge 1 batches made.answers) tells (length made.journal) (omega arith) ∙ take-length made.journal,
      answers_again rules lanes merge 1 made.journal 0 batches made.syncs made.answers of right.callers right.each,
    )
