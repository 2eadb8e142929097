-- What is played has a legal journal, whose callers are lanes of the run.
use Rattle.std.proofs.Common.{◌≡◌, refl, ap, sym, ◌∙◌, subst, ℕ, zero, suc, ◌+◌, ◌*◌, ◌≤◌, List, [], ◌∷◌, ◌++◌, map, Bool, true, false, length, take, drop, cond, arith}
use Rattle.std.specs.Prelude.{◌==◌, ◌&&◌, not, Option, Some, None, find, slice_get, slice_set}
use Rattle.std.specs.List.{AllByRecursion, fold, range_with_len}
use Rattle.std.proofs.lemmas.List.{append-nil, take-append-drop}
use Rattle.lake_model.specs.declared.Who.{Who}
use Rattle.record_model.specs.Rules.{Rules}
use Rattle.lake_model.specs.declared.Policy.{Policy}
use Rattle.lake_model.specs.Journal as journal
use Rattle.lake_model.specs.Texts.{Text}
use Rattle.lake_model.specs.Tables.{members}
use Rattle.lake_model.specs.Journal.{What, Entry, entry_with, is_live, counts}
use Rattle.lake_model.specs.Layout.{Part, layout, may_follow, is_legal, is_legal_behind}
use Rattle.lake_model.specs.Plan.{plan_of, planned_parts}
use Rattle.layout_laws.specs.Steps.{has_part}
use Rattle.layout_laws.specs.LayoutLaws.{PlansStay}
use Rattle.script_model.specs.Commands.{Task, Load, LoadFile, DropTable, Replace, Tables, Search, Like, Contain, AsOf, Merge, Command, Batch, updates}
use Rattle.lake_model.specs.Limits.{Bounded, is_passed, load_bounds, drop_bounds, replace_bounds}
use Rattle.record_model.specs.Replies.{Loaded, Dropped, Replaced, Repeated, Unknown, unless_lake_full, merge_planned, merge_gone, merge_reply}
use Rattle.record_model.specs.Answered.{TableRead, IsTable, NoTable, table_read, file_read, load_answer, replace_answer, loads, replaces, swaps, policy_of, answer_to, adds, has_pin, is_accepted, standing}
use Rattle.script_model.specs.Options.{Options}
use Rattle.record_model.specs.Record.{RunRecord, empty, with_end}
use Rattle.record_model.specs.Play.{Done, done_with, Lane, lane_with, Play, play_with, who_of, entries_of, reply_or_denied, answered, step_of, lane_step, step_at, step, with_denials, play, play_batch, whole_order, lane_of, lanes_of, batch_after, head_or_empty, merger_commands, pieces_of, played_from, played, IsPlayed}
use Rattle.record_model.specs.Right.{IsRecordRight, AreBatchesRight}
use Rattle.script_model.specs.Lanes.{IsOfLanes}
use Rattle.list_laws.proofs.ListLemmas.{all_append, all_filter}
use Rattle.record_model.proofs.PlayedLemmas.{merges_are, played_right}
use Rattle.layout_laws.proofs.LaidLemmas.{legal_behind-append}
use Rattle.std.proofs.Math.Bool.{and-true}

-- ---- a legal journal that goes on

-- One more entry.
pub legal_more : (journal : List Entry) (entry : Entry) → is_legal (journal ++ entry ∷ []) ≡ (is_legal journal && may_follow journal entry.what)
legal_more journal entry = legal_behind-append [] journal (entry ∷ []) ∙ ap (λ b. is_legal journal && b) (and-true (may_follow journal entry.what))

-- ---- what a command adds

pub either_none : (b : Bool) → cond {A = List What} b [] [] ≡ []
either_none true = refl
either_none false = refl

load_follows : (rules : Rules) (who : Who) (read : TableRead) (now : List Entry) → is_legal_behind now (map (entry_with who) (cond (is_accepted (standing (load_answer rules read now))) (loads read) [])) ≡ true
load_follows rules who (NoTable fault) now = ap (λ whats. is_legal_behind now (map (entry_with who) whats)) (either_none (is_accepted (standing (load_answer rules (NoTable fault) now))))
load_follows rules who (IsTable table) now = by (is_live now table.name) (find is_passed (load_bounds rules.limits table (counts now))) refl
  where
    by : (b : Bool) (o : Option Bounded) → is_live now table.name ≡ b
        → is_legal_behind now (map (entry_with who) (cond (is_accepted (standing (cond b (Repeated table.name (length now)) (unless_lake_full (length now) (Loaded table.name (length table.columns) (members table) (length now + 1)) o)))) (journal.Loaded table ∷ []) [])) ≡ true
    by true o e = refl
    by false None e = ap (λ b. not b && true) e
    by false (Some bound) e = refl

drop_follows : (rules : Rules) (who : Who) (name : Text) (now : List Entry) → is_legal_behind now (map (entry_with who) (adds rules (DropTable name) now (answer_to rules (DropTable name) now now))) ≡ true
drop_follows rules who name now = by (is_live now name) (find is_passed (drop_bounds rules.limits (counts now))) refl
  where
    by : (b : Bool) (o : Option Bounded) → is_live now name ≡ b
        → is_legal_behind now (map (entry_with who) (cond (is_accepted (standing (cond b (unless_lake_full (length now) (Dropped name (length now + 1)) o) (Unknown name (length now))))) (journal.Dropped name ∷ []) [])) ≡ true
    by true None e = ap (λ b. b && true) e
    by true (Some bound) e = refl
    by false o e = refl

replace_follows : (rules : Rules) (who : Who) (read : TableRead) (now : List Entry) → is_legal_behind now (map (entry_with who) (cond (is_accepted (standing (replace_answer rules read now))) (replaces read) [])) ≡ true
replace_follows rules who (NoTable fault) now = ap (λ whats. is_legal_behind now (map (entry_with who) whats)) (either_none (is_accepted (standing (replace_answer rules (NoTable fault) now))))
replace_follows rules who (IsTable table) now = by (is_live now table.name) (find is_passed (replace_bounds rules.limits table (counts now))) refl
  where
    by : (b : Bool) (o : Option Bounded) → is_live now table.name ≡ b
        → is_legal_behind now (map (entry_with who) (cond (is_accepted (standing (cond b (unless_lake_full (length now) (Replaced table.name (length table.columns) (members table) (length now + 1)) o) (Unknown table.name (length now))))) (journal.Replaced table ∷ []) [])) ≡ true
    by true None e = ap (λ b. b && true) e
    by true (Some bound) e = refl
    by false o e = refl

merge_follows : PlansStay → (who : Who) (policy : Policy) (pinned behind : List Entry) → is_legal (pinned ++ behind) ≡ true
    → is_legal_behind (pinned ++ behind) (map (entry_with who) (cond (is_accepted (standing (merge_reply policy pinned (pinned ++ behind)))) (swaps (plan_of (planned_parts policy (layout pinned)))) [])) ≡ true
merge_follows stay who policy pinned behind legal = by (planned_parts policy (layout pinned)) refl
  where
    gone : (part : Part) (parts : List Part) (missing : Option Part) → planned_parts policy (layout pinned) ≡ part ∷ parts
        → find (λ planned. not (has_part (layout (pinned ++ behind)) planned)) (part ∷ parts) ≡ missing
        → is_legal_behind (pinned ++ behind) (map (entry_with who) (cond (is_accepted (standing (merge_gone pinned (pinned ++ behind) (part ∷ parts) missing))) (swaps (plan_of (part ∷ parts))) [])) ≡ true
    gone part parts None planned e = ap (λ b. b && true) (stay policy pinned behind part parts legal planned e)
    gone part parts (Some other) planned e = refl

    by : (parts : List Part) → planned_parts policy (layout pinned) ≡ parts
        → is_legal_behind (pinned ++ behind) (map (entry_with who) (cond (is_accepted (standing (merge_planned pinned (pinned ++ behind) parts))) (swaps (plan_of parts)) [])) ≡ true
    by [] planned = refl
    by (part ∷ parts) planned = gone part parts (find (λ planned. not (has_part (layout (pinned ++ behind)) planned)) (part ∷ parts)) planned refl

-- what a command adds may follow the journal, wherever before that the command was pinned
task_follows : PlansStay → (rules : Rules) (who : Who) (task : Task) (pinned behind : List Entry) → is_legal (pinned ++ behind) ≡ true
    → is_legal_behind (pinned ++ behind) (map (entry_with who) (adds rules task pinned (answer_to rules task pinned (pinned ++ behind)))) ≡ true
task_follows stay rules who (Load name body) pinned behind legal = load_follows rules who (table_read rules.keys name body) (pinned ++ behind)
task_follows stay rules who (LoadFile name file) pinned behind legal = load_follows rules who (file_read rules.keys name file) (pinned ++ behind)
task_follows stay rules who (DropTable name) pinned behind legal = drop_follows rules who name (pinned ++ behind)
task_follows stay rules who (Replace name body) pinned behind legal = replace_follows rules who (table_read rules.keys name body) (pinned ++ behind)
task_follows stay rules who Tables pinned behind legal = refl
task_follows stay rules who (Search k body) pinned behind legal =
    ap (λ whats. is_legal_behind (pinned ++ behind) (map (entry_with who) whats)) (either_none (is_accepted (standing (answer_to rules (Search k body) pinned (pinned ++ behind)))))
task_follows stay rules who (Like k name place) pinned behind legal =
    ap (λ whats. is_legal_behind (pinned ++ behind) (map (entry_with who) whats)) (either_none (is_accepted (standing (answer_to rules (Like k name place) pinned (pinned ++ behind)))))
task_follows stay rules who (Contain a b body) pinned behind legal =
    ap (λ whats. is_legal_behind (pinned ++ behind) (map (entry_with who) whats)) (either_none (is_accepted (standing (answer_to rules (Contain a b body) pinned (pinned ++ behind)))))
task_follows stay rules who (AsOf asked k body) pinned behind legal =
    ap (λ whats. is_legal_behind (pinned ++ behind) (map (entry_with who) whats)) (either_none (is_accepted (standing (answer_to rules (AsOf asked k body) pinned (pinned ++ behind)))))
task_follows stay rules who (Merge all) pinned behind legal = merge_follows stay who (policy_of all) pinned behind legal

reply_follows : PlansStay → (rules : Rules) (command : Command) (denied : Bool) (pinned behind now : List Entry) → pinned ++ behind ≡ now → is_legal now ≡ true
    → is_legal_behind now (entries_of rules pinned command (reply_or_denied denied (answer_to rules command.task pinned now))) ≡ true
reply_follows stay rules command true pinned behind now whole legal = refl
reply_follows stay rules command false pinned behind now whole legal =
    subst (λ (j : List Entry). is_legal_behind j (entries_of rules pinned command (answer_to rules command.task pinned j)) ≡ true) whole
    (task_follows stay rules (who_of command) command.task pinned behind (ap is_legal whole ∙ legal))

-- ---- a legal play

-- commands of these lanes or of the merger
abbrev pub AreWithin : ℕ → List Command → Type 0
AreWithin n commands = AllByRecursion (λ command. command.lane ≤ n) commands

abbrev pub AreCallers : ℕ → List Entry → Type 0
AreCallers n entries = AllByRecursion (λ e. e.who.caller ≤ n) entries

record IsLawful (n : ℕ) (journal : List Entry) : Type 0 where
  legal : is_legal journal ≡ true
  callers : AreCallers n journal

record PlaysLawfully (n : ℕ) (state : Play) : Type 0 where
  lawful : IsLawful n state.journal
  within : AllByRecursion (λ lane. AreWithin n lane.todo) state.lanes

all_get : {X : Type 0} (P : X → Type 0) (xs : List X) (i : ℕ) (x : X) → AllByRecursion P xs → slice_get xs i ≡ Some x → P x
all_get P [] i x h e = cc
all_get P (y ∷ xs) zero x h e = let same : y ≡ x = cc in subst P same h.0
all_get P (y ∷ xs) (suc i) x h e = all_get P xs i x h.1 e

all_set : {X : Type 0} (P : X → Type 0) (xs : List X) (i : ℕ) (x : X) → AllByRecursion P xs → P x → AllByRecursion P (slice_set xs i x)
all_set P [] i x h k = tt
all_set P (y ∷ xs) zero x h k = (k, h.1)
all_set P (y ∷ xs) (suc i) x h k = (h.0, all_set P xs i x h.1 k)

pub are_callers : (n : ℕ) (command : Command) (whats : List What) → command.lane ≤ n → AreCallers n (map (entry_with (who_of command)) whats)
are_callers n command [] h = tt
are_callers n command (what ∷ whats) h = (h, are_callers n command whats h)

lawful_on : (n : ℕ) (before entries : List Entry) → IsLawful n before → is_legal_behind before entries ≡ true → AreCallers n entries → IsLawful n (before ++ entries)
lawful_on n before entries lawful legal callers = record {
  legal = legal_behind-append [] before entries ∙ ap (λ b. b && is_legal_behind before entries) lawful.legal ∙ legal;
  callers = all_append (λ (e : Entry). e.who.caller ≤ n) before entries lawful.callers callers;
}

answered_lawful : PlansStay → (rules : Rules) (denied : Bool) (n : ℕ) (journal : List Entry) (lanes : List Lane) (l : ℕ) (done : List Done) (command : Command) (todo : List Command) (pinned behind : List Entry)
    → pinned ++ behind ≡ journal → PlaysLawfully n (play_with journal lanes) → AreWithin n (command ∷ todo) → PlaysLawfully n (answered rules denied journal lanes l done command todo pinned)
answered_lawful stay rules denied n journal lanes l done command todo pinned behind whole state within =
    let reply = reply_or_denied denied (answer_to rules command.task pinned journal) in
    record {
      lawful = lawful_on n journal (entries_of rules pinned command reply) state.lawful (reply_follows stay rules command denied pinned behind journal whole state.lawful.legal) (are_callers n command (adds rules command.task pinned reply) within.0);
      within = all_set (λ (lane : Lane). AreWithin n lane.todo) lanes l (lane_with todo None (done ++ done_with command reply ∷ [])) state.within within.1;
    }

step_of_lawful : PlansStay → (rules : Rules) (denied : Bool) (n : ℕ) (journal : List Entry) (lanes : List Lane) (l : ℕ) (done : List Done) (command : Command) (todo : List Command) (b : Bool) (pin : Option ℕ)
    → PlaysLawfully n (play_with journal lanes) → AreWithin n (command ∷ todo) → PlaysLawfully n (step_of rules denied journal lanes l done command todo b pin)
step_of_lawful stay rules denied n journal lanes l done command todo true None state within =
    record { lawful = state.lawful; within = all_set (λ (lane : Lane). AreWithin n lane.todo) lanes l (lane_with (command ∷ todo) (Some (length journal)) done) state.within within }
step_of_lawful stay rules denied n journal lanes l done command todo true (Some at) state within =
    answered_lawful stay rules denied n journal lanes l done command todo (take at journal) (drop at journal) (take-append-drop at journal) state within
step_of_lawful stay rules denied n journal lanes l done command todo false pin state within = answered_lawful stay rules denied n journal lanes l done command todo journal [] (append-nil journal) state within

lane_step_lawful : PlansStay → (rules : Rules) (denied : Bool) (n : ℕ) (journal : List Entry) (lanes : List Lane) (l : ℕ) (todo : List Command) (lane : Lane)
    → PlaysLawfully n (play_with journal lanes) → AreWithin n todo → PlaysLawfully n (lane_step rules denied journal lanes l todo lane)
lane_step_lawful stay rules denied n journal lanes l [] lane state within = state
lane_step_lawful stay rules denied n journal lanes l (command ∷ todo) lane state within = step_of_lawful stay rules denied n journal lanes l lane.done command todo (has_pin command.task) lane.pin state within

step_at_lawful : PlansStay → (rules : Rules) (denied : Bool) (n : ℕ) (journal : List Entry) (lanes : List Lane) (l : ℕ) (o : Option Lane) → PlaysLawfully n (play_with journal lanes) → slice_get lanes l ≡ o
    → PlaysLawfully n (step_at rules denied journal lanes l o)
step_at_lawful stay rules denied n journal lanes l None state e = state
step_at_lawful stay rules denied n journal lanes l (Some lane) state e =
    lane_step_lawful stay rules denied n journal lanes l lane.todo lane state (all_get (λ (lane : Lane). AreWithin n lane.todo) lanes l lane state.within e)

steps_lawful : PlansStay → (rules : Rules) (n : ℕ) (state : Play) (turns : List (ℕ × Bool)) → PlaysLawfully n state → PlaysLawfully n (fold (step rules) state turns)
steps_lawful stay rules n state [] lawful = lawful
steps_lawful stay rules n state (turn ∷ turns) lawful =
    steps_lawful stay rules n (step rules state turn) turns (step_at_lawful stay rules turn.1 n state.journal state.lanes turn.0 (slice_get state.lanes turn.0) lawful refl)

play_lawful : PlansStay → (rules : Rules) (n : ℕ) (order : List ℕ) (denials : List Bool) (state : Play) → PlaysLawfully n state → PlaysLawfully n (play rules order denials state)
unfolding play
play_lawful stay rules n order denials state lawful = steps_lawful stay rules n state (with_denials order denials) lawful

-- ---- a batch, and a record

pub within_batch : (n : ℕ) (batch : Batch) → IsOfLanes n batch → AreWithin n batch
within_batch n [] lanes = tt
within_batch n (command ∷ batch) lanes = (lanes.0.1, within_batch n batch lanes.1)

-- the merger is caller 0
pub within_merges : (n : ℕ) (merges : List Command) → AllByRecursion (λ command. command.lane ≡ 0) merges → AreWithin n merges
within_merges n [] h = tt
within_merges n (command ∷ merges) h = (let zeroth : command.lane ≡ 0 = h.0 in omega (arith, zeroth), within_merges n merges h.1)

within_lanes : (n : ℕ) (batch : Batch) (from count : ℕ) → AreWithin n batch → AllByRecursion (λ lane. AreWithin n lane.todo) (map (lane_of batch) (range_with_len from count))
within_lanes n batch from zero within = tt
within_lanes n batch from (suc count) within = (all_filter (λ command. command.lane ≤ n) (λ command. command.lane == from) batch within, within_lanes n batch (from + 1) count within)

batch_lawful : PlansStay → (rules : Rules) (n : ℕ) (batch : Batch) (merges : List Command) (piece : List ℕ) (denials : List Bool) (journal : List Entry) → AreWithin n batch → AreWithin n merges → IsLawful n journal
    → IsLawful n (play_batch rules n batch merges piece denials journal).journal
batch_lawful stay rules n batch merges piece denials journal within also lawful =
    (play_lawful stay rules n (whole_order piece n (2 * (length batch + length merges))) denials (play_with journal (lanes_of n batch merges)) (record { lawful = lawful; within = (also, within_lanes n batch 1 n within) })).lawful

played_lawful : PlansStay → (rules : Rules) (n : ℕ) (merge : Bool) (next : ℕ) (batches : List Batch) (pieces : List (List ℕ)) (denials : List (List Bool)) (before : RunRecord) → AllByRecursion (IsOfLanes n) batches
    → IsLawful n before.journal → IsLawful n (played_from rules n merge next batches pieces denials before).journal
unfolding played_from
played_lawful stay rules n merge next [] pieces denials before lanes lawful = lawful
played_lawful stay rules n merge next (batch ∷ batches) pieces denials before lanes lawful =
    let merges = merger_commands merge next batch in
    played_lawful stay rules n merge (next + updates batch) batches (drop 1 pieces) (drop 1 denials) (batch_after rules n batch merges (head_or_empty pieces) (head_or_empty denials) before) lanes.1
    (batch_lawful stay rules n batch merges (head_or_empty pieces) (head_or_empty denials) before.journal (within_batch n batch lanes.0) (within_merges n merges (merges_are merge next batch)) lawful)

right_from : PlansStay → (rules : Rules) (options : Options) (batches : List Batch) (denials : List (List Bool)) → AllByRecursion (IsOfLanes options.lanes) batches
    → IsRecordRight rules options.lanes options.merge batches (played rules options batches denials)
right_from stay rules options batches denials lanes =
    let made = played rules options batches denials in
    let ran = played_right rules options.lanes options.merge 1 batches (pieces_of options.order) denials (empty options) lanes in
    let lawful = played_lawful stay rules options.lanes options.merge 1 batches (pieces_of options.order) denials (empty options) lanes (record { legal = refl; callers = tt }) in
    record {
      legal = lawful.legal;
      callers = lawful.callers;
      each = subst (λ syncs. AreBatchesRight rules options.lanes options.merge 1 made.journal 0 batches syncs made.answers) (sym ran.syncs_are)
          (subst (λ answers. AreBatchesRight rules options.lanes options.merge 1 made.journal 0 batches ran.syncs answers) (sym ran.answers_are) ran.right);
    }

-- the same except for whether its source was read to the end
ended_right : (rules : Rules) (lanes : ℕ) (merge : Bool) (batches : List Batch) (made : RunRecord) (ended : Bool) → IsRecordRight rules lanes merge batches made → IsRecordRight rules lanes merge batches (with_end ended made)
ended_right rules lanes merge batches made ended right = record { legal = right.legal; callers = right.callers; each = right.each }

-- A record that was played is right: in whatever order, wherever memory ran out, with merges and a merger.
pub record_right : PlansStay → (rules : Rules) (options : Options) (batches : List Batch) (made : RunRecord) → AllByRecursion (IsOfLanes options.lanes) batches → IsPlayed rules options batches made
    → IsRecordRight rules options.lanes options.merge batches made
record_right stay rules options batches made lanes (denials, is) =
    subst (λ r. IsRecordRight rules options.lanes options.merge batches r) (sym is)
    (ended_right rules options.lanes options.merge batches (played rules options batches denials) made.ended (right_from stay rules options batches denials lanes))
