-- From what was made to what was answered, and from there to a step.
use Rattle.std.proofs.Common.{◌≡◌, refl, ap, sym, ◌∙◌, subst, ℕ, ◌≤◌, List, [], ◌∷◌, ◌++◌, append-nil, append_assoc, length, length-append, Bool, true, false, cond, map, inl, Option, None, Some, arith, take}
use Rattle.std.proofs.lemmas.List.{take_all, take-append-le}
use Rattle.std.specs.Prelude.{unwrap_or}
use mathlib.Core.List.{IsPrefix}
use Rattle.record_model.specs.Rules.{Rules}
use Rattle.lake_model.specs.Texts.{Text}
use Rattle.lake_model.specs.Tables.{Table}
use Rattle.lake_model.specs.Journal.{Entry, What, entry_with, who_with}
use Rattle.turn_lock.specs.History.{Grows}
use Rattle.turn_lock.specs.Passes.{Known, after_seeing, callers_of}
use Rattle.turn_lock.proofs.Histories.{grows_self, grows_trans}
use Rattle.lake.specs.Lawful.{caller_of}
use Rattle.script_model.specs.Commands.{Command, Task, command_with, Load, LoadFile, DropTable, Replace, Tables, Search, Like, Contain, AsOf, Merge, File, is_update_task}
use Rattle.record_model.specs.Replies.{Reply, NoMemory, load_reply, replace_reply, NothingToMerge, merge_reply}
use Rattle.record_model.specs.Answered.{TableRead, IsTable, answer_to, adds, is_accepted, standing, load_answer, replace_answer, loads, replaces, table_read, file_read, change_of, policy_of, swaps}
use Rattle.record_model.specs.Play.{done_with, entries_of, reply_or_denied, who_of}
use Rattle.record_model.specs.Right.{IsRight}
use Rattle.record_model.proofs.RightLemmas.{right_stays}
use Rattle.record_model.proofs.PlayLemmas.{reply_fits, right_step, Fits}
use Rattle.lake_model.specs.Plan.{plan}
use Rattle.segment_core.specs.Plans.{MergedOf}
use Rattle.batch_work.specs.Works.{merge_policy}
use Rattle.command_replies.specs.Loads.{IsRefusal, loaded_by}
use Rattle.command_replies.specs.Pasts.{is_past}
use Rattle.command_replies.specs.Replaces.{replaced_by}
use Rattle.command_replies.proofs.PastLemmas.{none_taken, prefix_on}
use Rattle.command_replies.proofs.LoadLemmas.{Answers, refused_answer, refused_nowhere}
use Rattle.command_replies.proofs.ReplaceLemmas.{refused_replace_answer}
use Rattle.command_replies.proofs.MergeLemmas.{planned_later, planned_reply, planned_change}
use Rattle.command_replies.specs.Merging.{IsPlanned, swap_reply, swapped_by}
use Rattle.command_replies.specs.declared.merging.Planned.{Planned}
use Rattle.lake_desk.proofs.Lanes.{not_own}
use Rattle.lake_desk.specs.Answering.{IsMade, IsAnswered, IsStep}
use Rattle.lake_desk.specs.Pasts.{Begins}
use Rattle.record_model.proofs.LegalLemmas.{either_none}
use Rattle.record_model.proofs.StepLemmas.{none_done}

self_prefix : (now : List Entry) → (length now ≤ length now) × (take (length now) now ≡ now)
self_prefix now = (omega arith, take_all (length now) now (omega arith))

-- a pass that holds no turn, and has seen nothing more, is unchanged
pub same_pass : (pass : Known Entry) → pass.holds ≡ false → pass ≡ after_seeing pass pass.seen false
same_pass pass free = ap (λ (b : Bool). after_seeing pass pass.seen b) free

-- what the pass had seen, followed by what it has seen since
behind_of : (rules : Rules) (command : Command) (before : Known Entry) (reply : Reply) (after : List Entry) → (a : IsAnswered rules command before reply after) → before.seen ++ (a.grows.rest ++ entries_of rules a.pinned command reply) ≡ after
behind_of rules command before reply after a =
    sym (append_assoc before.seen a.grows.rest (entries_of rules a.pinned command reply)) ∙ ap (λ (j : List Entry). j ++ entries_of rules a.pinned command reply) a.grows.begins ∙ sym a.added

-- The one answer is right between what was seen before it and after it.
answered_right : (rules : Rules) (command : Command) (before : Known Entry) (reply : Reply) (after : List Entry) → (a : IsAnswered rules command before reply after) → command.lane ≡ before.caller
    → IsRight rules before.caller before.seen (a.grows.rest ++ entries_of rules a.pinned command reply) (done_with command reply ∷ [])
answered_right rules command before reply after a mine =
    let found : before.seen ++ a.grows.rest ≡ a.found = a.grows.begins in
    let others = not_own before.caller (callers_of before) a.grows.rest (inl refl) a.grows.others in
    let none : IsRight rules before.caller before.seen a.grows.rest [] = right_stays rules before.caller before.seen [] a.grows.rest [] others (none_done rules before.caller before.seen) in
    let fits : Fits rules command a.pinned a.found (reply_or_denied a.denied (answer_to rules command.task a.pinned a.found)) = reply_fits rules a.denied command a.pinned a.found a.begins a.same in
    let here : Fits rules command a.pinned (before.seen ++ a.grows.rest) reply =
    subst (λ (j : List Entry). Fits rules command a.pinned j reply) (sym found) (subst (λ (r : Reply). Fits rules command a.pinned a.found r) (sym a.is) fits) in
    right_step rules before.caller before.seen a.grows.rest [] command a.pinned reply mine none a.late here

pub answered_step : (rules : Rules) (command : Command) (before : Known Entry) (reply : Reply) (after : Known Entry) → IsAnswered rules command before reply after.seen → after ≡ after_seeing before after.seen before.holds
    → IsStep rules before command reply after
answered_step rules command before reply after a same = record {
  behind = a.grows.rest ++ entries_of rules a.pinned command reply;
  sees = same ∙ ap (λ (j : List Entry). after_seeing before j before.holds) (sym (behind_of rules command before reply after.seen a));
  right = answered_right rules command before reply after.seen a;
}

-- the same for a command that is the pass's own if its lane is
pub answered_by : (rules : Rules) (command own : Command) (before : Known Entry) (reply : Reply) (after : Known Entry) → (command.lane ≡ before.caller → own ≡ command) → own.lane ≡ before.caller
    → IsAnswered rules own before reply after.seen → after ≡ after_seeing before after.seen before.holds → IsStep rules before command reply after
answered_by rules command own before reply after is mine a same =
    let step = answered_step rules own before reply after a same in
    record {
      behind = step.behind;
      sees = step.sees;
      right = λ lane. subst (λ (c : Command). IsRight rules before.caller before.seen step.behind (done_with c reply ∷ [])) (is lane) (step.right mine);
    }

-- ---- commands without a pin

-- a command without a pin was answered if its reply was made
pub made_answered : (rules : Rules) (number : ℕ) (task : Task) (answer : List Entry → Reply) (whats : Reply → List What) (before : Known Entry) (reply : Reply) (after : List Entry)
    → ((found : List Entry) → answer found ≡ answer_to rules task found found) → ((found : List Entry) → whats reply ≡ adds rules task found reply)
    → IsMade answer whats number before reply after → IsAnswered rules (command_with number before.caller task) before reply after
made_answered rules number task answer whats before reply after answers does made = record {
  found = made.found;
  pinned = made.found;
  denied = made.denied;
  grows = made.grows;
  begins = self_prefix made.found;
  late = omega (arith, ap (λ (j : List Entry). length j) made.grows.begins, length-append before.seen made.grows.rest);
  same = λ _. refl;
  is = made.is ∙ ap (reply_or_denied made.denied) (answers made.found);
  added = made.added ∙ ap (λ (ws : List What). made.found ++ map (entry_with (who_with before.caller number)) ws) (does made.found);
}

grown_late : (callers : List ℕ) (before after : List Entry) → Grows caller_of callers before after → length before ≤ length after
grown_late callers before after grows = omega (arith, ap (λ (j : List Entry). length j) grows.begins, length-append before grows.rest)

-- ---- loads

pub load_answered : (rules : Rules) (number : ℕ) (name : Text) (bytes : List ℕ) (table : Table) (before : Known Entry) (reply : Reply) (after : List Entry) → table_read rules.keys name bytes ≡ IsTable table
    → IsMade (load_reply rules.limits table) (loaded_by table) number before reply after → IsAnswered rules (command_with number before.caller (Load name bytes)) before reply after
load_answered rules number name bytes table before reply after is made =
    made_answered rules number (Load name bytes) (load_reply rules.limits table) (loaded_by table) before reply after
    (λ found. ap (λ (r : TableRead). load_answer rules r found) (sym is)) (λ found. ap (λ (r : TableRead). cond (is_accepted (standing reply)) (loads r) []) (sym is)) made

pub file_answered : (rules : Rules) (number : ℕ) (name : Text) (file : File) (table : Table) (before : Known Entry) (reply : Reply) (after : List Entry) → file_read rules.keys name file ≡ IsTable table
    → IsMade (load_reply rules.limits table) (loaded_by table) number before reply after → IsAnswered rules (command_with number before.caller (LoadFile name file)) before reply after
file_answered rules number name file table before reply after is made =
    made_answered rules number (LoadFile name file) (load_reply rules.limits table) (loaded_by table) before reply after
    (λ found. ap (λ (r : TableRead). load_answer rules r found) (sym is)) (λ found. ap (λ (r : TableRead). cond (is_accepted (standing reply)) (loads r) []) (sym is)) made

-- a reply that adds nothing, at what the pass had seen
unmoved : (rules : Rules) (command : Command) (before : Known Entry) (reply : Reply) → Answers reply (answer_to rules command.task before.seen before.seen) → is_accepted (standing reply) ≡ false
    → IsAnswered rules command before reply before.seen
unmoved rules command before reply (denied, said) nothing = record {
  found = before.seen;
  pinned = before.seen;
  denied = denied;
  grows = grows_self caller_of (callers_of before) before.seen;
  begins = self_prefix before.seen;
  late = omega arith;
  same = λ _. refl;
  is = said;
  added = sym (append-nil before.seen) ∙ ap (λ (b : Bool). before.seen ++ map (entry_with (who_of command)) (cond b (change_of rules command.task before.seen) [])) (sym nothing);
}

pub load_refused : (rules : Rules) (number : ℕ) (name : Text) (bytes : List ℕ) (before : Known Entry) (reply : Reply) → IsRefusal (table_read rules.keys name bytes) reply
    → IsAnswered rules (command_with number before.caller (Load name bytes)) before reply before.seen
load_refused rules number name bytes before reply why = unmoved rules (command_with number before.caller (Load name bytes)) before reply (refused_answer rules before.seen (table_read rules.keys name bytes) reply why) (refused_nowhere (table_read rules.keys name bytes) reply why)

pub file_refused : (rules : Rules) (number : ℕ) (name : Text) (file : File) (before : Known Entry) (reply : Reply) → IsRefusal (file_read rules.keys name file) reply
    → IsAnswered rules (command_with number before.caller (LoadFile name file)) before reply before.seen
file_refused rules number name file before reply why = unmoved rules (command_with number before.caller (LoadFile name file)) before reply (refused_answer rules before.seen (file_read rules.keys name file) reply why) (refused_nowhere (file_read rules.keys name file) reply why)

-- ---- replaces

pub replace_answered : (rules : Rules) (number : ℕ) (name : Text) (bytes : List ℕ) (table : Table) (before : Known Entry) (reply : Reply) (after : List Entry) → table_read rules.keys name bytes ≡ IsTable table
    → IsMade (replace_reply rules.limits table) (replaced_by table) number before reply after → IsAnswered rules (command_with number before.caller (Replace name bytes)) before reply after
replace_answered rules number name bytes table before reply after is made =
    made_answered rules number (Replace name bytes) (replace_reply rules.limits table) (replaced_by table) before reply after
    (λ found. ap (λ (r : TableRead). replace_answer rules r found) (sym is)) (λ found. ap (λ (r : TableRead). cond (is_accepted (standing reply)) (replaces r) []) (sym is)) made

pub replace_refused : (rules : Rules) (number : ℕ) (name : Text) (bytes : List ℕ) (before : Known Entry) (reply : Reply) → IsRefusal (table_read rules.keys name bytes) reply
    → IsAnswered rules (command_with number before.caller (Replace name bytes)) before reply before.seen
replace_refused rules number name bytes before reply why =
    unmoved rules (command_with number before.caller (Replace name bytes)) before reply (refused_replace_answer rules before.seen (table_read rules.keys name bytes) reply why) (refused_nowhere (table_read rules.keys name bytes) reply why)

-- ---- questions

asks_nothing : (rules : Rules) (task : Task) → is_update_task task ≡ false → merge_policy task ≡ None → (pinned : List Entry) → change_of rules task pinned ≡ []
asks_nothing rules (Load name body) u m pinned = absurd (let f : true ≡ false = u in cc)
asks_nothing rules (LoadFile name file) u m pinned = absurd (let f : true ≡ false = u in cc)
asks_nothing rules (DropTable name) u m pinned = absurd (let f : true ≡ false = u in cc)
asks_nothing rules (Replace name body) u m pinned = absurd (let f : true ≡ false = u in cc)
asks_nothing rules Tables u m pinned = refl
asks_nothing rules (Search k body) u m pinned = refl
asks_nothing rules (Like k name place) u m pinned = refl
asks_nothing rules (Contain a b body) u m pinned = refl
asks_nothing rules (AsOf asked k body) u m pinned = refl
asks_nothing rules (Merge all) u m pinned = absurd (let f : Some (policy_of all) ≡ None = m in cc)

pub asked : (rules : Rules) (number : ℕ) (task : Task) (before : Known Entry) (reply : Reply) (after : List Entry) → is_update_task task ≡ false → merge_policy task ≡ None
    → Grows caller_of (callers_of before) before.seen after → Answers reply (answer_to rules task after after) → IsAnswered rules (command_with number before.caller task) before reply after
asked rules number task before reply after u m grows (denied, said) =
    let none : change_of rules task after ≡ [] = asks_nothing rules task u m after in
    record {
      found = after;
      pinned = after;
      denied = denied;
      grows = grows;
      begins = self_prefix after;
      late = grown_late (callers_of before) before.seen after grows;
      same = λ _. refl;
      is = said;
      added = sym (append-nil after) ∙ ap (λ (ws : List What). after ++ map (entry_with (who_with before.caller number)) ws) (sym (either_none (is_accepted (standing reply))) ∙ ap (λ (ws : List What). cond (is_accepted (standing reply)) ws []) (sym none));
    }

-- ---- merges

pub merged_answered : (rules : Rules) (number : ℕ) (all : Bool) (before between : Known Entry) (planned : Planned) (reply : Reply) (after : List Entry)
    → Grows caller_of (callers_of before) before.seen between.seen → between ≡ after_seeing before between.seen false → IsPlanned (policy_of all) between.seen planned → planned.layout.at ≡ length between.seen
    → IsMade (swap_reply planned.layout planned.merged) (swapped_by planned.merged) number between reply after
    → IsAnswered rules (command_with number before.caller (Merge all)) before reply after
merged_answered rules number all before between planned reply after grows same plans newest made =
    let callers : callers_of between ≡ callers_of before = ap callers_of same in
    let on : Grows caller_of (callers_of before) between.seen made.found = subst (λ (cs : List ℕ). Grows caller_of cs between.seen made.found) callers made.grows in
    let later : IsPlanned (policy_of all) made.found planned = subst (λ (j : List Entry). IsPlanned (policy_of all) j planned) on.begins (planned_later (policy_of all) between.seen on.rest planned plans) in
    let pinned : take planned.layout.at made.found ≡ between.seen =
    ap (λ (j : List Entry). take planned.layout.at j) (sym on.begins) ∙ ap (λ (n : ℕ). take n (between.seen ++ on.rest)) newest
    ∙ take-append-le (length between.seen) between.seen on.rest (omega arith) ∙ take_all (length between.seen) between.seen (omega arith) in
    let mine : between.caller ≡ before.caller = ap (λ (p : Known Entry). p.caller) same in
    record {
      found = made.found;
      pinned = between.seen;
      denied = made.denied;
      grows = grows_trans caller_of grows on;
      begins = (grown_late (callers_of before) between.seen made.found on, ap (λ (n : ℕ). take n made.found) (sym newest) ∙ pinned);
      late = grown_late (callers_of before) before.seen between.seen grows;
      same = λ no. absurd (let f : true ≡ false = no in cc);
      is = made.is ∙ ap (reply_or_denied made.denied) (planned_reply (policy_of all) made.found planned later ∙ ap (λ (j : List Entry). merge_reply (policy_of all) j made.found) pinned);
      added = made.added
          ∙ ap (λ (n : ℕ). made.found ++ map (entry_with (who_with n number)) (swapped_by planned.merged reply)) mine
          ∙ ap (λ (ws : List What). made.found ++ map (entry_with (who_with before.caller number)) (cond (is_accepted (standing reply)) ws []))
          (planned_change (policy_of all) made.found planned later ∙ ap (λ (j : List Entry). swaps (plan (policy_of all) j)) pinned);
    }

pub nothing_made : (number : ℕ) (before : Known Entry) (planned : Planned) → planned.merged ≡ None
    → IsMade (swap_reply planned.layout planned.merged) (swapped_by planned.merged) number before (NothingToMerge planned.layout) before.seen
nothing_made number before planned none = record {
  found = before.seen;
  denied = false;
  grows = grows_self caller_of (callers_of before) before.seen;
  is = ap (λ (m : Option MergedOf). swap_reply planned.layout m before.seen) (sym none);
  added = sym (append-nil before.seen);
}

-- a merge that ran out of memory for its pin
pub merge_denied : (rules : Rules) (number : ℕ) (all : Bool) (before : Known Entry) (after : List Entry) → Grows caller_of (callers_of before) before.seen after
    → IsAnswered rules (command_with number before.caller (Merge all)) before NoMemory after
merge_denied rules number all before after grows = record {
  found = after;
  pinned = after;
  denied = true;
  grows = grows;
  begins = self_prefix after;
  late = grown_late (callers_of before) before.seen after grows;
  same = λ _. refl;
  is = refl;
  added = sym (append-nil after);
}

-- ---- searches of an earlier position

-- such a search adds nothing, and is not a merge
pub asks_past : (task : Task) → is_past task ≡ true → (is_update_task task ≡ false) × (merge_policy task ≡ None)
asks_past (Load name body) h = absurd (let f : false ≡ true = h in cc)
asks_past (LoadFile name file) h = absurd (let f : false ≡ true = h in cc)
asks_past (DropTable name) h = absurd (let f : false ≡ true = h in cc)
asks_past (Replace name body) h = absurd (let f : false ≡ true = h in cc)
asks_past Tables h = absurd (let f : false ≡ true = h in cc)
asks_past (Search k body) h = absurd (let f : false ≡ true = h in cc)
asks_past (Like k name place) h = absurd (let f : false ≡ true = h in cc)
asks_past (Contain a b body) h = absurd (let f : false ≡ true = h in cc)
asks_past (AsOf asked k body) h = (refl, refl)
asks_past (Merge all) h = absurd (let f : false ≡ true = h in cc)

pub asked_past : (rules : Rules) (number : ℕ) (task : Task) (before : Known Entry) (reply : Reply) (after : List Entry) → is_past task ≡ true
    → Grows caller_of (callers_of before) before.seen after → Answers reply (answer_to rules task after after) → IsAnswered rules (command_with number before.caller task) before reply after
asked_past rules number task before reply after past grows answers = let (update, policy) = asks_past task past in asked rules number task before reply after update policy grows answers

-- ---- what a timeline took

-- a beginning of what was seen before an answer is a beginning of what is seen then
pub begins_still : {rules : Rules} {command : Command} {before : Known Entry} {reply : Reply} {after : List Entry} → IsAnswered rules command before reply after → (past : List Entry) → IsPrefix past before.seen → IsPrefix past after
begins_still {rules} {command} {before} {reply} {after} a past begins = prefix_on past before.seen after begins (a.grows.rest ++ entries_of rules a.pinned command reply, behind_of rules command before reply after a)

-- a timeline that was given, or a new one
pub begins_first : (past : Option (List Entry)) (fresh seen : List Entry) → fresh ≡ [] → Begins past seen → IsPrefix (unwrap_or past fresh) seen
begins_first None fresh seen none begins = none_taken fresh seen none
begins_first (Some past) fresh seen none begins = begins
