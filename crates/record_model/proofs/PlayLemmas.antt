-- What is played is right.
use Rattle.std.proofs.Common.{◌≡◌, refl, ap, sym, ◌∙◌, subst, ℕ, ◌+◌, ◌-◌, ◌≤◌, List, [], ◌∷◌, ◌++◌, append_assoc, map, Bool, true, false, length, take, cond, arith, length-append, ◌⊎◌, inl, inr}
use Rattle.std.specs.Prelude.{◌==◌, nat_lt, Option, Some, None, find, slice_get, not}
use Rattle.std.specs.List.{AllByRecursion}
use Rattle.std.proofs.lemmas.List.{take-append-le, append-nil}
use Rattle.std.proofs.Math.Seq.{take-append_seam}
use Rattle.std.proofs.lemmas.Grind.{flat_map-append}
use Rattle.lake_model.specs.Journal as journal
use Rattle.record_model.specs.Rules.{Rules}
use Rattle.lake_model.specs.declared.CsvRefused.{CsvRefused}
use Rattle.lake_model.specs.declared.CsvRefused.TheVariants as csv
use Rattle.lake_model.specs.declared.SetRefused.{SetRefused}
use Rattle.lake_model.specs.declared.SetRefused.TheVariants as sets
use Rattle.lake_model.specs.declared.QueryRefused.{QueryRefused}
use Rattle.lake_model.specs.declared.QueryRefused.TheVariants as query
use Rattle.std.proofs.lemmas.Bool.Decides.{nat_tests}
use Rattle.list_laws.proofs.ListLemmas.{all_append}
use Rattle.record_model.proofs.RightLemmas.{rises_on, all_placed_stay, accepted_stay, own_entries_more}
use Rattle.lake_model.specs.Texts.{Text}
use Rattle.lake_model.specs.Tables.{Table, Column, members}
use Rattle.lake_model.specs.Answer.{answer}
use Rattle.lake_model.specs.Journal.{What, Entry, is_live, live, live_table, counts, entry_with}
use Rattle.lake_model.specs.Limits.{Bounded, is_passed, load_bounds, drop_bounds, replace_bounds}
use Rattle.lake_model.specs.Layout.{Part, layout, unmarked_of}
use Rattle.lake_model.specs.Plan.{planned_parts, plan_of}
use Rattle.layout_laws.specs.Steps.{has_part}
use Rattle.script_model.specs.Commands.{Task, Load, LoadFile, DropTable, Replace, Tables, Search, Like, Contain, AsOf, Merge, Command}
use Rattle.record_model.specs.Replies.{Reply, NoMemory, Past, Later, Repeated, Unknown, Loaded, Dropped, Replaced, fault_reply, Fault, FileFault, OfCsv, OfSets, OfQuery, OfFile, FailedFault, MissingFault, TooLongFault, csv_reply, sets_reply, query_reply, file_reply, unless_lake_full, drop_reply, like_table, like_column, merge_planned, merge_gone}
use Rattle.record_model.specs.Answered.{TableRead, IsTable, NoTable, QueryRead, IsQuery, NoQuery, file_read, load_answer, replace_answer, search_answer, contain_answer, past_answer, policy_of, loads, replaces, swaps, table_read, query_read, answer_to, change_of, has_pin, Standing, Nowhere, Saw, Added, PlannedAndSaw, PlannedAndAdded, standing, is_accepted}
use Rattle.record_model.specs.Play.{Done, done_with, who_of, entries_of, reply_or_denied}
use Rattle.record_model.specs.Right.{Moment, moments, moments_by, MomentsRise, IsPlaced, IsUnplaced, own_entries, entries_by, at_position, accepted, IsRight}

-- ---- the possible replies to a command

pub data Shape (rules : Rules) (task : Task) (pinned now : List Entry) (reply : Reply) : Type 0 where
  Static : (stands : standing reply ≡ Nowhere) (is : reply ≡ answer_to rules task [] []) → Shape rules task pinned now reply
  Sees : (stands : standing reply ≡ Saw (length pinned)) (is : reply ≡ answer_to rules task pinned pinned) → Shape rules task pinned now reply
  Adds : (stands : standing reply ≡ Added (length now + 1)) (same : pinned ≡ now) (is : reply ≡ answer_to rules task now now) (what : What) (adds : change_of rules task now ≡ what ∷ []) → Shape rules task pinned now reply
  IsStale : (stands : standing reply ≡ PlannedAndSaw (length pinned) (length now)) (is : reply ≡ answer_to rules task pinned now) → Shape rules task pinned now reply
  Swaps : (stands : standing reply ≡ PlannedAndAdded (length pinned) (length now + 1)) (is : reply ≡ answer_to rules task pinned now) (what : What) (adds : change_of rules task pinned ≡ what ∷ []) → Shape rules task pinned now reply

csv_nowhere : (why : CsvRefused) → standing (csv_reply why) ≡ Nowhere
csv_nowhere csv.NoHeader = refl
csv_nowhere (csv.TooManyColumns got) = refl
csv_nowhere (csv.Unequal row want got) = refl
csv_nowhere (csv.NotUtf8 row field) = refl
csv_nowhere csv.NoMemory = refl

sets_nowhere : (why : SetRefused) → standing (sets_reply why) ≡ Nowhere
sets_nowhere (sets.TooManyValues place) = refl
sets_nowhere sets.NoMemory = refl

query_nowhere : (why : QueryRefused) → standing (query_reply why) ≡ Nowhere
query_nowhere (query.NotUtf8 line) = refl
query_nowhere query.TooManyValues = refl
query_nowhere query.NoMemory = refl

file_nowhere : (why : FileFault) → standing (file_reply why) ≡ Nowhere
file_nowhere FailedFault = refl
file_nowhere MissingFault = refl
file_nowhere TooLongFault = refl

pub fault_nowhere : (fault : Fault) → standing (fault_reply fault) ≡ Nowhere
fault_nowhere (OfCsv why) = csv_nowhere why
fault_nowhere (OfSets why) = sets_nowhere why
fault_nowhere (OfQuery why) = query_nowhere why
fault_nowhere (OfFile why) = file_nowhere why

load_shape : (rules : Rules) (task : Task) (read : TableRead) (now : List Entry) → ((q h : List Entry) → answer_to rules task q h ≡ load_answer rules read h)
    → ((q : List Entry) → change_of rules task q ≡ loads read) → Shape rules task now now (load_answer rules read now)
load_shape rules task (NoTable fault) now answers changes = Static (fault_nowhere fault) (sym (answers [] []))
load_shape rules task (IsTable table) now answers changes = by (is_live now table.name) (find is_passed (load_bounds rules.limits table (counts now))) (sym (answers now now))
  where
    by : (b : Bool) (o : Option Bounded) → cond b (Repeated table.name (length now)) (unless_lake_full (length now) (Loaded table.name (length table.columns) (members table) (length now + 1)) o) ≡ answer_to rules task now now
        → Shape rules task now now (cond b (Repeated table.name (length now)) (unless_lake_full (length now) (Loaded table.name (length table.columns) (members table) (length now + 1)) o))
    by true o e = Sees refl e
    by false None e = Adds refl refl e (journal.Loaded table) (changes now)
    by false (Some bound) e = Sees refl e

drop_shape : (rules : Rules) (name : Text) (now : List Entry) → Shape rules (DropTable name) now now (drop_reply rules.limits name now)
drop_shape rules name now = by (is_live now name) (find is_passed (drop_bounds rules.limits (counts now))) refl
  where
    by : (b : Bool) (o : Option Bounded) → cond b (unless_lake_full (length now) (Dropped name (length now + 1)) o) (Unknown name (length now)) ≡ answer_to rules (DropTable name) now now
        → Shape rules (DropTable name) now now (cond b (unless_lake_full (length now) (Dropped name (length now + 1)) o) (Unknown name (length now)))
    by true None e = Adds refl refl e (journal.Dropped name) refl
    by true (Some bound) e = Sees refl e
    by false o e = Sees refl e

replace_shape : (rules : Rules) (name : Text) (body : List ℕ) (now : List Entry) (read : TableRead) → table_read rules.keys name body ≡ read → Shape rules (Replace name body) now now (replace_answer rules read now)
replace_shape rules name body now (NoTable fault) e = Static (fault_nowhere fault) (ap (λ r. replace_answer rules r []) (sym e))
replace_shape rules name body now (IsTable table) e = by (is_live now table.name) (find is_passed (replace_bounds rules.limits table (counts now))) (ap (λ r. replace_answer rules r now) (sym e))
  where
    by : (b : Bool) (o : Option Bounded) → cond b (unless_lake_full (length now) (Replaced table.name (length table.columns) (members table) (length now + 1)) o) (Unknown table.name (length now)) ≡ answer_to rules (Replace name body) now now
        → Shape rules (Replace name body) now now (cond b (unless_lake_full (length now) (Replaced table.name (length table.columns) (members table) (length now + 1)) o) (Unknown table.name (length now)))
    by true None f = Adds refl refl f (journal.Replaced table) (ap replaces e)
    by true (Some bound) f = Sees refl f
    by false o f = Sees refl f

search_shape : (rules : Rules) (k : ℕ) (body : List ℕ) (pinned now : List Entry) (read : QueryRead) → query_read rules.keys body ≡ read → Shape rules (Search k body) pinned now (search_answer k read pinned)
search_shape rules k body pinned now (IsQuery keys) e = Sees refl (ap (λ r. search_answer k r pinned) (sym e))
search_shape rules k body pinned now (NoQuery fault) e = Static (fault_nowhere fault) (ap (λ r. search_answer k r []) (sym e))

contain_shape : (rules : Rules) (a b : ℕ) (body : List ℕ) (pinned now : List Entry) (read : QueryRead) → query_read rules.keys body ≡ read → Shape rules (Contain a b body) pinned now (contain_answer a b read pinned)
contain_shape rules a b body pinned now (IsQuery keys) e = Sees refl (ap (λ r. contain_answer a b r pinned) (sym e))
contain_shape rules a b body pinned now (NoQuery fault) e = Static (fault_nowhere fault) (ap (λ r. contain_answer a b r []) (sym e))

past_shape : (rules : Rules) (asked k : ℕ) (body : List ℕ) (now : List Entry) (read : QueryRead) → query_read rules.keys body ≡ read → Shape rules (AsOf asked k body) now now (past_answer asked k read now)
past_shape rules asked k body now (NoQuery fault) e = Static (fault_nowhere fault) (ap (λ r. past_answer asked k r []) (sym e))
past_shape rules asked k body now (IsQuery keys) e = by (nat_lt (length now) asked) (ap (λ r. past_answer asked k r now) (sym e))
  where
    by : (b : Bool) → cond b (Later asked (length now)) (Past (length keys) (answer (live (take asked now)) keys k None) asked (length now)) ≡ answer_to rules (AsOf asked k body) now now
        → Shape rules (AsOf asked k body) now now (cond b (Later asked (length now)) (Past (length keys) (answer (live (take asked now)) keys k None) asked (length now)))
    by true f = Sees refl f
    by false f = Sees refl f

like_shape : (rules : Rules) (k : ℕ) (name : Text) (place : ℕ) (pinned now : List Entry) → Shape rules (Like k name place) pinned now (answer_to rules (Like k name place) pinned now)
like_shape rules k name place pinned now = by (live_table pinned name) refl
  where
    of_column : (o : Option Column) → like_column k name place pinned o ≡ answer_to rules (Like k name place) pinned pinned → Shape rules (Like k name place) pinned now (like_column k name place pinned o)
    of_column None e = Sees refl e
    of_column (Some column) e = Sees refl e

    by : (o : Option Table) → like_table k name place pinned o ≡ answer_to rules (Like k name place) pinned pinned → Shape rules (Like k name place) pinned now (like_table k name place pinned o)
    by None e = Sees refl e
    by (Some table) e = of_column (slice_get table.columns (place - 1)) e

merge_shape : (rules : Rules) (all : Bool) (pinned now : List Entry) → Shape rules (Merge all) pinned now (answer_to rules (Merge all) pinned now)
merge_shape rules all pinned now = by (planned_parts (policy_of all) (layout pinned)) refl
  where
    gone : (part : Part) (parts : List Part) (o : Option Part) → planned_parts (policy_of all) (layout pinned) ≡ part ∷ parts → merge_gone pinned now (part ∷ parts) o ≡ answer_to rules (Merge all) pinned now
        → Shape rules (Merge all) pinned now (merge_gone pinned now (part ∷ parts) o)
    gone part parts None planned e = Swaps refl e (journal.Swapped (map (λ q. q.number) (part ∷ parts)) (map (λ place. place.position) (unmarked_of (part ∷ parts)))) (ap (λ ps. swaps (plan_of ps)) planned)
    gone part parts (Some other) planned e = IsStale refl e

    by : (parts : List Part) → planned_parts (policy_of all) (layout pinned) ≡ parts → Shape rules (Merge all) pinned now (merge_planned pinned now parts)
    by [] e = Sees refl (ap (merge_planned pinned pinned) (sym e))
    by (part ∷ parts) e = gone part parts (find (λ planned. not (has_part (layout now) planned)) (part ∷ parts)) e (ap (merge_planned pinned now) (sym e))

pub shape : (rules : Rules) (task : Task) (pinned now : List Entry) → (has_pin task ≡ false → pinned ≡ now) → Shape rules task pinned now (answer_to rules task pinned now)
shape rules (Load name body) pinned now same = subst (λ q. Shape rules (Load name body) q now (load_answer rules (table_read rules.keys name body) now)) (sym (same refl)) (load_shape rules (Load name body) (table_read rules.keys name body) now (λ q h. refl) (λ q. refl))
shape rules (LoadFile name file) pinned now same = subst (λ q. Shape rules (LoadFile name file) q now (load_answer rules (file_read rules.keys name file) now)) (sym (same refl)) (load_shape rules (LoadFile name file) (file_read rules.keys name file) now (λ q h. refl) (λ q. refl))
shape rules (DropTable name) pinned now same = subst (λ q. Shape rules (DropTable name) q now (drop_reply rules.limits name now)) (sym (same refl)) (drop_shape rules name now)
shape rules (Replace name body) pinned now same = subst (λ q. Shape rules (Replace name body) q now (replace_answer rules (table_read rules.keys name body) now)) (sym (same refl)) (replace_shape rules name body now (table_read rules.keys name body) refl)
shape rules Tables pinned now same = subst (λ q. Shape rules Tables q now (answer_to rules Tables now now)) (sym (same refl)) (Sees refl refl)
shape rules (Search k body) pinned now same = search_shape rules k body pinned now (query_read rules.keys body) refl
shape rules (Like k name place) pinned now same = like_shape rules k name place pinned now
shape rules (Contain a b body) pinned now same = contain_shape rules a b body pinned now (query_read rules.keys body) refl
shape rules (AsOf asked k body) pinned now same = subst (λ q. Shape rules (AsOf asked k body) q now (past_answer asked k (query_read rules.keys body) now)) (sym (same refl)) (past_shape rules asked k body now (query_read rules.keys body) refl)
shape rules (Merge all) pinned now same = merge_shape rules all pinned now

-- ---- a reply may follow its pin

pub record FitsBy (rules : Rules) (command : Command) (pinned now : List Entry) (reply : Reply) (s : Standing) (added : List Entry) : Type 0 where
  pub placed : IsPlaced rules (now ++ added) command reply s
  pub unplaced : IsUnplaced rules command reply s
  pub entries : own_entries command.lane now added ≡ entries_by rules (now ++ added) command reply s
  pub rises : MomentsRise (length pinned) (moments_by s) (length (now ++ added))

abbrev pub Fits : Rules → Command → List Entry → List Entry → Reply → Type 0
Fits rules command pinned now reply = FitsBy rules command pinned now reply (standing reply) (entries_of rules pinned command reply)

adds_none : (rules : Rules) (command : Command) (pinned : List Entry) (reply : Reply) (s : Standing) → standing reply ≡ s → is_accepted s ≡ false → entries_of rules pinned command reply ≡ []
adds_none rules command pinned reply s e no_entry =
    ap (λ t. map (entry_with (who_of command)) (cond (is_accepted t) (change_of rules command.task pinned) [])) e
    ∙ ap (λ b. map (entry_with (who_of command)) (cond b (change_of rules command.task pinned) [])) no_entry

adds_one : (rules : Rules) (command : Command) (pinned : List Entry) (reply : Reply) (s : Standing) (what : What) → standing reply ≡ s → is_accepted s ≡ true → change_of rules command.task pinned ≡ what ∷ []
    → entries_of rules pinned command reply ≡ entry_with (who_of command) what ∷ []
adds_one rules command pinned reply s what e entry change =
    ap (λ t. map (entry_with (who_of command)) (cond (is_accepted t) (change_of rules command.task pinned) [])) e
    ∙ ap (λ b. map (entry_with (who_of command)) (cond b (change_of rules command.task pinned) [])) entry
    ∙ ap (map (entry_with (who_of command))) change

fit : (rules : Rules) (command : Command) (pinned now : List Entry) (reply : Reply) (s : Standing) (added : List Entry) → standing reply ≡ s → entries_of rules pinned command reply ≡ added
    → FitsBy rules command pinned now reply s added → Fits rules command pinned now reply
fit rules command pinned now reply s added stands is fits =
    subst (λ t. FitsBy rules command pinned now reply t (entries_of rules pinned command reply)) (sym stands) (subst (λ a. FitsBy rules command pinned now reply s a) (sym is) fits)

abbrev pub IsPrefix : List Entry → List Entry → Type 0
IsPrefix pinned now = (length pinned ≤ length now) × (take (length pinned) now ≡ pinned)

prefix_at : (pinned now added : List Entry) → IsPrefix pinned now → take (length pinned) (now ++ added) ≡ pinned
prefix_at pinned now added h = take-append-le (length pinned) now added h.0 ∙ h.1

no_longer : (pinned now added : List Entry) → IsPrefix pinned now → length pinned ≤ length (now ++ added)
no_longer pinned now added h = omega (arith, h.0, length-append now added)

own_one : (command : Command) (now : List Entry) (what : What) → own_entries command.lane now (entry_with (who_of command) what ∷ []) ≡ (length now + 1, entry_with (who_of command) what) ∷ []
own_one command now what =
    let same : (command.lane == command.lane) ≡ true = grind (arith, nat_tests) in
    ap (λ b. cond b ((length now + 1, entry_with (who_of command) what) ∷ []) []) same

nowhere_fits : (rules : Rules) (command : Command) (pinned now : List Entry) (reply : Reply) → IsPrefix pinned now → standing reply ≡ Nowhere
    → (reply ≡ NoMemory) ⊎ (reply ≡ answer_to rules command.task [] []) → Fits rules command pinned now reply
nowhere_fits rules command pinned now reply prefix stands why = fit rules command pinned now reply Nowhere [] stands (adds_none rules command pinned reply Nowhere stands refl)
    (record { placed = tt; unplaced = why; entries = refl; rises = no_longer pinned now [] prefix })

pub shape_fits : (rules : Rules) (command : Command) (pinned now : List Entry) (reply : Reply) → IsPrefix pinned now → Shape rules command.task pinned now reply → Fits rules command pinned now reply
shape_fits rules command pinned now reply prefix (Static stands is) = nowhere_fits rules command pinned now reply prefix stands (inr is)
shape_fits rules command pinned now reply prefix (Sees stands is) =
    let at : pinned ≡ take (length pinned) (now ++ []) = sym (prefix_at pinned now [] prefix) in
    fit rules command pinned now reply (Saw (length pinned)) [] stands (adds_none rules command pinned reply (Saw (length pinned)) stands refl)
    (record { placed = is ∙ ap (λ j. answer_to rules command.task j j) at; unplaced = tt; entries = refl; rises = (omega arith, no_longer pinned now [] prefix) })
shape_fits rules command pinned now reply prefix (IsStale stands is) =
    let at : pinned ≡ take (length pinned) (now ++ []) = sym (prefix_at pinned now [] prefix) in
    let end : now ≡ take (length now) (now ++ []) = sym (take-append_seam now []) in
    fit rules command pinned now reply (PlannedAndSaw (length pinned) (length now)) [] stands (adds_none rules command pinned reply (PlannedAndSaw (length pinned) (length now)) stands refl)
    (record { placed = is ∙ ap (λ j. answer_to rules command.task j now) at ∙ ap (λ j. answer_to rules command.task (take (length pinned) (now ++ [])) j) end; unplaced = tt; entries = refl; rises = (omega arith, (prefix.0, omega (arith, length-append now []))) })
shape_fits rules command pinned now reply prefix (Adds stands same is what change) =
    let entry : List Entry = entry_with (who_of command) what ∷ [] in
    let back : length now + 1 - 1 ≡ length now = omega arith in
    let at : now ≡ take (length now + 1 - 1) (now ++ entry) = sym (ap (λ (n : ℕ). take n (now ++ entry)) back ∙ take-append_seam now entry) in
    let made : entries_of rules now command reply ≡ entry = adds_one rules command now reply (Added (length now + 1)) what stands refl change in
    let longer : length (now ++ entry) ≡ length now + 1 = omega (arith, length-append now entry) in
    fit rules command pinned now reply (Added (length now + 1)) entry stands (ap (λ q. entries_of rules q command reply) same ∙ made)
    (record {
      placed = is ∙ ap (λ j. answer_to rules command.task j j) at;
      unplaced = tt;
      entries = own_one command now what ∙ ap (at_position (length now + 1)) (sym made ∙ ap (λ j. entries_of rules j command reply) at);
      rises = (omega (arith, prefix.0), omega (arith, longer));
    })
shape_fits rules command pinned now reply prefix (Swaps stands is what change) =
    let entry : List Entry = entry_with (who_of command) what ∷ [] in
    let back : length now + 1 - 1 ≡ length now = omega arith in
    let at : pinned ≡ take (length pinned) (now ++ entry) = sym (prefix_at pinned now entry prefix) in
    let end : now ≡ take (length now + 1 - 1) (now ++ entry) = sym (ap (λ (n : ℕ). take n (now ++ entry)) back ∙ take-append_seam now entry) in
    let made : entries_of rules pinned command reply ≡ entry = adds_one rules command pinned reply (PlannedAndAdded (length pinned) (length now + 1)) what stands refl change in
    let longer : length (now ++ entry) ≡ length now + 1 = omega (arith, length-append now entry) in
    fit rules command pinned now reply (PlannedAndAdded (length pinned) (length now + 1)) entry stands made
    (record {
      placed = is ∙ ap (λ j. answer_to rules command.task j now) at ∙ ap (λ j. answer_to rules command.task (take (length pinned) (now ++ entry)) j) end;
      unplaced = tt;
      entries = own_one command now what ∙ ap (at_position (length now + 1)) (sym made ∙ ap (λ j. entries_of rules j command reply) at);
      rises = (omega arith, (omega (arith, prefix.0), omega (arith, longer)));
    })

pub reply_fits : (rules : Rules) (denied : Bool) (command : Command) (pinned now : List Entry) → IsPrefix pinned now → (has_pin command.task ≡ false → pinned ≡ now)
    → Fits rules command pinned now (reply_or_denied denied (answer_to rules command.task pinned now))
reply_fits rules true command pinned now prefix same = nowhere_fits rules command pinned now NoMemory prefix refl (inl refl)
reply_fits rules false command pinned now prefix same = shape_fits rules command pinned now (answer_to rules command.task pinned now) prefix (shape rules command.task pinned now same)

-- ---- one more answer of a lane

pub right_step : (rules : Rules) (lane : ℕ) (before behind : List Entry) (done : List Done) (command : Command) (pinned : List Entry) (reply : Reply) → command.lane ≡ lane
    → IsRight rules lane before behind done → MomentsRise (length before) (moments done) (length pinned) → Fits rules command pinned (before ++ behind) reply
    → IsRight rules lane before (behind ++ entries_of rules pinned command reply) (done ++ done_with command reply ∷ [])
right_step rules lane before behind done command pinned reply mine right rises fits =
    let now : List Entry = before ++ behind in
    let added : List Entry = entries_of rules pinned command reply in
    let last : List Done = done_with command reply ∷ [] in
    let same : now ++ added ≡ before ++ (behind ++ added) = append_assoc before behind added in
    let stay : accepted rules (now ++ added) done ≡ accepted rules now done =
    accepted_stay rules now added done (length before) (length now) (omega arith) right.positions in
    let own : own_entries lane now added ≡ accepted rules (now ++ added) last =
    subst (λ (l : ℕ). own_entries l now added ≡ accepted rules (now ++ added) last) mine (fits.entries ∙ sym (append-nil (entries_by rules (now ++ added) command reply (standing reply)))) in
    record {
      entries = own_entries_more lane before behind added ∙ ap (λ es. es ++ own_entries lane now added) (right.entries ∙ sym stay)
          ∙ ap (λ es. accepted rules (now ++ added) done ++ es) own
          ∙ sym (flat_map-append (λ (d : Done). entries_by rules (now ++ added) d.command d.reply (standing d.reply)) done last)
          ∙ ap (λ j. accepted rules j (done ++ last)) same;
      placed = subst (λ j. AllByRecursion (λ d. IsPlaced rules j d.command d.reply (standing d.reply)) (done ++ last)) same
          (all_append (λ (d : Done). IsPlaced rules (now ++ added) d.command d.reply (standing d.reply)) done last
          (all_placed_stay rules now added done (length before) (length now) (omega arith) right.positions right.placed) (fits.placed, tt));
      positions = subst (λ (ms : List Moment). MomentsRise (length before) ms (length (before ++ (behind ++ added)))) (sym (flat_map-append (λ (d : Done). moments_by (standing d.reply)) done last))
          (rises_on (length before) (moments done) (length pinned) (moments last) (length (before ++ (behind ++ added))) rises
          (subst (λ (j : List Entry). MomentsRise (length pinned) (moments last) (length j)) same
          (subst (λ (ms : List Moment). MomentsRise (length pinned) ms (length (now ++ added))) (sym (append-nil (moments_by (standing reply)))) fits.rises)));
      unplaced = all_append (λ (d : Done). IsUnplaced rules d.command d.reply (standing d.reply)) done last right.unplaced (fits.unplaced, tt);
    }
