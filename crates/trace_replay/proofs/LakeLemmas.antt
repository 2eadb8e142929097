-- The lake in which answers are made again: what is held in it, the replies, and what it has after an answer.
use Rattle.std.proofs.Common.{◌≡◌, refl, ap, sym, ◌∙◌, subst, ℕ, zero, suc, ◌+◌, ◌<◌, ◌≤◌, inl, inr, List, [], ◌∷◌, ◌++◌, map, length, get_or, take, Bool, false, cond, Option, None, arith}
use Rattle.std.specs.Prelude.{is_some, ◌⊎◌}
use Rattle.std.specs.List.{Contains, swap_remove}
use Rattle.std.proofs.lemmas.List.{append-nil}
use Rattle.std.proofs.lemmas.List.Elements.{Contains-append_left, Contains-push, Contains-push_cases}
use Rattle.std.proofs.lemmas.List.Sorted.{Contains-permutation, IsPermutation-swap_remove}
use Rattle.lake_model.specs.declared.Counts.{Counts}
use Rattle.lake_model.specs.declared.Keys.{Keys}
use Rattle.lake_model.specs.declared.Who.{Who}
use Rattle.lake_model.specs.Journal.{Entry, What, entry_with}
use Rattle.lake_model.specs.Texts.{Text}
use Rattle.script_model.specs.Commands.{AsOf, Command, command_with, Contain, DropTable, Like, Load, LoadFile, Merge, Replace, Search, Tables, Task}
use Rattle.record_model.specs.Rules.{Rules, rules_with}
use Rattle.record_model.specs.Replies.{NoMemory, Reply}
use Rattle.record_model.specs.Record.{RunRecord}
use Rattle.record_model.specs.Answered.{Added, Nowhere, PlannedAndAdded, PlannedAndSaw, Saw, Standing, adds, answer_to, change_of, has_pin, is_accepted, standing}
use Rattle.record_model.specs.Play.{entries_of, reply_or_denied, who_of}
use Rattle.run_record.specs.Rooms.{RecordOf}
use Rattle.catalogue.specs.Kept.{CatalogueOf}
use Rattle.batch_work.specs.Works.{merge_policy}
use Rattle.command_replies.specs.declared.answering.Held.{Held}
use Rattle.command_replies.specs.Held.{IsHeldAt, position_of}
use Rattle.command_replies.specs.Loads.{Adds}
use Rattle.command_replies.proofs.HeldLemmas.{held_at_grows}
use Rattle.trace_laws.specs.Hints.{Hint, Stands, Wanting, hint_of, reply_by}
use Rattle.trace_laws.specs.Rebuilt.{pinned_of}
use Rattle.trace_numbers.specs.declared.order.Plan.{Plan}
use Rattle.trace_numbers.specs.Positions.{IsOwner, own_of}
use Rattle.trace_numbers.specs.Turns.{made_at}
use Rattle.trace_ends.specs.Ends.{IsAnswered, journal_of}
use Rattle.trace_ends.specs.Fronts.{IsPut, NextIsPut, ReplyIsMade, reply_at}
use Rattle.trace_ends.specs.Within.{ArePositions, IsWithin}
use Rattle.trace_replay.specs.Lakes.{AnswersNow, AreHeldFor, IsAfter, IsAt, IsHeldFor, IsHeldIn, IsLeft, IsReady, IsTold, Keeps, LakeOf, TraceOf, answer_now, command_at, front_of, hint_at, lake_with}
use Rattle.trace_replay.specs.Stretches.{IsPlanOf}

-- ---- what is held

pub held_grow : (trace : TraceOf) (journal more : List Entry) (all : List (ℕ × Held)) → AreHeldFor trace journal all → AreHeldFor trace (journal ++ more) all
held_grow trace journal more all held one there =
    let h = held one there in
    record { early = h.early; position = h.position; holds = held_at_grows journal more (merge_policy (command_at trace one.0).task) one.1 h.holds }

-- what is taken out for an answer, if the list is that of the code
pub taken_from : (trace : TraceOf) (lake : LakeOf) (all : List (ℕ × Held)) (index : ℕ) (held : Held) → AreHeldFor trace lake.journal lake.held → all ≡ lake.held → Contains all (index, held)
    → IsHeldFor trace lake.journal index held
taken_from trace lake all index held are same taken = are (index, held) (subst (λ (xs : List (ℕ × Held)). Contains xs (index, held)) same taken)

-- what is left after one was taken out
pub others_left : (all after : List (ℕ × Held)) (place index : ℕ) (one : ℕ × Held) → place < length all → one ≡ get_or all place one → after ≡ swap_remove all place one → one.0 ≡ index → Keeps (λ i. i ≡ index) all after
others_left all after place index one low is removed named i differs (held, there) =
    by (Contains-permutation all (one ∷ swap_remove all place one) (i, held) (IsPermutation-swap_remove all place one low is) there)
  where
    by : Contains (one ∷ swap_remove all place one) (i, held) → IsHeldIn after i
    by (zero, inside, first) = absurd (differs (sym (ap (λ (x : ℕ × Held). x.0) first) ∙ named))
    by (suc k, inside, later) = (held, subst (λ (xs : List (ℕ × Held)). Contains xs (i, held)) (sym removed) (k, omega (arith, inside), later))

-- one is held for an answer that was planned before, if the list is that of the code
pub held_early : (trace : TraceOf) (lake : LakeOf) (all : List (ℕ × Held)) (index : ℕ) (hint : Hint) → IsReady trace index lake → all ≡ lake.held → hint ≡ hint_at trace index → pinned_of hint < made_at hint
    → IsHeldIn all index
held_early trace lake all index hint ready same is early =
    subst (λ (xs : List (ℕ × Held)). IsHeldIn xs index) (sym same) (ready (subst (λ (h : Hint). pinned_of h < made_at h) is early))

-- what is held when work begins
pub begun_for : (trace : TraceOf) (index : ℕ) (command : Command) (journal now : List Entry) (held : Held) → command_at trace index ≡ command → journal ≡ now → IsHeldAt journal (merge_policy command.task) held
    → IsHeldAt now (merge_policy (command_at trace index).task) held
begun_for trace index command journal now held is same holds =
    subst (λ (c : Command). IsHeldAt now (merge_policy c.task) held) (sym is) (subst (λ (j : List Entry). IsHeldAt j (merge_policy command.task) held) same holds)

-- what is held for an answer is held for its work
pub holds_here : (trace : TraceOf) (index : ℕ) (command : Command) (journal now : List Entry) (held : Held) → command_at trace index ≡ command → journal ≡ now → IsHeldAt now (merge_policy (command_at trace index).task) held
    → IsHeldAt journal (merge_policy command.task) held
holds_here trace index command journal now held is same holds =
    subst (λ (j : List Entry). IsHeldAt j (merge_policy command.task) held) (sym same) (subst (λ (c : Command). IsHeldAt now (merge_policy c.task) held) is holds)

-- its position, if nothing was planned before
pub plain_position : (trace : TraceOf) (size index : ℕ) (lake : LakeOf) (hint : Hint) {position : ℕ} → IsWithin size (hint_at trace index) → IsAt trace (made_at (hint_at trace index)) lake → position ≡ length lake.journal
    → hint ≡ hint_at trace index → made_at hint ≤ pinned_of hint → position ≡ pinned_of (hint_at trace index)
plain_position trace size index lake hint inside at here is late =
    let behind : made_at (hint_at trace index) ≤ pinned_of (hint_at trace index) = subst (λ (h : Hint). made_at h ≤ pinned_of h) is late in
    let same : made_at (hint_at trace index) ≡ pinned_of (hint_at trace index) = omega (arith, behind, inside.pinned) in
    here ∙ at.long ∙ same

pub push_held : (trace : TraceOf) (journal : List Entry) (all after : List (ℕ × Held)) (index : ℕ) (held : Held) → AreHeldFor trace journal all → IsHeldFor trace journal index held
    → after ≡ all ++ (index, held) ∷ [] → AreHeldFor trace journal after
push_held trace journal all after index held are is pushed one there = by (Contains-push_cases all (index, held) one (subst (λ (xs : List (ℕ × Held)). Contains xs one) pushed there))
  where
    by : Contains all one ⊎ ((index, held) ≡ one) → IsHeldFor trace journal one.0 one.1
    by (inl old) = are one old
    by (inr same) = subst (λ (x : ℕ × Held). IsHeldFor trace journal x.0 x.1) same is

-- what is held with one more
pub pushed_in : (all after : List (ℕ × Held)) (index i : ℕ) (held : Held) → after ≡ all ++ (index, held) ∷ [] → IsHeldIn all i → IsHeldIn after i
pushed_in all after index i held pushed (one, there) = (one, subst (λ (xs : List (ℕ × Held)). Contains xs (i, one)) (sym pushed) (Contains-append_left all ((index, held) ∷ []) (i, one) there))

pub pushed_is : (all after : List (ℕ × Held)) (index : ℕ) (held : Held) → after ≡ all ++ (index, held) ∷ [] → IsHeldIn after index
pushed_is all after index held pushed = (held, subst (λ (xs : List (ℕ × Held)). Contains xs (index, held)) (sym pushed) (Contains-push all (index, held)))

-- the lake with one more merge that was planned
pub planned_more : (trace : TraceOf) (plan : Plan) (size : ℕ) (hint : Hint) (before : LakeOf) (limits : Counts) (journal : List Entry) (all after : List (ℕ × Held)) (room : ℕ) (held : Held) → IsAt trace plan.at before
    → IsPlanOf trace.hints plan → IsWithin size (hint_at trace plan.index) → hint ≡ hint_at trace plan.index → pinned_of hint < made_at hint
    → lake_with limits journal all room ≡ before → IsHeldAt before.journal (merge_policy (command_at trace plan.index).task) held → position_of held ≡ length before.journal → after ≡ all ++ (plan.index, held) ∷ []
    → IsAt trace plan.at (lake_with limits journal after room)
planned_more trace plan size hint before limits journal all after room held at planned inside told early is holds position pushed =
    let same : journal ≡ before.journal = ap (λ (l : LakeOf). l.journal) is in
    let kept = ap (λ (l : LakeOf). l.held) is in
    let one : IsHeldFor trace before.journal plan.index held = record {
      early = subst (λ (h : Hint). pinned_of h < made_at h) told early;
      position = position ∙ at.long ∙ (inside.planned plan.at planned.at).0;
      holds = holds;
    } in
    record {
      limits = ap (λ (l : LakeOf). l.limits) is ∙ at.limits;
      is = same ∙ at.is;
      long = ap (λ (j : List Entry). length j) same ∙ at.long;
      held = subst (λ (j : List Entry). AreHeldFor trace j after) (sym same)
          (push_held trace before.journal before.held after plan.index held at.held one (pushed ∙ ap (λ (xs : List (ℕ × Held)). xs ++ (plan.index, held) ∷ []) kept));
    }

-- an answer that is made where it is planned needs nothing to be held
pub late_ready : (trace : TraceOf) (index : ℕ) (lake : LakeOf) (hint : Hint) → hint ≡ hint_at trace index → made_at hint ≤ pinned_of hint → IsReady trace index lake
late_ready trace index lake hint is late early =
    let behind : made_at (hint_at trace index) ≤ pinned_of (hint_at trace index) = subst (λ (h : Hint). made_at h ≤ pinned_of h) is late in
    absurd (omega (arith, early, behind))

-- ---- without a pin, the reply does not depend on one

unpinned_answer : (rules : Rules) (task : Task) (pinned other now : List Entry) → has_pin task ≡ false → answer_to rules task pinned now ≡ answer_to rules task other now
unpinned_answer rules (Load name body) pinned other now kind = refl
unpinned_answer rules (LoadFile name file) pinned other now kind = refl
unpinned_answer rules (DropTable name) pinned other now kind = refl
unpinned_answer rules (Replace name body) pinned other now kind = refl
unpinned_answer rules Tables pinned other now kind = refl
unpinned_answer rules (Search k body) pinned other now kind = cc
unpinned_answer rules (Like k name place) pinned other now kind = cc
unpinned_answer rules (Contain a b body) pinned other now kind = cc
unpinned_answer rules (AsOf asked k body) pinned other now kind = refl
unpinned_answer rules (Merge all) pinned other now kind = cc

unpinned_change : (rules : Rules) (task : Task) (pinned other : List Entry) → has_pin task ≡ false → change_of rules task pinned ≡ change_of rules task other
unpinned_change rules (Load name body) pinned other kind = refl
unpinned_change rules (LoadFile name file) pinned other kind = refl
unpinned_change rules (DropTable name) pinned other kind = refl
unpinned_change rules (Replace name body) pinned other kind = refl
unpinned_change rules Tables pinned other kind = refl
unpinned_change rules (Search k body) pinned other kind = cc
unpinned_change rules (Like k name place) pinned other kind = cc
unpinned_change rules (Contain a b body) pinned other kind = cc
unpinned_change rules (AsOf asked k body) pinned other kind = refl
unpinned_change rules (Merge all) pinned other kind = cc

unpinned_entries : (rules : Rules) (command : Command) (pinned other : List Entry) (reply : Reply) → has_pin command.task ≡ false → entries_of rules pinned command reply ≡ entries_of rules other command reply
unpinned_entries rules command pinned other reply kind =
    ap (λ (whats : List What). map (entry_with (who_of command)) (cond (is_accepted (standing reply)) whats [])) (unpinned_change rules command.task pinned other kind)

-- ---- one reply

-- the rules by which the code answers are those of the trace
rules_are : (trace : TraceOf) (keys : Keys) (limits : Counts) → keys ≡ trace.rules.keys → limits ≡ trace.rules.limits → rules_with keys limits ≡ trace.rules
rules_are trace keys limits same_keys same_limits = λ i. rules_with (same_keys i) (same_limits i)

-- what the code states of a reply is that it is the answer now,
pub answers_now : (trace : TraceOf) (i : ℕ) (keys : Keys) (limits : Counts) (command : Command) (pinned now : List Entry) (reply : Reply)
    → keys ≡ trace.rules.keys → limits ≡ trace.rules.limits → command_at trace i ≡ command → pinned ≡ take (pinned_of (hint_at trace i)) now
    → (denied : Bool) × (reply ≡ reply_or_denied denied (answer_to (rules_with keys limits) command.task pinned now)) → AnswersNow trace i now reply
answers_now trace i keys limits command pinned now reply same_keys same_limits is front (denied, said) = (
  denied,
  said
      ∙ ap (λ (r : Rules). reply_or_denied denied (answer_to r command.task pinned now)) (rules_are trace keys limits same_keys same_limits)
      ∙ ap (λ (p : List Entry). reply_or_denied denied (answer_to trace.rules command.task p now)) front
      ∙ ap (λ (c : Command). reply_or_denied denied (answer_to trace.rules c.task (take (pinned_of (hint_at trace i)) now) now)) (sym is),
)

-- also for work without a pin
pub answers_unpinned : (trace : TraceOf) (i : ℕ) (keys : Keys) (limits : Counts) (command : Command) (now : List Entry) (reply : Reply)
    → keys ≡ trace.rules.keys → limits ≡ trace.rules.limits → command_at trace i ≡ command → has_pin command.task ≡ false
    → (denied : Bool) × (reply ≡ reply_or_denied denied (answer_to (rules_with keys limits) command.task now now)) → AnswersNow trace i now reply
answers_unpinned trace i keys limits command now reply same_keys same_limits is kind (denied, said) =
    let pinned : List Entry = take (pinned_of (hint_at trace i)) now in
    let other = ap (reply_or_denied denied) (unpinned_answer (rules_with keys limits) command.task now pinned now kind) in
    answers_now trace i keys limits command pinned now reply same_keys same_limits is refl (denied, said ∙ other)

-- what is then in the journal
pub journal_after : (trace : TraceOf) (i : ℕ) (keys : Keys) (limits : Counts) (command : Command) (pinned : List Entry) (reply : Reply) (before after : CatalogueOf) (record_before record_after : RecordOf)
    → keys ≡ trace.rules.keys → limits ≡ trace.rules.limits → command_at trace i ≡ command → pinned ≡ take (pinned_of (hint_at trace i)) before.journal → record_before.made.journal ≡ before.journal
    → Adds (who_of command) (adds (rules_with keys limits) command.task pinned reply) before after record_before record_after
    → after.journal ≡ before.journal ++ entries_of trace.rules (take (pinned_of (hint_at trace i)) before.journal) (command_at trace i) reply
journal_after trace i keys limits command pinned reply before after record_before record_after same_keys same_limits is front same added =
    sym added.journal
    ∙ ap (λ (m : RunRecord). m.journal) added.made
    ∙ ap (λ (j : List Entry). j ++ entries_of (rules_with keys limits) pinned command reply) same
    ∙ ap (λ (r : Rules). before.journal ++ entries_of r pinned command reply) (rules_are trace keys limits same_keys same_limits)
    ∙ ap (λ (p : List Entry). before.journal ++ entries_of trace.rules p command reply) front
    ∙ ap (λ (c : Command). before.journal ++ entries_of trace.rules (take (pinned_of (hint_at trace i)) before.journal) c reply) (sym is)

pub journal_unpinned : (trace : TraceOf) (i : ℕ) (keys : Keys) (limits : Counts) (command : Command) (reply : Reply) (before after : CatalogueOf) (record_before record_after : RecordOf)
    → keys ≡ trace.rules.keys → limits ≡ trace.rules.limits → command_at trace i ≡ command → has_pin command.task ≡ false → record_before.made.journal ≡ before.journal
    → Adds (who_of command) (adds (rules_with keys limits) command.task record_before.made.journal reply) before after record_before record_after
    → after.journal ≡ before.journal ++ entries_of trace.rules (take (pinned_of (hint_at trace i)) before.journal) (command_at trace i) reply
journal_unpinned trace i keys limits command reply before after record_before record_after same_keys same_limits is kind same added =
    let pinned : List Entry = take (pinned_of (hint_at trace i)) before.journal in
    let rules : Rules = rules_with keys limits in
    let whats : adds rules command.task record_before.made.journal reply ≡ adds rules command.task pinned reply =
    ap (λ (ws : List What). cond (is_accepted (standing reply)) ws []) (unpinned_change rules command.task record_before.made.journal pinned kind) in
    journal_after trace i keys limits command pinned reply before after record_before record_after same_keys same_limits is refl same
    (subst (λ (ws : List What). Adds (who_of command) ws before after record_before record_after) whats added)

-- the lake after a reply for which some of the held merges are left
pub lake_after : (trace : TraceOf) (i : ℕ) (reply : Reply) (before : LakeOf) (limits : Counts) (journal : List Entry) (left : List (ℕ × Held)) (room : ℕ)
    → AreHeldFor trace before.journal before.held → ((held : ℕ × Held) → Contains left held → Contains before.held held) → limits ≡ before.limits
    → journal ≡ before.journal ++ entries_of trace.rules (take (pinned_of (hint_at trace i)) before.journal) (command_at trace i) reply → Keeps (λ j. j ≡ i) before.held left
    → IsAfter trace i reply before (lake_with limits journal left room)
lake_after trace i reply before limits journal left room held some same adds others = record {
  limits = same;
  adds = adds;
  held = subst (λ (j : List Entry). AreHeldFor trace j left) (sym adds) (held_grow trace before.journal (entries_of trace.rules (take (pinned_of (hint_at trace i)) before.journal) (command_at trace i) reply) left (λ one there. held one (some one there)));
  others = others;
}

-- what is held after some was taken out
pub left_of : (i : ℕ) (before : LakeOf) (limits : Counts) (journal : List Entry) (held left : List (ℕ × Held)) (room : ℕ) → lake_with limits journal held room ≡ before
    → ((one : ℕ × Held) → Contains left one → Contains held one) → Keeps (λ j. j ≡ i) held left → IsLeft i before (lake_with limits journal left room)
left_of i before limits journal held left room is some others = record {
  is = ap (λ (l : LakeOf). lake_with l.limits l.journal left l.room) is;
  some = λ one there. subst (λ (l : LakeOf). Contains l.held one) is (some one there);
  others = subst (λ (l : LakeOf). Keeps (λ j. j ≡ i) l.held left) is others;
}

-- all is left
pub all_left : (i : ℕ) (lake : LakeOf) → IsLeft i lake lake
all_left i lake = record { is = refl; some = λ one there. there; others = λ j differs there. there }

-- a reply to work with a pin, for which some of what was held was taken out
pub pinned_replied : (trace : TraceOf) (i at room : ℕ) (before mid : LakeOf) (keys : Keys) (command : Command) (held : Held) (reply : Reply) (catalogue catalogue_after : CatalogueOf) (made made_after : RecordOf) (left : List (ℕ × Held))
    → IsAt trace at before → IsLeft i before mid → lake_with catalogue.limits catalogue.journal left room ≡ mid → keys ≡ trace.rules.keys → command_at trace i ≡ command → position_of held ≡ pinned_of (hint_at trace i)
    → made.made.journal ≡ catalogue.journal
    → (denied : Bool) × (reply ≡ reply_or_denied denied (answer_to (rules_with keys catalogue.limits) command.task (take (position_of held) catalogue.journal) catalogue.journal))
    → Adds (who_of command) (adds (rules_with keys catalogue.limits) command.task (take (position_of held) made.made.journal) reply) catalogue catalogue_after made made_after
    → AnswersNow trace i before.journal reply × IsAfter trace i reply before (lake_with catalogue_after.limits catalogue_after.journal left made_after.entries_room)
pinned_replied trace i at room before mid keys command held reply catalogue catalogue_after made made_after left here leaves is same_keys same_command position same said added =
    let all = is ∙ leaves.is in
    let journal : catalogue.journal ≡ before.journal = ap (λ (l : LakeOf). l.journal) all in
    let limits : catalogue.limits ≡ before.limits = ap (λ (l : LakeOf). l.limits) all in
    let kept : left ≡ mid.held = ap (λ (l : LakeOf). l.held) is in
    let same_limits : catalogue.limits ≡ trace.rules.limits = limits ∙ here.limits in
    let answered = answers_now trace i keys catalogue.limits command (take (position_of held) catalogue.journal) catalogue.journal reply same_keys same_limits same_command (ap (λ (n : ℕ). take n catalogue.journal) position) said in
    let front : take (position_of held) made.made.journal ≡ take (pinned_of (hint_at trace i)) catalogue.journal = ap (take (position_of held)) same ∙ ap (λ (n : ℕ). take n catalogue.journal) position in
    let grown = journal_after trace i keys catalogue.limits command (take (position_of held) made.made.journal) reply catalogue catalogue_after made made_after same_keys same_limits same_command front same added in
    let grown_here = grown ∙ ap (λ (j : List Entry). j ++ entries_of trace.rules (take (pinned_of (hint_at trace i)) j) (command_at trace i) reply) journal in (
      subst (λ (j : List Entry). AnswersNow trace i j reply) journal answered,
      lake_after trace i reply before catalogue_after.limits catalogue_after.journal left made_after.entries_room here.held
          (λ one there. leaves.some one (subst (λ (xs : List (ℕ × Held)). Contains xs one) kept there)) (added.limits ∙ limits) grown_here
          (λ j differs there. subst (λ (xs : List (ℕ × Held)). IsHeldIn xs j) (sym kept) (leaves.others j differs there)),
    )

-- a reply to work without a pin
pub unpinned_replied : (trace : TraceOf) (i at room : ℕ) (before : LakeOf) (keys : Keys) (command : Command) (reply : Reply) (catalogue catalogue_after : CatalogueOf) (made made_after : RecordOf) (left : List (ℕ × Held))
    → IsAt trace at before → lake_with catalogue.limits catalogue.journal left room ≡ before → keys ≡ trace.rules.keys → command_at trace i ≡ command → has_pin command.task ≡ false → made.made.journal ≡ catalogue.journal
    → (denied : Bool) × (reply ≡ reply_or_denied denied (answer_to (rules_with keys catalogue.limits) command.task catalogue.journal catalogue.journal))
    → Adds (who_of command) (adds (rules_with keys catalogue.limits) command.task made.made.journal reply) catalogue catalogue_after made made_after
    → AnswersNow trace i before.journal reply × IsAfter trace i reply before (lake_with catalogue_after.limits catalogue_after.journal left made_after.entries_room)
unpinned_replied trace i at room before keys command reply catalogue catalogue_after made made_after left here is same_keys same_command kind same said added =
    let journal : catalogue.journal ≡ before.journal = ap (λ (l : LakeOf). l.journal) is in
    let limits : catalogue.limits ≡ before.limits = ap (λ (l : LakeOf). l.limits) is in
    let kept : left ≡ before.held = ap (λ (l : LakeOf). l.held) is in
    let same_limits : catalogue.limits ≡ trace.rules.limits = limits ∙ here.limits in
    let answered = answers_unpinned trace i keys catalogue.limits command catalogue.journal reply same_keys same_limits same_command kind said in
    let grown = journal_unpinned trace i keys catalogue.limits command reply catalogue catalogue_after made made_after same_keys same_limits same_command kind same added in
    let grown_here = grown ∙ ap (λ (j : List Entry). j ++ entries_of trace.rules (take (pinned_of (hint_at trace i)) j) (command_at trace i) reply) journal in (
      subst (λ (j : List Entry). AnswersNow trace i j reply) journal answered,
      lake_after trace i reply before catalogue_after.limits catalogue_after.journal left made_after.entries_room here.held
          (λ one there. subst (λ (xs : List (ℕ × Held)). Contains xs one) kept there) (added.limits ∙ limits) grown_here
          (λ j differs there. subst (λ (xs : List (ℕ × Held)). IsHeldIn xs j) (sym kept) there),
    )

-- ---- the reply that the hint requires

-- if memory ran out
pub wanting_reply : (trace : TraceOf) (i : ℕ) (now : List Entry) → hint_at trace i ≡ Wanting → NoMemory ≡ reply_at trace.rules now (command_at trace i) (hint_at trace i)
wanting_reply trace i now wants = sym (ap (reply_at trace.rules now (command_at trace i)) wants)

pub wanting_after : (trace : TraceOf) (i : ℕ) (lake : LakeOf) → AreHeldFor trace lake.journal lake.held → IsAfter trace i NoMemory lake lake
wanting_after trace i lake held = record { limits = refl; adds = sym (append-nil lake.journal); held = held; others = λ j differs there. there }

stands_now : (rules : Rules) (now : List Entry) (command : Command) (hint : Hint) → (hint ≡ Wanting → ⊥) → answer_to rules command.task (take (pinned_of hint) now) now ≡ reply_at rules now command hint
stands_now rules now command Wanting some = absurd (some refl)
stands_now rules now command (Stands s) some = refl

-- and if it did not
pub again_reply : (trace : TraceOf) (i : ℕ) (now : List Entry) → (hint_at trace i ≡ Wanting → ⊥) → answer_now trace i now ≡ reply_at trace.rules now (command_at trace i) (hint_at trace i)
again_reply trace i now some = stands_now trace.rules now (command_at trace i) (hint_at trace i) some

-- ---- the answer

same_answer : (who other_who : Who) (hint other_hint : Hint) (reply other_reply : Reply) (text other_text : Text) → who ≡ other_who → hint ≡ other_hint → reply ≡ other_reply → text ≡ other_text
    → IsAnswered who hint reply text → IsAnswered other_who other_hint other_reply other_text
same_answer who other_who hint other_hint reply other_reply text other_text a b c d is =
    subst (λ (w : Who). IsAnswered w other_hint other_reply other_text) a
    (subst (λ (h : Hint). IsAnswered who h other_reply other_text) b (subst (λ (r : Reply). IsAnswered who hint r other_text) c (subst (λ (t : Text). IsAnswered who hint reply t) d is)))

-- the reply that is made again over the whole journal is the one that is made now
made_again : ReplyIsMade → (trace : TraceOf) (i : ℕ) (lake : LakeOf) → ArePositions trace.commands trace.hints → IsAt trace (made_at (hint_at trace i)) lake
    → reply_by trace.rules (journal_of trace.rules trace.commands trace.hints) (command_at trace i) (hint_at trace i) ≡ reply_at trace.rules lake.journal (command_at trace i) (hint_at trace i)
made_again law trace i lake are at = law trace.rules trace.commands trace.hints lake.journal (made_at (hint_at trace i)) i (command_with 0 0 (Merge false)) are at.is at.long refl

-- the result of the code for an answer, and what the trace has for it
pub record IsOf (trace : TraceOf) (i : ℕ) (lake : LakeOf) (who : Who) (hint : Hint) (reply : Reply) (text : Text) : Type 0 where
  pub who_is : who ≡ who_of (command_at trace i)
  pub hint_is : hint ≡ hint_at trace i
  pub reply_is : reply ≡ reply_at trace.rules lake.journal (command_at trace i) (hint_at trace i)
  pub text_is : text ≡ get_or trace.texts i []

pub told_sound : ReplyIsMade → (trace : TraceOf) (i : ℕ) (lake : LakeOf) (who : Who) (hint : Hint) (reply : Reply) (text : Text) → ArePositions trace.commands trace.hints
    → IsAt trace (made_at (hint_at trace i)) lake → IsOf trace i lake who hint reply text → IsAnswered who hint reply text → IsTold trace i
told_sound law trace i lake who hint reply text are at of is =
    same_answer who (who_of (command_at trace i)) hint (hint_at trace i) reply (reply_by trace.rules (journal_of trace.rules trace.commands trace.hints) (command_at trace i) (hint_at trace i)) text (get_or trace.texts i [])
    of.who_is of.hint_is (of.reply_is ∙ sym (made_again law trace i lake are at)) of.text_is is

pub told_complete : ReplyIsMade → (trace : TraceOf) (i : ℕ) (lake : LakeOf) (who : Who) (hint : Hint) (reply : Reply) (text : Text) → ArePositions trace.commands trace.hints
    → IsAt trace (made_at (hint_at trace i)) lake → IsOf trace i lake who hint reply text → IsTold trace i → IsAnswered who hint reply text
told_complete law trace i lake who hint reply text are at of is =
    same_answer (who_of (command_at trace i)) who (hint_at trace i) hint (reply_by trace.rules (journal_of trace.rules trace.commands trace.hints) (command_at trace i) (hint_at trace i)) reply (get_or trace.texts i []) text
    (sym of.who_is) (sym of.hint_is) (made_again law trace i lake are at ∙ sym of.reply_is) (sym of.text_is) is

-- ---- the lake after an answer

owns_accepted : (s : Standing) → is_accepted s ≡ is_some (own_of (Stands s))
owns_accepted Nowhere = refl
owns_accepted (Saw at) = refl
owns_accepted (Added at) = refl
owns_accepted (PlannedAndSaw pinned at) = refl
owns_accepted (PlannedAndAdded pinned at) = refl

-- a reply is accepted exactly if its hint has a position of its own
accepted_owns : (reply : Reply) → is_accepted (standing reply) ≡ is_some (own_of (hint_of reply))
accepted_owns NoMemory = refl
accepted_owns reply = owns_accepted (standing reply)

-- an answer that only looks leaves the journal unchanged
pub behind_look : (trace : TraceOf) (i : ℕ) (reply : Reply) (before after : LakeOf) → IsAt trace (made_at (hint_at trace i)) before → IsAfter trace i reply before after → hint_of reply ≡ hint_at trace i
    → own_of (hint_at trace i) ≡ None → IsAt trace (made_at (hint_at trace i)) after
behind_look trace i reply before after at made tells none =
    let refused : is_accepted (standing reply) ≡ false = accepted_owns reply ∙ ap (λ (h : Hint). is_some (own_of h)) tells ∙ ap (λ (o : Option ℕ). is_some o) none in
    let pinned : List Entry = take (pinned_of (hint_at trace i)) before.journal in
    let whats : List What = change_of trace.rules (command_at trace i).task pinned in
    let same : after.journal ≡ before.journal =
    made.adds ∙ ap (λ (b : Bool). before.journal ++ map (entry_with (who_of (command_at trace i))) (cond b whats [])) refused ∙ append-nil before.journal in
    record { limits = made.limits ∙ at.limits; is = same ∙ at.is; long = ap (λ (j : List Entry). length j) same ∙ at.long; held = made.held }

-- an answer that made the next entry has added it
pub behind_owner : NextIsPut → (trace : TraceOf) (i : ℕ) (reply : Reply) (before after : LakeOf) → length trace.hints ≡ length trace.commands → IsAt trace (made_at (hint_at trace i)) before
    → IsAfter trace i reply before after → reply ≡ reply_at trace.rules before.journal (command_at trace i) (hint_at trace i) → hint_of reply ≡ hint_at trace i → IsOwner trace.hints (made_at (hint_at trace i) + 1) i
    → IsAt trace (made_at (hint_at trace i) + 1) after
behind_owner law trace i reply before after size at made is tells owner =
    let command : Command = command_at trace i in
    let hint : Hint = hint_at trace i in
    let now : List Entry = before.journal in
    let next : List Entry = front_of trace (made_at hint + 1) in
    let put : IsPut trace.rules now next command hint =
    law trace.rules trace.commands trace.hints now (made_at hint) i (command_with 0 0 (Merge false)) size owner at.is (ap hint_of (sym is) ∙ tells) in
    let next_is : after.journal ≡ next = made.adds ∙ ap (λ (r : Reply). now ++ entries_of trace.rules (take (pinned_of hint) now) command r) is ∙ sym put.is in
    let long = ap (λ (j : List Entry). length j) next_is in
    record { limits = made.limits ∙ at.limits; is = next_is; long = omega (arith, long, put.one, at.long); held = made.held }
