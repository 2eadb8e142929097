-- What is held for work that has begun: how long it stays valid, and the reply that is made with it.
use Rattle.std.proofs.Common.{◌≡◌, refl, ap, sym, ◌∙◌, subst, ℕ, ◌≤◌, List, [], ◌++◌, true, false, length, take, cond, Option, Some, None, arith, length-append}
use Rattle.std.proofs.lemmas.List.{take-append-le, take_all}
use Rattle.segment_core.specs.Versions.{VersionOf}
use Rattle.record_model.specs.Rules.{Rules}
use Rattle.lake_model.specs.declared.Policy.{Policy}
use Rattle.lake_model.specs.declared.Who.{Who}
use Rattle.lake_model.specs.Journal.{What, Entry}
use Rattle.script_model.specs.Commands.{Task, Load, LoadFile, DropTable, Replace, Tables, Search, Like, Contain, AsOf, Merge}
use Rattle.record_model.specs.Replies.{Reply, NoMemory}
use Rattle.record_model.specs.Answered.{answer_to, adds, change_of, has_pin, is_accepted, policy_of, standing}
use Rattle.record_model.specs.Play.{reply_or_denied}
use Rattle.record_model.specs.Record.{RunRecord}
use Rattle.record_model.proofs.LegalLemmas.{either_none}
use Rattle.batch_work.specs.Works.{merge_policy}
use Rattle.command_replies.specs.declared.answering.Held.{Held}
use Rattle.command_replies.specs.declared.answering.Held.TheVariants.{At, Swap, Denied}
use Rattle.command_replies.specs.declared.merging.Planned.{Planned}
use Rattle.command_replies.specs.Held.{IsHeldAt}
use Rattle.command_replies.specs.Loads.{with_added}
use Rattle.command_replies.specs.Merging.{CanSwap, swap_reply, swapped_by}
use Rattle.command_replies.specs.Searches.{IsPinOf}
use Rattle.command_replies.proofs.LoadLemmas.{Answers, added_none}
use Rattle.command_replies.proofs.MergeLemmas.{planned_change, planned_later, planned_reply}

-- work with a pin that is not a merge changes nothing
no_change : (rules : Rules) (task : Task) (pinned : List Entry) → has_pin task ≡ true → merge_policy task ≡ None → change_of rules task pinned ≡ []
no_change rules (Load name body) pinned kind plain = absurd (let f : false ≡ true = kind in cc)
no_change rules (LoadFile name file) pinned kind plain = absurd (let f : false ≡ true = kind in cc)
no_change rules (DropTable name) pinned kind plain = absurd (let f : false ≡ true = kind in cc)
no_change rules (Replace name body) pinned kind plain = absurd (let f : false ≡ true = kind in cc)
no_change rules Tables pinned kind plain = absurd (let f : false ≡ true = kind in cc)
no_change rules (Search k body) pinned kind plain = refl
no_change rules (Like k name place) pinned kind plain = refl
no_change rules (Contain a b body) pinned kind plain = refl
no_change rules (AsOf asked k body) pinned kind plain = absurd (let f : false ≡ true = kind in cc)
no_change rules (Merge all) pinned kind plain = absurd (let f : Some (policy_of all) ≡ None = plain in cc)

none_added : (rules : Rules) (task : Task) (pinned : List Entry) (reply : Reply) → has_pin task ≡ true → merge_policy task ≡ None → adds rules task pinned reply ≡ []
none_added rules task pinned reply kind plain =
    ap (λ (whats : List What). cond (is_accepted (standing reply)) whats []) (no_change rules task pinned kind plain) ∙ either_none (is_accepted (standing reply))

-- what such work adds to a record
pub pinned_adds : (rules : Rules) (who : Who) (task : Task) (pinned : List Entry) (reply : Reply) (made : RunRecord) → has_pin task ≡ true → merge_policy task ≡ None → made ≡ with_added who (adds rules task pinned reply) made
pinned_adds rules who task pinned reply made kind plain = added_none who made ∙ ap (λ (whats : List What). with_added who whats made) (sym (none_added rules task pinned reply kind plain))

-- nothing is added if memory runs out
pub denied_adds : (rules : Rules) (who : Who) (task : Task) (pinned : List Entry) (made : RunRecord) → made ≡ with_added who (adds rules task pinned NoMemory) made
denied_adds rules who task pinned made = added_none who made

-- the reply at a pin depends on the pin alone
pub pinned_alone : (rules : Rules) (task : Task) (pinned now : List Entry) → has_pin task ≡ true → merge_policy task ≡ None → answer_to rules task pinned now ≡ answer_to rules task pinned pinned
pinned_alone rules (Load name body) pinned now kind plain = absurd (let f : false ≡ true = kind in cc)
pinned_alone rules (LoadFile name file) pinned now kind plain = absurd (let f : false ≡ true = kind in cc)
pinned_alone rules (DropTable name) pinned now kind plain = absurd (let f : false ≡ true = kind in cc)
pinned_alone rules (Replace name body) pinned now kind plain = absurd (let f : false ≡ true = kind in cc)
pinned_alone rules Tables pinned now kind plain = absurd (let f : false ≡ true = kind in cc)
pinned_alone rules (Search k body) pinned now kind plain = refl
pinned_alone rules (Like k name place) pinned now kind plain = refl
pinned_alone rules (Contain a b body) pinned now kind plain = refl
pinned_alone rules (AsOf asked k body) pinned now kind plain = absurd (let f : false ≡ true = kind in cc)
pinned_alone rules (Merge all) pinned now kind plain = absurd (let f : Some (policy_of all) ≡ None = plain in cc)

-- what is held stays valid when entries follow
pub held_at_grows : (journal more : List Entry) (policy : Option Policy) (held : Held) → IsHeldAt journal policy held → IsHeldAt (journal ++ more) policy held
held_at_grows journal more None (At version) is =
    let long : version.at ≤ length (journal ++ more) = omega (arith, is.0, length-append journal more) in
    let same : take version.at journal ≡ take version.at (journal ++ more) = sym (take-append-le version.at journal more is.0) in
    (long, subst (λ (j : List Entry). IsPinOf j version) same is.1)
held_at_grows journal more None (Swap planned) is = is
held_at_grows journal more None (Denied at) is = is
held_at_grows journal more (Some policy) (At version) is = is
held_at_grows journal more (Some policy) (Swap planned) is = planned_later policy journal more planned is
held_at_grows journal more (Some policy) (Denied at) is = is

-- the newest version
pub held_newest : (journal : List Entry) (version : VersionOf) → IsPinOf journal version → IsHeldAt journal None (At version)
held_newest journal version is =
    let here : version.at ≡ length journal = ap (λ (v : VersionOf). v.at) is.current in
    let whole : take version.at journal ≡ journal = ap (λ (n : ℕ). take n journal) here ∙ take_all (length journal) journal (omega arith) in
    (omega (arith, here), subst (λ (j : List Entry). IsPinOf j version) (sym whole) is)

-- A version is not held for a merge, and a plan is held only for one.
pub at_no_merge : (journal : List Entry) (policy : Option Policy) (version : VersionOf) → IsHeldAt journal policy (At version) → policy ≡ None
at_no_merge journal None version is = refl
at_no_merge journal (Some policy) version is = absurd is

-- the reply at a pin that is held
pub held_answer : (rules : Rules) (task : Task) (journal : List Entry) (version : VersionOf) (reply : Reply) → has_pin task ≡ true → IsHeldAt journal (merge_policy task) (At version)
    → ((pinned : List Entry) → IsPinOf pinned version → Answers reply (answer_to rules task pinned pinned)) → Answers reply (answer_to rules task (take version.at journal) journal)
held_answer rules task journal version reply kind holds answers =
    let plain = at_no_merge journal (merge_policy task) version holds in
    let here : IsHeldAt journal None (At version) = subst (λ (policy : Option Policy). IsHeldAt journal policy (At version)) plain holds in
    let there : Answers reply (answer_to rules task (take version.at journal) (take version.at journal)) = answers (take version.at journal) here.1 in
    (there.0, there.1 ∙ ap (reply_or_denied there.0) (sym (pinned_alone rules task (take version.at journal) journal kind plain)))

-- what is held for a merge can be swapped
pub held_can : (journal : List Entry) (policy : Option Policy) (planned : Planned) → IsHeldAt journal policy (Swap planned) → CanSwap journal planned.merged
held_can journal None planned is = absurd is
held_can journal (Some policy) planned is = is.swaps

-- the reply to the swap
pub held_swap : (rules : Rules) (task : Task) (journal : List Entry) (planned : Planned) (reply : Reply) → IsHeldAt journal (merge_policy task) (Swap planned)
    → Answers reply (swap_reply planned.layout planned.merged journal) → Answers reply (answer_to rules task (take planned.layout.at journal) journal)
held_swap rules (Merge all) journal planned reply is answers = (answers.0, answers.1 ∙ ap (reply_or_denied answers.0) (planned_reply (policy_of all) journal planned is))
held_swap rules (Load name body) journal planned reply is answers = absurd is
held_swap rules (LoadFile name file) journal planned reply is answers = absurd is
held_swap rules (DropTable name) journal planned reply is answers = absurd is
held_swap rules (Replace name body) journal planned reply is answers = absurd is
held_swap rules Tables journal planned reply is answers = absurd is
held_swap rules (Search k body) journal planned reply is answers = absurd is
held_swap rules (Like k name place) journal planned reply is answers = absurd is
held_swap rules (Contain a b body) journal planned reply is answers = absurd is
held_swap rules (AsOf asked k body) journal planned reply is answers = absurd is

-- and what it adds
pub held_adds : (rules : Rules) (task : Task) (journal made : List Entry) (planned : Planned) (reply : Reply) → IsHeldAt journal (merge_policy task) (Swap planned) → made ≡ journal
    → swapped_by planned.merged reply ≡ adds rules task (take planned.layout.at made) reply
held_adds rules (Merge all) journal made planned reply is same =
    ap (λ (whats : List What). cond (is_accepted (standing reply)) whats []) (planned_change (policy_of all) journal planned is)
    ∙ ap (λ (j : List Entry). adds rules (Merge all) (take planned.layout.at j) reply) (sym same)
held_adds rules (Load name body) journal made planned reply is same = absurd is
held_adds rules (LoadFile name file) journal made planned reply is same = absurd is
held_adds rules (DropTable name) journal made planned reply is same = absurd is
held_adds rules (Replace name body) journal made planned reply is same = absurd is
held_adds rules Tables journal made planned reply is same = absurd is
held_adds rules (Search k body) journal made planned reply is same = absurd is
held_adds rules (Like k name place) journal made planned reply is same = absurd is
held_adds rules (Contain a b body) journal made planned reply is same = absurd is
held_adds rules (AsOf asked k body) journal made planned reply is same = absurd is
