-- What a lake accepts or refuses, as a reply.
use Rattle.std.proofs.Common.{◌≡◌, refl, ap, sym, ◌∙◌, ℕ, ◌+◌, List, [], ◌∷◌, ◌++◌, append-nil, length, length-append, true, false, map, ◌⊎◌, Option, Some, None, arith}
use Rattle.lake_model.specs.declared.Counts.{Counts}
use Rattle.lake_model.specs.Texts.{Text}
use Rattle.lake_model.specs.Tables.{Table, members}
use Rattle.lake_model.specs.Journal.{Entry, What, Loaded as LoadedWhat, Dropped as DroppedWhat, Replaced as ReplacedWhat, entry_with, who_with}
use Rattle.turn_lock.specs.History.{Grows}
use Rattle.turn_lock.specs.Passes.{Known, callers_of}
use Rattle.turn_lock.proofs.Histories.{grows_self}
use Rattle.catalogue.specs.declared.refusal.LoadRefused.{LoadRefused}
use Rattle.catalogue.specs.declared.refusal.LoadRefused.TheVariants as refused
use Rattle.catalogue.specs.declared.refusal.DropRefused.{DropRefused}
use Rattle.catalogue.specs.declared.refusal.DropRefused.TheVariants as dropping
use Rattle.catalogue.specs.declared.refusal.ReplaceRefused.{ReplaceRefused}
use Rattle.catalogue.specs.declared.refusal.ReplaceRefused.TheVariants as replacing
use Rattle.catalogue.specs.Refusals.{load_refusal, drop_refusal, replace_refusal}
use Rattle.lake.specs.Lawful.{caller_of, IsAccepted}
use Rattle.record_model.specs.Replies.{Reply, NoMemory, Loaded, Dropped, Replaced, load_reply, drop_reply, replace_reply}
use Rattle.command_replies.specs.Loads.{loaded_by, refusal_reply}
use Rattle.command_replies.specs.Drops.{drop_refusal_reply}
use Rattle.command_replies.specs.Replaces.{replace_refusal_reply, replaced_by}
use Rattle.command_replies.proofs.LoadLemmas.{Answers, refused_load, accepted_load, refused_drop, accepted_drop}
use Rattle.command_replies.proofs.ReplaceLemmas.{refused_replace, accepted_replace}
use Rattle.command_replies.specs.Drops.{dropped_by}
use Rattle.lake_desk.specs.Answering.{IsMade}

-- the position of an accepted entry
at_end : (found after : List Entry) (entry : Entry) (at : ℕ) → after ≡ found ++ entry ∷ [] → at ≡ length after → at ≡ length found + 1
at_end found after entry at ends is = omega (arith, is, ap (λ (j : List Entry). length j) ends, length-append found (entry ∷ []))

-- the result of an accepted change, if the answer is the accepting one at a journal at which nothing refuses it
made_by : {R : Type 0} (refusal : List Entry → Option R) (answer : List Entry → Reply) (adds : Reply → List What) (said : ℕ → Reply) (what : What)
    → ((found : List Entry) → refusal found ≡ None → answer found ≡ said (length found + 1)) → ((at : ℕ) → adds (said at) ≡ what ∷ [])
    → (number at : ℕ) (before : Known Entry) (reply : Reply) (after : List Entry)
    → IsAccepted refusal (callers_of before) before.seen (entry_with (who_with before.caller number) what) at after → reply ≡ said at → IsMade answer adds number before reply after
made_by refusal answer adds said what answers one number at before reply after accepted is =
    let found = accepted.added.found in
    record {
      found = found;
      denied = false;
      grows = accepted.added.grows;
      is = is ∙ ap said (at_end found after _ at accepted.added.ends accepted.position) ∙ sym (answers found accepted.allowed);
      added = accepted.added.ends ∙ ap (λ (ws : List What). found ++ map (entry_with (who_with before.caller number)) ws) (sym (one at) ∙ ap adds (sym is));
    }

-- the result of a refused change
unmade_by : (answer : List Entry → Reply) (adds : Reply → List What) (number : ℕ) (before : Known Entry) (reply said : Reply) (after : List Entry)
    → Grows caller_of (callers_of before) before.seen after → Answers said (answer after) → adds said ≡ [] → reply ≡ said → IsMade answer adds number before reply after
unmade_by answer adds number before reply said after grows (denied, answers) none is = record {
  found = after;
  denied = denied;
  grows = grows;
  is = is ∙ answers;
  added = sym (append-nil after) ∙ ap (λ (ws : List What). after ++ map (entry_with (who_with before.caller number)) ws) (sym none ∙ ap adds (sym is));
}

-- the result of a change for which memory ran out before the lake was asked
pub denied_unmade : (answer : List Entry → Reply) (adds : Reply → List What) (number : ℕ) (before : Known Entry) → adds NoMemory ≡ [] → IsMade answer adds number before NoMemory before.seen
denied_unmade answer adds number before none =
    unmade_by answer adds number before NoMemory NoMemory before.seen (grows_self caller_of (callers_of before) before.seen) (true, refl) none refl

-- ---- loads

pub load_made : (limits : Counts) (table : Table) (number at : ℕ) (before : Known Entry) (reply : Reply) (after : List Entry)
    → IsAccepted (load_refusal limits table) (callers_of before) before.seen (entry_with (who_with before.caller number) (LoadedWhat table)) at after
    → reply ≡ Loaded table.name (length table.columns) (members table) at
    → IsMade (load_reply limits table) (loaded_by table) number before reply after
load_made limits table = made_by (load_refusal limits table) (load_reply limits table) (loaded_by table) (Loaded table.name (length table.columns) (members table)) (LoadedWhat table) (accepted_load limits table) (λ at. refl)

load_adds_none : (table : Table) (e : LoadRefused) → loaded_by table (refusal_reply table.name e) ≡ []
load_adds_none table (refused.Repeated at) = refl
load_adds_none table (refused.Full which count more at) = refl
load_adds_none table refused.NoMemory = refl

pub load_unmade : (limits : Counts) (table : Table) (number : ℕ) (before : Known Entry) (reply : Reply) (after : List Entry) (e : LoadRefused)
    → Grows caller_of (callers_of before) before.seen after → (e ≡ refused.NoMemory) ⊎ (load_refusal limits table after ≡ Some e) → reply ≡ refusal_reply table.name e
    → IsMade (load_reply limits table) (loaded_by table) number before reply after
load_unmade limits table number before reply after e grows why is =
    unmade_by (load_reply limits table) (loaded_by table) number before reply (refusal_reply table.name e) after grows (refused_load limits table after e why) (load_adds_none table e) is

-- ---- drops

pub drop_made : (limits : Counts) (name : Text) (number at : ℕ) (before : Known Entry) (reply : Reply) (after : List Entry)
    → IsAccepted (drop_refusal limits name) (callers_of before) before.seen (entry_with (who_with before.caller number) (DroppedWhat name)) at after
    → reply ≡ Dropped name at
    → IsMade (drop_reply limits name) (dropped_by name) number before reply after
drop_made limits name = made_by (drop_refusal limits name) (drop_reply limits name) (dropped_by name) (Dropped name) (DroppedWhat name) (accepted_drop limits name) (λ at. refl)

drop_adds_none : (name : Text) (e : DropRefused) → dropped_by name (drop_refusal_reply name e) ≡ []
drop_adds_none name (dropping.Unknown at) = refl
drop_adds_none name (dropping.Full which count more at) = refl
drop_adds_none name dropping.NoMemory = refl

pub drop_unmade : (limits : Counts) (name : Text) (number : ℕ) (before : Known Entry) (reply : Reply) (after : List Entry) (e : DropRefused)
    → Grows caller_of (callers_of before) before.seen after → (e ≡ dropping.NoMemory) ⊎ (drop_refusal limits name after ≡ Some e) → reply ≡ drop_refusal_reply name e
    → IsMade (drop_reply limits name) (dropped_by name) number before reply after
drop_unmade limits name number before reply after e grows why is =
    unmade_by (drop_reply limits name) (dropped_by name) number before reply (drop_refusal_reply name e) after grows (refused_drop limits name after e why) (drop_adds_none name e) is

-- ---- replaces

pub replace_made : (limits : Counts) (table : Table) (number at : ℕ) (before : Known Entry) (reply : Reply) (after : List Entry)
    → IsAccepted (replace_refusal limits table) (callers_of before) before.seen (entry_with (who_with before.caller number) (ReplacedWhat table)) at after
    → reply ≡ Replaced table.name (length table.columns) (members table) at
    → IsMade (replace_reply limits table) (replaced_by table) number before reply after
replace_made limits table =
    made_by (replace_refusal limits table) (replace_reply limits table) (replaced_by table) (Replaced table.name (length table.columns) (members table)) (ReplacedWhat table) (accepted_replace limits table) (λ at. refl)

replace_adds_none : (table : Table) (e : ReplaceRefused) → replaced_by table (replace_refusal_reply table.name e) ≡ []
replace_adds_none table (replacing.Unknown at) = refl
replace_adds_none table (replacing.Full which count more at) = refl
replace_adds_none table replacing.NoMemory = refl

pub replace_unmade : (limits : Counts) (table : Table) (number : ℕ) (before : Known Entry) (reply : Reply) (after : List Entry) (e : ReplaceRefused)
    → Grows caller_of (callers_of before) before.seen after → (e ≡ replacing.NoMemory) ⊎ (replace_refusal limits table after ≡ Some e) → reply ≡ replace_refusal_reply table.name e
    → IsMade (replace_reply limits table) (replaced_by table) number before reply after
replace_unmade limits table number before reply after e grows why is =
    unmade_by (replace_reply limits table) (replaced_by table) number before reply (replace_refusal_reply table.name e) after grows (refused_replace limits table after e why) (replace_adds_none table e) is
