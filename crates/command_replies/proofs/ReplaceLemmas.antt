-- The reply to a replace, from the results of its parts.
use Rattle.std.proofs.Common.{◌≡◌, refl, ap, sym, ◌∙◌, ℕ, ◌+◌, List, [], length, true, false, cond, ◌⊎◌, inl, inr, Some, None}
use Rattle.std.specs.Prelude.{find}
use Rattle.lake_model.specs.declared.Who.{Who}
use Rattle.lake_model.specs.declared.Counts.{Counts}
use Rattle.lake_model.specs.Texts.{Text}
use Rattle.lake_model.specs.Tables.{Table, members}
use Rattle.lake_model.specs.Journal.{Entry, is_live, counts}
use Rattle.lake_model.specs.Limits.{is_passed, replace_bounds}
use Rattle.catalogue.specs.declared.refusal.ReplaceRefused.{ReplaceRefused}
use Rattle.catalogue.specs.declared.refusal.ReplaceRefused.TheVariants as refused
use Rattle.catalogue.specs.Refusals.{replace_refusal}
use Rattle.script_model.specs.Commands.{Replace}
use Rattle.record_model.specs.Replies.{Reply, Replaced, replace_reply}
use Rattle.record_model.specs.Answered.{TableRead, IsTable, table_read, replace_answer, replaces, adds, is_accepted, standing}
use Rattle.record_model.specs.Play.{reply_or_denied}
use Rattle.record_model.specs.Record.{RunRecord}
use Rattle.command_replies.specs.Loads.{IsRefusal, with_added}
use Rattle.record_model.specs.Rules.{Rules}
use Rattle.command_replies.specs.Replaces.{replace_refusal_reply, replaced_by}
use Rattle.command_replies.proofs.LoadLemmas.{Answers, live_refused, live_accepted, refused_nowhere, added_none}

-- a table that the catalogue refuses
pub refused_replace : (limits : Counts) (table : Table) (journal : List Entry) (e : ReplaceRefused) → (e ≡ refused.NoMemory) ⊎ (replace_refusal limits table journal ≡ Some e)
    → Answers (replace_refusal_reply table.name e) (replace_reply limits table journal)
refused_replace limits table journal e (inl none) = (true, ap (replace_refusal_reply table.name) none)
refused_replace limits table journal e (inr h) = (
  false,
  live_refused (replace_refusal_reply table.name) table.name (length journal) (Replaced table.name (length table.columns) (members table) (length journal + 1))
      (refused.Unknown (length journal)) (λ b. refused.Full b.which b.count b.more (length journal)) refl (λ b. refl) (is_live journal table.name) (find is_passed (replace_bounds limits table (counts journal))) e h,
)

-- a table that nothing refuses
pub accepted_replace : (limits : Counts) (table : Table) (journal : List Entry) → replace_refusal limits table journal ≡ None
    → replace_reply limits table journal ≡ Replaced table.name (length table.columns) (members table) (length journal + 1)
accepted_replace limits table journal h =
    live_accepted (replace_refusal_reply table.name) table.name (length journal) (Replaced table.name (length table.columns) (members table) (length journal + 1))
    (refused.Unknown (length journal)) (λ b. refused.Full b.which b.count b.more (length journal)) (is_live journal table.name) (find is_passed (replace_bounds limits table (counts journal))) h

-- ---- a replace whose bytes are not a table

pub refused_replace_answer : (rules : Rules) (journal : List Entry) (read : TableRead) (reply : Reply) → IsRefusal read reply → Answers reply (replace_answer rules read journal)
refused_replace_answer rules journal read reply (inl none) = (true, none)
refused_replace_answer rules journal read reply (inr (fault, is, said)) = (false, said ∙ ap (λ r. replace_answer rules r journal) (sym is))

pub refused_replace_adds : (rules : Rules) (who : Who) (name : Text) (bytes : List ℕ) (reply : Reply) (made : RunRecord) → IsRefusal (table_read rules.keys name bytes) reply
    → made ≡ with_added who (adds rules (Replace name bytes) made.journal reply) made
refused_replace_adds rules who name bytes reply made why =
    added_none who made ∙ ap (λ b. with_added who (cond b (replaces (table_read rules.keys name bytes)) []) made) (sym (refused_nowhere (table_read rules.keys name bytes) reply why))

-- ---- a replace whose bytes are a table

pub replaced_adds : (rules : Rules) (who : Who) (name : Text) (bytes : List ℕ) (table : Table) (reply : Reply) (made : RunRecord) → table_read rules.keys name bytes ≡ IsTable table
    → with_added who (replaced_by table reply) made ≡ with_added who (adds rules (Replace name bytes) made.journal reply) made
replaced_adds rules who name bytes table reply made is = ap (λ read. with_added who (cond (is_accepted (standing reply)) (replaces read) []) made) (sym is)

pub replaced_answer : (rules : Rules) (journal : List Entry) (read : TableRead) (table : Table) (reply : Reply) → read ≡ IsTable table → Answers reply (replace_reply rules.limits table journal)
    → Answers reply (replace_answer rules read journal)
replaced_answer rules journal read table reply is answers = (answers.0, answers.1 ∙ ap (λ r. reply_or_denied answers.0 (replace_answer rules r journal)) (sym is))
