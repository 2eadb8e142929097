-- The replies to a load and to a search, from the results of their parts.
use Rattle.std.proofs.Common.{◌≡◌, refl, ap, sym, ◌∙◌, ℕ, ◌+◌, List, [], ◌∷◌, ◌++◌, append-nil, length, length-append, Bool, true, false, cond, ◌⊎◌, inl, inr, Option, Some, None}
use Rattle.std.specs.Prelude.{option_map, find}
use Rattle.lake_model.specs.declared.Who.{Who}
use Rattle.lake_model.specs.declared.Counts.{Counts}
use Rattle.lake_model.specs.declared.CsvRefused.{CsvRefused}
use Rattle.lake_model.specs.declared.CsvRefused.TheVariants as csv
use Rattle.lake_model.specs.declared.SetRefused.{SetRefused}
use Rattle.lake_model.specs.declared.SetRefused.TheVariants as sets
use Rattle.lake_model.specs.declared.QueryRefused.{QueryRefused}
use Rattle.lake_model.specs.declared.QueryRefused.TheVariants as query
use Rattle.lake_model.specs.Texts.{Text}
use Rattle.lake_model.specs.Tables.{Table, members}
use Rattle.lake_model.specs.declared.Keys.{Keys}
use Rattle.lake_model.specs.Records.{Record, records_of, csv_fault, most_columns, sets_fault, table_of}
use Rattle.lake_model.specs.Queries.{query_of, query_fault}
use Rattle.lake_model.specs.Journal.{What, Entry, entry_with, is_live, live, counts}
use Rattle.lake_model.specs.Journal as entries
use Rattle.lake_model.specs.Limits.{Bounded, is_passed, load_bounds, drop_bounds}
use Rattle.catalogue.specs.declared.refusal.LoadRefused.{LoadRefused}
use Rattle.catalogue.specs.declared.refusal.LoadRefused.TheVariants as refused
use Rattle.catalogue.specs.declared.refusal.DropRefused.{DropRefused}
use Rattle.catalogue.specs.declared.refusal.DropRefused.TheVariants as dropping
use Rattle.catalogue.specs.Refusals.{load_refusal, drop_refusal}
use Rattle.catalogue.specs.Kept.{CatalogueOf, catalogue_with}
use Rattle.script_model.specs.Commands.{Load}
use Rattle.record_model.specs.Rules.{Rules}
use Rattle.record_model.specs.Replies.{Reply, Fault, Loaded, Dropped, Unknown, Full, Repeated, OfCsv, OfSets, OfQuery, fault_reply, csv_reply, sets_reply, query_reply, load_reply, drop_reply, unless_lake_full}
use Rattle.record_model.specs.Answered.{TableRead, IsTable, QueryRead, IsQuery, NoQuery, table_read, query_read, records_read, sets_read, keys_read, load_answer, loads, adds, is_accepted, standing}
use Rattle.record_model.specs.Play.{reply_or_denied}
use Rattle.record_model.specs.Record.{RunRecord}
use Rattle.record_model.proofs.PlayLemmas.{fault_nowhere}
use Rattle.command_replies.specs.Drops.{drop_refusal_reply, dropped_by}
use Rattle.command_replies.specs.Loads.{IsRefusal, refusal_reply, loaded_by, with_added}

-- the reply is this one, or that memory ran out
abbrev pub Answers : Reply → Reply → Type 0
Answers reply wanted = (denied : Bool) × (reply ≡ reply_or_denied denied wanted)

refusal_said : (table : Table) (n : ℕ) (accepted : Reply) (b : Bool) (o : Option Bounded) (e : LoadRefused)
    → cond b (Some (refused.Repeated n)) (option_map (λ x. refused.Full x.which x.count x.more n) o) ≡ Some e
    → refusal_reply table.name e ≡ cond b (Repeated table.name n) (unless_lake_full n accepted o)
refusal_said table n accepted true o e h = let same : e ≡ refused.Repeated n = cc in ap (refusal_reply table.name) same
refusal_said table n accepted false None e h = absurd (let f : None ≡ Some e = h in cc)
refusal_said table n accepted false (Some x) e h = let same : e ≡ refused.Full x.which x.count x.more n = cc in ap (refusal_reply table.name) same

-- a table that the catalogue refuses
pub refused_load : (limits : Counts) (table : Table) (journal : List Entry) (e : LoadRefused) → (e ≡ refused.NoMemory) ⊎ (load_refusal limits table journal ≡ Some e)
    → Answers (refusal_reply table.name e) (load_reply limits table journal)
refused_load limits table journal e (inl none) = (true, ap (refusal_reply table.name) none)
refused_load limits table journal e (inr h) =
    (false, refusal_said table (length journal) _ (is_live journal table.name) (find is_passed (load_bounds limits table (counts journal))) e h)

accepted_said : (table : Table) (n : ℕ) (accepted : Reply) (b : Bool) (o : Option Bounded)
    → cond b (Some (refused.Repeated n)) (option_map (λ x. refused.Full x.which x.count x.more n) o) ≡ None
    → cond b (Repeated table.name n) (unless_lake_full n accepted o) ≡ accepted
accepted_said table n accepted true o h = absurd (let f : Some (refused.Repeated n) ≡ None = h in cc)
accepted_said table n accepted false None h = refl
accepted_said table n accepted false (Some x) h = absurd (let f : Some (refused.Full x.which x.count x.more n) ≡ None = h in cc)

-- a table that nothing refuses
pub accepted_load : (limits : Counts) (table : Table) (journal : List Entry) → load_refusal limits table journal ≡ None
    → load_reply limits table journal ≡ Loaded table.name (length table.columns) (members table) (length journal + 1)
accepted_load limits table journal h = accepted_said table (length journal) _ (is_live journal table.name) (find is_passed (load_bounds limits table (counts journal))) h

-- the position of an entry that was added
pub added_at : (catalogue : CatalogueOf) (limits : Counts) (journal : List Entry) (entry : Entry) (at : ℕ) → catalogue ≡ catalogue_with limits (journal ++ entry ∷ []) → at ≡ length catalogue.journal
    → at ≡ length journal + 1
added_at catalogue limits journal entry at is h = h ∙ ap (λ (c : CatalogueOf). length c.journal) is ∙ length-append journal (entry ∷ [])

-- ---- what is read of a block

module _ (keys : Keys) (name : Text) (bytes : List ℕ) (most : ℕ) (most_is : most ≡ most_columns keys) where
  -- the limit on columns is the one for these keys
  allowed : csv_fault most bytes ≡ csv_fault (most_columns keys) bytes
  allowed = ap (λ (n : ℕ). csv_fault n bytes) most_is

  pub csv_refusal : (e : CsvRefused) → (e ≡ csv.NoMemory) ⊎ (csv_fault most bytes ≡ Some e) → IsRefusal (table_read keys name bytes) (csv_reply e)
  unfolding table_read
  csv_refusal e (inl none) = inl (ap csv_reply none)
  csv_refusal e (inr h) = inr (OfCsv e, ap (records_read keys name (records_of bytes)) (sym allowed ∙ h), refl)

  sets_of : csv_fault most bytes ≡ None → table_read keys name bytes ≡ sets_read keys name (records_of bytes) (sets_fault keys (records_of bytes))
  unfolding table_read
  sets_of none = ap (records_read keys name (records_of bytes)) (sym allowed ∙ none)

  pub sets_refusal : (rows : List Record) (e : SetRefused) → csv_fault most bytes ≡ None → rows ≡ records_of bytes
      → (e ≡ sets.NoMemory) ⊎ (sets_fault keys rows ≡ Some e) → IsRefusal (table_read keys name bytes) (sets_reply e)
  sets_refusal rows e none same (inl memory) = inl (ap sets_reply memory)
  sets_refusal rows e none same (inr h) =
      inr (OfSets e, sets_of none ∙ ap (sets_read keys name (records_of bytes)) (ap (sets_fault keys) (sym same) ∙ h), refl)

  pub table_made : (rows : List Record) → csv_fault most bytes ≡ None → rows ≡ records_of bytes → sets_fault keys rows ≡ None → table_read keys name bytes ≡ IsTable (table_of keys name rows)
  table_made rows none same small =
      sets_of none ∙ ap (sets_read keys name (records_of bytes)) (ap (sets_fault keys) (sym same) ∙ small) ∙ ap (λ r. IsTable (table_of keys name r)) (sym same)

-- ---- a load whose bytes are not a table

pub refused_nowhere : (read : TableRead) (reply : Reply) → IsRefusal read reply → is_accepted (standing reply) ≡ false
refused_nowhere read reply (inl none) = ap (λ r. is_accepted (standing r)) none
refused_nowhere read reply (inr (fault, is, said)) = ap (λ r. is_accepted (standing r)) said ∙ ap is_accepted (fault_nowhere fault)

pub refused_answer : (rules : Rules) (journal : List Entry) (read : TableRead) (reply : Reply) → IsRefusal read reply → Answers reply (load_answer rules read journal)
refused_answer rules journal read reply (inl none) = (true, none)
refused_answer rules journal read reply (inr (fault, is, said)) = (false, said ∙ ap (λ r. load_answer rules r journal) (sym is))

pub added_none : (who : Who) (made : RunRecord) → made ≡ with_added who [] made
added_none who made = λ i. record made { journal = sym (append-nil made.journal) i }

pub refused_adds : (rules : Rules) (who : Who) (name : Text) (bytes : List ℕ) (reply : Reply) (made : RunRecord) → IsRefusal (table_read rules.keys name bytes) reply
    → made ≡ with_added who (adds rules (Load name bytes) made.journal reply) made
refused_adds rules who name bytes reply made why =
    added_none who made ∙ ap (λ (b : Bool). with_added who (cond b (loads (table_read rules.keys name bytes)) []) made) (sym (refused_nowhere (table_read rules.keys name bytes) reply why))

pub loaded_adds : (rules : Rules) (who : Who) (name : Text) (bytes : List ℕ) (table : Table) (reply : Reply) (made : RunRecord) → table_read rules.keys name bytes ≡ IsTable table
    → with_added who (loaded_by table reply) made ≡ with_added who (adds rules (Load name bytes) made.journal reply) made
loaded_adds rules who name bytes table reply made is = ap (λ read. with_added who (cond (is_accepted (standing reply)) (loads read) []) made) (sym is)

pub loaded_answer : (rules : Rules) (journal : List Entry) (read : TableRead) (table : Table) (reply : Reply) → read ≡ IsTable table → Answers reply (load_reply rules.limits table journal)
    → Answers reply (load_answer rules read journal)
loaded_answer rules journal read table reply is answers = (answers.0, answers.1 ∙ ap (λ r. reply_or_denied answers.0 (load_answer rules r journal)) (sym is))

-- ---- searches

-- whatever the reply to a query is, a body that is not a query is refused for its fault
pub query_refused : (keys : Keys) (answer : QueryRead → Reply) → ((fault : Fault) → answer (NoQuery fault) ≡ fault_reply fault) → (bytes : List ℕ) (e : QueryRefused) → (e ≡ query.NoMemory) ⊎ (query_fault keys bytes ≡ Some e)
    → Answers (query_reply e) (answer (query_read keys bytes))
unfolding query_read
query_refused keys answer refuses bytes e (inl none) = (true, ap query_reply none)
query_refused keys answer refuses bytes e (inr h) = (false, sym (refuses (OfQuery e)) ∙ ap (λ fault. answer (keys_read keys bytes fault)) (sym h))

pub query_found : (keys : Keys) (answer : QueryRead → Reply) (bytes : List ℕ) (query : List Text) → query_fault keys bytes ≡ None → query ≡ query_of keys bytes → answer (IsQuery query) ≡ answer (query_read keys bytes)
unfolding query_read
query_found keys answer bytes query none same = ap (λ ks. answer (IsQuery ks)) same ∙ ap (λ fault. answer (keys_read keys bytes fault)) (sym none)

-- ---- drops

-- A name that must be live is unknown, or else a limit refuses the command, or it is accepted: as a refusal states it, and as a reply does.
module _ {R : Type 0} (say : R → Reply) (name : Text) (n : ℕ) (accepted : Reply) (unknown : R) (full : Bounded → R) where
  pub live_refused : say unknown ≡ Unknown name n → ((x : Bounded) → say (full x) ≡ Full x.which x.count x.more n) → (b : Bool) (o : Option Bounded) (e : R)
      → cond b (option_map full o) (Some unknown) ≡ Some e → say e ≡ cond b (unless_lake_full n accepted o) (Unknown name n)
  live_refused unknown_said full_said false o e h = let same : e ≡ unknown = cc in ap say same ∙ unknown_said
  live_refused unknown_said full_said true None e h = absurd (let f : None ≡ Some e = h in cc)
  live_refused unknown_said full_said true (Some x) e h = let same : e ≡ full x = cc in ap say same ∙ full_said x

  pub live_accepted : (b : Bool) (o : Option Bounded) → cond b (option_map full o) (Some unknown) ≡ None → cond b (unless_lake_full n accepted o) (Unknown name n) ≡ accepted
  live_accepted false o h = absurd (let f : Some unknown ≡ None = h in cc)
  live_accepted true None h = refl
  live_accepted true (Some x) h = absurd (let f : Some (full x) ≡ None = h in cc)

-- a drop that the catalogue refuses
pub refused_drop : (limits : Counts) (name : Text) (journal : List Entry) (e : DropRefused) → (e ≡ dropping.NoMemory) ⊎ (drop_refusal limits name journal ≡ Some e)
    → Answers (drop_refusal_reply name e) (drop_reply limits name journal)
refused_drop limits name journal e (inl none) = (true, ap (drop_refusal_reply name) none)
refused_drop limits name journal e (inr h) = (
  false,
  live_refused (drop_refusal_reply name) name (length journal) (Dropped name (length journal + 1)) (dropping.Unknown (length journal)) (λ b. dropping.Full b.which b.count b.more (length journal)) refl (λ b. refl)
      (is_live journal name) (find is_passed (drop_bounds limits (counts journal))) e h,
)

-- a drop that nothing refuses
pub accepted_drop : (limits : Counts) (name : Text) (journal : List Entry) → drop_refusal limits name journal ≡ None → drop_reply limits name journal ≡ Dropped name (length journal + 1)
accepted_drop limits name journal h =
    live_accepted (drop_refusal_reply name) name (length journal) (Dropped name (length journal + 1)) (dropping.Unknown (length journal)) (λ b. dropping.Full b.which b.count b.more (length journal))
    (is_live journal name) (find is_passed (drop_bounds limits (counts journal))) h

refusal_adds_none : (name : Text) (e : DropRefused) → is_accepted (standing (drop_refusal_reply name e)) ≡ false
refusal_adds_none name (dropping.Unknown at) = refl
refusal_adds_none name (dropping.Full which count more at) = refl
refusal_adds_none name dropping.NoMemory = refl

pub refused_drop_adds : (who : Who) (name : Text) (e : DropRefused) (made : RunRecord) → made ≡ with_added who (dropped_by name (drop_refusal_reply name e)) made
refused_drop_adds who name e made =
    added_none who made ∙ ap (λ (b : Bool). with_added who (cond b (entries.Dropped name ∷ []) []) made) (sym (refusal_adds_none name e))
